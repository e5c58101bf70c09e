-- What is said where no run begins, and the exit status.
use Rattle.std.specs.Prelude.{ℕ, List, codes}
use Rattle.rz_tools_host.specs.declared.hindrance.Hindrance.{Hindrance}
use Rattle.rz_tools_host.specs.declared.hindrance.Hindrance.TheVariants.{NoArguments, NoMoment, NoMemory}

abbrev pub line_of : Hindrance → List ℕ
line_of NoArguments = codes "rezkit: no words\n"
line_of NoMoment = codes "rezkit: SOURCE_DATE_EPOCH isn't a decimal number from 0 to 2208988799\n"
line_of NoMemory = codes "rezkit: no memory\n"

abbrev pub status_of : Hindrance → ℕ
status_of NoArguments = 5
status_of NoMoment = 5
status_of NoMemory = 4

-- The lines that are written for each outcome.
use Rattle.std.specs.Prelude.{ℕ, List, ◌++◌, codes}
use Rattle.rz_core.specs.Decimal.{decimal_of}

-- the line of words that are no command
unfoldable pub usage_line : ℕ → List ℕ
usage_line position = codes "rezkit: usage: word " ++ decimal_of position ++ codes "\n"

abbrev pub read_fault_line : List ℕ
read_fault_line = codes "rezkit: read fault\n"

abbrev pub write_fault_line : List ℕ
write_fault_line = codes "rezkit: write fault\n"

abbrev pub no_memory_line : List ℕ
no_memory_line = codes "rezkit: no memory\n"

-- The broken rules of a fork as text.
use Rattle.std.specs.Prelude.{ℕ, List, [], ◌++◌, length, codes, unwrap_or}
use Rattle.std.specs.List.{flat_map}
use Rattle.rz_core.specs.Decimal.{decimal_of}
use Rattle.rz_core.specs.Message.{fault_name}
use Rattle.rz_fork.specs.declared.fault.ForkFault.{ForkFault}
use Rattle.rz_fork.specs.Breaks.{breaks}

-- the name of a rule of admission
abbrev pub rule_name : ℕ → List ℕ
rule_name number = unwrap_or (fault_name number) []

-- its number and its name
unfoldable pub rule_of : ℕ → List ℕ
rule_of number = decimal_of number ++ codes " " ++ rule_name number

-- a word and a number after it
unfoldable pub told : List ℕ → ℕ → List ℕ
told word number = word ++ decimal_of number

-- a broken rule, where it is broken and what it found there
unfoldable pub line_of : ForkFault → List ℕ
line_of fault = rule_of fault.number ++ told (codes " offset ") fault.offset ++ told (codes " value ") fault.value ++ codes "\n"

-- a line for each broken rule, and one that says how many there are
abbrev pub breaks_text : List ℕ → List ℕ
breaks_text bytes = flat_map line_of (breaks bytes) ++ told (codes "broken ") (length (breaks bytes)) ++ codes "\n"

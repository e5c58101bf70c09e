-- The faults of AppleDouble, AppleSingle and MacBinary, and what the writers refuse.
use Rattle.std.specs.Prelude.{◌≡◌, true, ℕ, pos, ◌||◌, nat_lt, Bool, if◌then◌else◌, List, [], ◌∷◌, length}
use Rattle.std.specs.declared.option.Option.{Option}
use Rattle.std.specs.declared.option.Option.TheVariants.{Some, None}
use Rattle.rz_core.specs.Lists.{first_of}
use Rattle.rz_core.specs.Message.{is_fault}
use Rattle.rz_core.specs.Numbers.{kept_length}
use Rattle.rz_core.specs.declared.fault.Kept.TheVariants as kept
use Rattle.rz_bridge.specs.declared.fault.BridgeFault.{BridgeFault}
use Rattle.rz_bridge.specs.declared.file.MacFile.{MacFile}

-- the fault of a rule at an offset, which keeps a number
abbrev pub fault : ℕ → ℕ → ℕ → BridgeFault
fault number offset value = record { number = number; offset = offset; kept = kept.Number (pos value) }

-- the fault of a rule that is broken where this test is true
abbrev pub broken : Bool → BridgeFault → Option BridgeFault
broken test fault = if test then Some fault else None

-- a fault that a message can say: the table of faults has its number
abbrev pub IsSayable : BridgeFault → Type 0
IsSayable fault = is_fault fault.number ≡ true

-- What writers refuse.

-- ForkTooLong: the fork has more than 33,554,432 bytes
unfoldable pub fork_too_long : List ℕ → Option BridgeFault
fork_too_long fork = broken (nat_lt 33554432 (length fork)) (fault 428 0 (kept_length (length fork)))

-- BadName: the name doesn't have 1 to 63 bytes
unfoldable pub bad_name : List ℕ → Option BridgeFault
bad_name name = broken (nat_lt (length name) 1 || nat_lt 63 (length name)) (fault 425 0 (kept_length (length name)))

-- a fork that is too long, the data fork first
unfoldable pub forks_refused : MacFile → Option BridgeFault
forks_refused file = first_of (fork_too_long file.data_fork ∷ fork_too_long file.res_fork ∷ [])

-- a bad name, and then a fork that is too long
unfoldable pub file_refused : MacFile → Option BridgeFault
file_refused file = first_of (bad_name file.name ∷ forks_refused file ∷ [])

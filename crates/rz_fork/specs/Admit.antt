-- Which bytes are a fork: those that break no rule, each of which is tested over the whole fork before the next.
use Rattle.std.specs.Prelude.{◌≡◌, true, ℕ, ◌+◌, ◌*◌, ◌^◌, ◌<◌, ◌≤◌, List, length}
use Rattle.std.specs.declared.option.Option.{Option}
use Rattle.std.specs.declared.result.Result.{Result}
use Rattle.rz_core.specs.Message.{is_fault}
use Rattle.rz_core.specs.Lists.{unless_fault}
use Rattle.rz_fork.specs.declared.fault.ForkFault.{ForkFault}
use Rattle.rz_fork.specs.declared.layout.Header.{Header}
use Rattle.rz_fork.specs.declared.layout.Outline.{Outline}
use Rattle.rz_fork.specs.Breaks.{breaks, first}
use Rattle.rz_fork.specs.Contents.{contents, Fork}

-- the first broken rule; no bytes break none
unfoldable pub inadmissible : List ℕ → Option ForkFault
inadmissible bytes = first (breaks bytes)

-- what the bytes hold, or their first broken rule
abbrev pub admitted : List ℕ → Result Fork ForkFault
admitted bytes = unless_fault (inadmissible bytes) (contents bytes)

-- a fault that a message can say: the table of faults has its number, and its offset is less than 2^63
pub record IsSayable (fault : ForkFault) : Type 0 where
  pub number : is_fault fault.number ≡ true
  pub offset : fault.offset < 2 ^ 63

-- What the rules give.

-- the data area lies in the bytes
abbrev pub HasArea : List ℕ → Header → Type 0
HasArea bytes h = h.data_at + h.data_length ≤ length bytes

-- the map lies in the bytes
pub record HasMap (bytes : List ℕ) (h : Header) : Type 0 where
  pub map : h.map_at + h.map_length ≤ length bytes
  pub long : 28 ≤ h.map_length

-- the type list lies in the map
pub record HasTypes (bytes : List ℕ) (o : Outline) : Type 0 where
  pub map : o.header.map_at + o.header.map_length ≤ length bytes
  pub long : 28 ≤ o.header.map_length
  pub types : o.types + 2 + 8 * o.count ≤ o.header.map_length
  pub few : o.count ≤ 8192
  pub names : o.names < 2 ^ 16
  pub short : length bytes < 2 ^ 32

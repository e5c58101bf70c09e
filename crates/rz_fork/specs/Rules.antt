-- The rules by which a fork is admitted, each by itself. The offset of a fault counts from the start of the fork.
-- (Inside Macintosh: More Macintosh Toolbox, Resource Manager, resource file format.)
use Rattle.std.specs.Prelude.{ℕ, ◌+◌, ◌*◌, ◌==◌, ◌||◌, nat_lt, nat_le, Bool, if◌then◌else◌, List, length}
use Rattle.std.specs.List.{list_any, sum_by}
use Rattle.std.specs.declared.option.Option.{Option}
use Rattle.std.specs.declared.option.Option.TheVariants.{Some, None}
use Rattle.rz_core.specs.Numbers.{number}
use Rattle.rz_fork.specs.declared.fault.ForkFault.{ForkFault}
use Rattle.rz_fork.specs.declared.layout.Header.{Header}
use Rattle.rz_fork.specs.declared.layout.Outline.{Outline}
use Rattle.rz_fork.specs.declared.layout.TypeEntry.{TypeEntry}
use Rattle.rz_fork.specs.declared.layout.Reference.{Reference}
use Rattle.rz_fork.specs.Layout.{types_place}
use Rattle.rz_fork.specs.Contents.{data_place, name_at}

abbrev pub fault : ℕ → ℕ → ℕ → ForkFault
fault number offset value = record { number = number; offset = offset; value = value }

-- the fault of a rule that is broken where this test is true
abbrev pub broken : Bool → ForkFault → Option ForkFault
broken test fault = if test then Some fault else None

-- The rules on the header and the map.

-- ShortHeader: the fork has fewer than 16 bytes
unfoldable pub short_header : List ℕ → Option ForkFault
short_header bytes = broken (nat_lt (length bytes) 16) (fault 401 0 (length bytes))

-- DataAreaOutside: the data area begins at 16,777,216 or later, or ends after the fork
unfoldable pub data_area_outside : List ℕ → Header → Option ForkFault
data_area_outside bytes h =
    broken (nat_le 16777216 h.data_at || nat_lt (length bytes) (h.data_at + h.data_length)) (fault 402 0 h.data_length)

-- MapOutside: the map ends after the fork
unfoldable pub map_outside : List ℕ → Header → Option ForkFault
map_outside bytes h = broken (nat_lt (length bytes) (h.map_at + h.map_length)) (fault 403 4 h.map_length)

-- ShortMap: the map has fewer than 28 bytes
unfoldable pub short_map : Header → Option ForkFault
short_map h = broken (nat_lt h.map_length 28) (fault 404 12 h.map_length)

-- TypeListOutside: the count of types ends after the map
unfoldable pub type_list_outside : Header → ℕ → Option ForkFault
type_list_outside h types = broken (nat_lt h.map_length (types + 2)) (fault 405 (h.map_at + 24) types)

-- TypesOutside: the entries of the types end after the map, or there are more than 8,192 types
unfoldable pub types_outside : Outline → Option ForkFault
types_outside o =
    broken (nat_lt o.header.map_length (o.types + 2 + 8 * o.count) || nat_lt 8192 o.count) (fault 406 (types_place o) o.count)

-- The rules on types and references.

-- ReferencesOutside: a type's reference list ends after the map, or the references up to it pass 16,384
unfoldable pub references_outside : Outline → ℕ → TypeEntry → Option ForkFault
references_outside o so_far t =
    broken (nat_lt (o.header.map_at + o.header.map_length) (t.list + 12 * t.count) || nat_lt 16384 (so_far + t.count))
    (fault 407 t.list t.count)

abbrev pub count_of : List TypeEntry → ℕ
count_of ts = sum_by (λ t. t.count) ts

abbrev pub list_rule : Outline → List TypeEntry → TypeEntry → Option ForkFault
list_rule o before t = references_outside o (count_of before) t

-- DataOutside: a resource's length or its bytes end after the data area
unfoldable pub data_outside : List ℕ → Outline → Reference → Option ForkFault
data_outside bytes o r =
    let place = data_place o r in
    let stored = number 4 bytes place in
    if nat_lt o.header.data_length (r.data_at + 4) then Some (fault 408 place 0)
    else broken (nat_lt o.header.data_length (r.data_at + 4 + stored)) (fault 408 place stored)

-- NameOutside: a name's length byte or its bytes end after the map
unfoldable pub name_outside : List ℕ → Outline → Reference → Option ForkFault
name_outside bytes o r =
    let at = name_at o r in
    let place = o.header.map_at + at in
    if r.name == 65535 then None
    else broken (nat_lt o.header.map_length (at + 1) || nat_lt o.header.map_length (at + 1 + number 1 bytes place)) (fault 409 place r.name)

-- Repeated: an entry before has the type
abbrev pub type_rule : List TypeEntry → TypeEntry → Option ForkFault
type_rule before t = broken (list_any (λ b. b.code == t.code) before) (fault 410 t.place t.code)

-- Repeated: a reference of the type before has the id
abbrev pub id_rule : List Reference → Reference → Option ForkFault
id_rule before r = broken (list_any (λ b. b.id == r.id) before) (fault 410 r.place r.id)

-- what of a reference a rule tests: where its data stand, where its name stands, or its id
pub data Tested : Type 0 where
  Data : Tested
  Name : Tested
  Id : Tested

-- the rules on references
abbrev pub reference_rule : Tested → List ℕ → Outline → List Reference → Reference → Option ForkFault
reference_rule Data bytes o before r = data_outside bytes o r
reference_rule Name bytes o before r = name_outside bytes o r
reference_rule Id bytes o before r = id_rule before r

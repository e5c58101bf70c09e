-- What the bytes of a fork hold: the resources in map order, the attributes and the reserved bytes. (Inside
-- Macintosh: More Macintosh Toolbox, Resource Manager, resource file format.)
use Rattle.std.specs.Prelude.{ℕ, ◌+◌, ◌-◌, ◌^◌, ◌<◌, ◌==◌, min, if◌then◌else◌, List, [], length, map, take, drop, FitsSigned}
use Rattle.std.specs.Int.{cast_signed, w16}
use Rattle.std.specs.List.{flat_map, AllByRecursion}
use Rattle.rz_core.specs.declared.resource.Resource.{Resource}
use Rattle.rz_fork.specs.declared.layout.Header.{Header}
use Rattle.rz_fork.specs.declared.layout.Outline.{Outline}
use Rattle.rz_fork.specs.declared.layout.TypeEntry.{TypeEntry}
use Rattle.rz_fork.specs.declared.layout.Reference.{Reference}
use Rattle.rz_core.specs.Numbers.{number}
use Rattle.rz_fork.specs.Layout.{header_of, the_outline, entries, references}

-- what a fork holds: the resources in map order, the 16 bits of the map's attributes, and the reserved bytes
-- between the header and what stands after them
pub record Fork : Type 0 where
  pub list : List Resource
  pub attributes : ℕ
  pub reserved : List ℕ

-- where a resource's length and bytes stand in the fork
abbrev pub data_place : Outline → Reference → ℕ
data_place o r = o.header.data_at + r.data_at

-- a resource's bytes
unfoldable pub data_of : List ℕ → Outline → Reference → List ℕ
data_of bytes o r = take (number 4 bytes (data_place o r)) (drop (data_place o r + 4) bytes)

-- where a name's length byte stands in the map
abbrev pub name_at : Outline → Reference → ℕ
name_at o r = o.names + r.name

-- a resource's name; the offset FFFF is no name
unfoldable pub name_of : List ℕ → Outline → Reference → List ℕ
name_of bytes o r =
    let place = o.header.map_at + name_at o r in
    if r.name == 65535 then [] else take (number 1 bytes place) (drop (place + 1) bytes)

-- the resource of a reference
unfoldable pub resource_of : List ℕ → Outline → TypeEntry → Reference → Resource
resource_of bytes o t r = record {
  kind = record { code = t.code };
  id = cast_signed w16 r.id;
  name = name_of bytes o r;
  attr = r.attr;
  bytes = data_of bytes o r;
}

-- the resources of a type
abbrev pub resources_of : List ℕ → Outline → TypeEntry → List Resource
resources_of bytes o t = map (resource_of bytes o t) (references bytes t)

-- the resources, in map order
abbrev pub resources : List ℕ → Outline → List Resource
resources bytes o = flat_map (resources_of bytes o) (entries bytes o)

-- the attributes of the map
unfoldable pub attributes_of : List ℕ → Header → ℕ
attributes_of bytes h = number 2 bytes (h.map_at + 22)

-- the bytes after the header, as far as the data area, the map and 256 leave them
unfoldable pub reserved_of : List ℕ → Header → List ℕ
reserved_of bytes h = take (min 256 (min h.data_at h.map_at) - 16) (drop 16 bytes)

-- what the bytes hold; no bytes hold nothing
unfoldable pub contents : List ℕ → Fork
contents bytes =
    if length bytes == 0 then record { list = []; attributes = 0; reserved = [] }
    else record {
      list = resources bytes (the_outline bytes);
      attributes = attributes_of bytes (header_of bytes);
      reserved = reserved_of bytes (header_of bytes);
    }

-- what a fork can hold of a resource
pub record FitsFork (r : Resource) : Type 0 where
  pub code : r.kind.code < 2 ^ 32
  pub id : FitsSigned w16 r.id
  pub name : length r.name < 256
  pub name_bytes : AllByRecursion (λ b. b < 256) r.name
  pub attr : r.attr < 256
  pub bytes : AllByRecursion (λ b. b < 256) r.bytes

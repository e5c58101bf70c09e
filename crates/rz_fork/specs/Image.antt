-- The one fork of a list of resources. (Inside Macintosh: More Macintosh Toolbox, Resource Manager, resource
-- file format.)
use Rattle.std.specs.Prelude.{ℕ, ◌+◌, ◌-◌, ◌*◌, ◌<◌, ◌≤◌, ◌==◌, nat_lt, if◌then◌else◌, List, [], ◌∷◌, ◌++◌, length, filter, replicate}
use Rattle.std.specs.List.{flat_map, list_any, AllByRecursion}
use Rattle.std.specs.declared.option.Option.{Option}
use Rattle.std.specs.declared.option.Option.TheVariants.{Some, None}
use Rattle.std.specs.declared.result.Result.{Result}
use Rattle.rz_core.specs.Lists.{each_with_front, unless_fault, first_of}
use Rattle.rz_core.specs.Numbers.{be, kept_length}
use Rattle.rz_core.specs.Resources.{id_bits, KeysDiffer}
use Rattle.rz_core.specs.declared.resource.Resource.{Resource}
use Rattle.rz_fork.specs.declared.fault.LimitFault.{LimitFault}

-- The order of the resources.

-- a resource's type, where no resource before it has that type
abbrev pub new_kind : List Resource → Resource → List ℕ
new_kind before r = if list_any (λ b. b.kind.code == r.kind.code) before then [] else r.kind.code ∷ []

-- the types, each once, in the order of their first resources
abbrev pub kinds_of : List Resource → List ℕ
kinds_of list = each_with_front new_kind list

-- the resources of one type, in their order
abbrev pub group_of : List Resource → ℕ → List Resource
group_of list code = filter (λ r. r.kind.code == code) list

-- the resources by type
abbrev pub grouped : List Resource → List Resource
grouped list = flat_map (group_of list) (kinds_of list)

-- The data area and the name list.

-- a resource's bytes as they are stored, after their length
abbrev pub stored_data : Resource → List ℕ
stored_data r = be 4 (length r.bytes) ++ r.bytes

-- the data area of resources that stand in this order
abbrev pub data_area : List Resource → List ℕ
data_area rs = flat_map stored_data rs

-- a resource's name as it is stored, after its length; no name is stored as nothing
abbrev pub stored_name : Resource → List ℕ
stored_name r = if length r.name == 0 then [] else length r.name ∷ r.name

-- the name list of resources that stand in this order
abbrev pub name_list : List Resource → List ℕ
name_list rs = flat_map stored_name rs

-- where a resource's name stands in the name list, after those of the resources before it; FFFF is no name
abbrev pub name_offset : List Resource → Resource → ℕ
name_offset before r = if length r.name == 0 then 65535 else length (name_list before)

-- The reference lists and the type list.

-- the reference to a resource whose name and data stand at these offsets
unfoldable pub reference_to : ℕ → ℕ → Resource → List ℕ
reference_to name_at data_at r = be 2 (id_bits r) ++ be 2 name_at ++ r.attr ∷ [] ++ be 3 data_at ++ be 4 0

-- the reference to a resource that stands after these resources
abbrev pub reference : List Resource → Resource → List ℕ
reference before r = reference_to (name_offset before r) (length (data_area before)) r

-- the reference lists, one after the other
abbrev pub reference_lists : List Resource → List ℕ
reference_lists rs = each_with_front reference rs

-- the entry of a type with so many resources, whose reference list stands at this offset in the type list
unfoldable pub entry_of : ℕ → ℕ → ℕ → List ℕ
entry_of code count list_at = be 4 code ++ be 2 (count + 65535) ++ be 2 list_at

-- where the reference list of a type stands, after so many types' entries and the lists of the types before it
abbrev pub list_offset : List Resource → ℕ → List ℕ → ℕ
list_offset list kinds before = 2 + 8 * kinds + 12 * length (flat_map (group_of list) before)

-- the entry of a type, among so many types and after those before it
abbrev pub type_entry : List Resource → ℕ → List ℕ → ℕ → List ℕ
type_entry list kinds before code = entry_of code (length (group_of list code)) (list_offset list kinds before)

-- the entries of the types
abbrev pub type_entries : List Resource → List ℕ
type_entries list = each_with_front (type_entry list (length (kinds_of list))) (kinds_of list)

-- the type list and the reference lists, of so many types with these entries and of resources in this order
abbrev pub lists_with : ℕ → List ℕ → List Resource → List ℕ
lists_with kinds entries rs = be 2 (kinds + 65535) ++ entries ++ reference_lists rs

-- the type list and the reference lists of the resources
abbrev pub lists_of : List Resource → List ℕ
lists_of list = lists_with (length (kinds_of list)) (type_entries list) (grouped list)

-- The whole.

-- the header: where the data area and the map begin, and their lengths
unfoldable pub header : ℕ → ℕ → List ℕ
header data_length map_length = be 4 256 ++ be 4 (256 + data_length) ++ be 4 data_length ++ be 4 map_length

-- the map's fields between its copy of the header and its type list, which with the reference lists takes so
-- many bytes
unfoldable pub map_fields : ℕ → ℕ → List ℕ
map_fields attributes lists_length =
    be 4 0 ++ be 2 0 ++ be 2 attributes ++ be 2 28 ++ be 2 (28 + lists_length)

-- the map after its copy of the header, with these lists and names
abbrev pub tail_with : ℕ → List ℕ → List ℕ → List ℕ
tail_with attributes lists names = map_fields attributes (length lists) ++ lists ++ names

-- the map of the resources after its copy of the header
abbrev pub map_tail : List Resource → ℕ → List ℕ
map_tail list attributes = tail_with attributes (lists_of list) (name_list (grouped list))

-- all before that: the header, the reserved bytes, filled with zeros, the data area and the copy of the header
abbrev pub front : List Resource → List ℕ → ℕ → List ℕ
front rs reserved map_length =
    let h = header (length (data_area rs)) map_length in
    h ++ reserved ++ replicate (240 - length reserved) 0 ++ data_area rs ++ h

-- the fork of resources in this order with this map
abbrev pub image_with : List Resource → List ℕ → List ℕ → List ℕ
image_with rs reserved tail = front rs reserved (16 + length tail) ++ tail

-- the one fork of the resources
abbrev pub image : List Resource → ℕ → List ℕ → List ℕ
image list attributes reserved = image_with (grouped list) reserved (map_tail list attributes)

-- The limits.

-- the length of the map without its name list, for so many types and resources
abbrev pub lists_end : ℕ → ℕ → ℕ
lists_end kinds resources = 28 + 2 + 8 * kinds + 12 * resources

-- the fault of a length that passes its limit
abbrev pub passed : ℕ → ℕ → ℕ → Option LimitFault
passed number limit length =
    if nat_lt limit length then Some (record { number = number; length = kept_length length }) else None

-- the first of the three lengths that passes its limit: the data area, the map without its names, the name list
abbrev pub limit_of : ℕ → List Resource → Option LimitFault
limit_of kinds rs = first_of (
    passed 302 16777216 (length (data_area rs))
    ∷ passed 303 65535 (lists_end kinds (length rs))
    ∷ passed 304 65535 (length (name_list rs))
    ∷ []
    )

-- the first limit that the fork of the resources passes
abbrev pub first_limit : List Resource → Option LimitFault
first_limit list = limit_of (length (kinds_of list)) (grouped list)

-- the fork of the resources, or the first limit that it passes
abbrev pub fork_of : List Resource → ℕ → List ℕ → Result (List ℕ) LimitFault
fork_of list attributes reserved = unless_fault (first_limit list) (image list attributes reserved)

-- each name has at most 255 bytes
abbrev pub AreNamed : List Resource → Type 0
AreNamed rs = AllByRecursion (λ r. length r.name < 256) rs

-- what can be written: short names, differing pairs of type and id, at most 240 reserved bytes
pub record IsWritable (list : List Resource) (reserved : List ℕ) : Type 0 where
  pub names : AreNamed list
  pub keys : KeysDiffer [] list
  pub room : length reserved ≤ 240

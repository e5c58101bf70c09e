-- The lengths of a fork's parts.
use Rattle.std.proofs.Common.{◌≡◌, ℕ, ◌+◌, ◌-◌, ◌*◌, ◌≤◌, List, [], ◌++◌, length, replicate, refl, arith, length-append}
use Rattle.std.proofs.lemmas.List.{length-replicate}
use Rattle.std.specs.List.{flat_map}
use Rattle.rz_core.proofs.Lists.{length-with_front}
use Rattle.rz_core.specs.Numbers.{be, length-be_2}
use Rattle.rz_core.specs.declared.resource.Resource.{Resource}
use Rattle.rz_fork.specs.declared.group.Group.{Group}
use Rattle.rz_fork.specs.Groups.{members_of, group_entry, group_entries}
use Rattle.rz_fork.specs.Image as image
use Rattle.rz_fork.specs.Image.{reference_to, reference, reference_lists, name_offset, data_area, kinds_of, group_of, grouped, entry_of, list_offset, type_entry, type_entries, lists_with, lists_of, lists_end, header, map_fields, tail_with}

pub length-reference_to : (name_at data_at : ℕ) (r : Resource) → length (reference_to name_at data_at r) ≡ 12
unfolding reference_to be
length-reference_to name_at data_at r = refl

pub length-entry_of : (code count list_at : ℕ) → length (entry_of code count list_at) ≡ 8
unfolding entry_of be
length-entry_of code count list_at = refl

pub length-map_fields : (attributes lists_length : ℕ) → length (map_fields attributes lists_length) ≡ 12
unfolding map_fields be
length-map_fields attributes lists_length = refl

pub length-header : (data_length map_length : ℕ) → length (header data_length map_length) ≡ 16
unfolding header be
length-header data_length map_length = refl

pub length-reference_lists : (rs : List Resource) → length (reference_lists rs) ≡ 12 * length rs
length-reference_lists rs =
    length-with_front reference 12 (λ front r. length-reference_to (name_offset front r) (length (data_area front)) r) [] rs

pub length-lists_with : (kinds : ℕ) (entries : List ℕ) (rs : List Resource) → length entries ≡ 8 * kinds → 28 + length (lists_with kinds entries rs) ≡ lists_end kinds (length rs)
length-lists_with kinds entries rs each =
    omega (
      arith,
      each,
      length-be_2 (kinds + 65535),
      length-append (be 2 (kinds + 65535)) entries,
      length-append (be 2 (kinds + 65535) ++ entries) (reference_lists rs),
      length-reference_lists rs,
    )

pub length-group_entries : (groups : List Group) → length (group_entries groups) ≡ 8 * length groups
length-group_entries groups =
    length-with_front (group_entry (length groups)) 8
    (λ front g. length-entry_of g.code (length (members_of g)) (2 + 8 * length groups + 12 * length (flat_map members_of front))) [] groups

pub length-type_entries : (list : List Resource) → length (type_entries list) ≡ 8 * length (kinds_of list)
length-type_entries list =
    length-with_front (type_entry list (length (kinds_of list))) 8
    (λ front code. length-entry_of code (length (group_of list code)) (list_offset list (length (kinds_of list)) front)) [] (kinds_of list)

pub length-lists_of : (list : List Resource) → 28 + length (lists_of list) ≡ lists_end (length (kinds_of list)) (length (grouped list))
length-lists_of list = length-lists_with (length (kinds_of list)) (type_entries list) (grouped list) (length-type_entries list)

pub length-tail_with : (attributes : ℕ) (lists names : List ℕ) → length (tail_with attributes lists names) ≡ 12 + length lists + length names
length-tail_with attributes lists names =
    let fields = map_fields attributes (length lists) in
    omega (arith, length-append (fields ++ lists) names, length-append fields lists, length-map_fields attributes (length lists))

pub length-front : (rs : List Resource) (reserved : List ℕ) (map_length : ℕ) → length reserved ≤ 240 → length (image.front rs reserved map_length) ≡ 272 + length (data_area rs)
length-front rs reserved map_length room =
    let h = header (length (data_area rs)) map_length in
    let zeros : List ℕ = replicate (240 - length reserved) 0 in
    omega (
      arith,
      length-append (((h ++ reserved) ++ zeros) ++ data_area rs) h,
      length-append ((h ++ reserved) ++ zeros) (data_area rs),
      length-append (h ++ reserved) zeros,
      length-append h reserved,
      length-header (length (data_area rs)) map_length,
      length-replicate {A = ℕ} (240 - length reserved) 0,
    )

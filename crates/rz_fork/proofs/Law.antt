-- An image is admitted, as the resources by type.
use Rattle.std.proofs.Common.{◌≡◌, ℕ, ◌+◌, ◌-◌, ◌*◌, ◌%◌, ◌^◌, ◌<◌, ◌≤◌, ◌==◌, if◌then◌else◌, min, false, List, [], ◌++◌, length, take, drop, replicate, None, Ok, refl, ap, ◌∙◌, arith, append_assoc, length-append, subst}
use Rattle.std.proofs.lemmas.List.{length-replicate}
use Rattle.std.specs.List.{flat_map, AllByRecursion}
use Rattle.rz_core.specs.Lists.{unless_fault, first_in, or_else}
use Rattle.rz_core.specs.Numbers.{be, length-be_2, length-be_4, number}
use Rattle.rz_core.specs.Resources.{KeysDiffer}
use Rattle.rz_core.specs.declared.resource.Resource.{Resource}
use Rattle.rz_fork.specs.declared.layout.Header.{Header}
use Rattle.rz_fork.specs.declared.layout.Outline.{Outline}
use Rattle.rz_fork.specs.declared.layout.TypeEntry.{TypeEntry}
use Rattle.rz_fork.specs.Image as image
use Rattle.rz_fork.specs.Image.{kinds_of, grouped, data_area, name_list, header, map_fields, map_tail, lists_of, type_entries, reference_lists, first_limit}
use Rattle.rz_fork.specs.Layout.{count_at, header_of, types_of, outline_of, the_outline, entries}
use Rattle.rz_fork.specs.Contents.{attributes_of, reserved_of, resources_of, resources, contents}
use Rattle.rz_fork.specs.Admit.{inadmissible, admitted}
use Rattle.rz_fork.specs.Rules.{list_rule, type_rule, Data, Name, Id}
use Rattle.rz_fork.specs.Code.{in_types, lists_broken, first_broken}
use Rattle.rz_fork.proofs.Breaking.{tested_is}
use Rattle.rz_fork.proofs.Framed.{IsWithinLimits, within_limits, IsFramed, some_bytes, first_is}
use Rattle.rz_fork.proofs.Lengths.{length-header, length-map_fields, length-tail_with, length-type_entries, length-lists_of}
use Rattle.rz_core.proofs.Placed.{Has, has_all, has_left, has_right, number_mod, number_is, piece_is}
use Rattle.rz_fork.proofs.Resources.{Stands}
use Rattle.rz_fork.proofs.Types.{kinds_differ, types_are, TypesRead}
use Rattle.rz_fork.proofs.Written.{written_entries, entries_are, HasShortId}

-- what lets an image be read
pub record IsReadable (list : List Resource) (attributes : ℕ) (reserved : List ℕ) : Type 0 where
  pub keys : KeysDiffer [] list
  pub codes : AllByRecursion (λ k. k < 2 ^ 32) (kinds_of list)
  pub ids : AllByRecursion HasShortId (grouped list)
  pub limits : first_limit list ≡ None
  pub attributes_fit : attributes < 2 ^ 16
  pub room : length reserved ≤ 240

module _ (list : List Resource) (attributes : ℕ) (reserved : List ℕ) (readable : IsReadable list attributes reserved) where
  small : IsWithinLimits list
  small = within_limits list readable.limits

  abbrev bytes : List ℕ
  bytes = image.image list attributes reserved

  abbrev area : List ℕ
  area = data_area (grouped list)

  abbrev names : List ℕ
  names = name_list (grouped list)

  abbrev lists : List ℕ
  lists = lists_of list

  abbrev fields : List ℕ
  fields = map_fields attributes (length lists)

  abbrev tail : List ℕ
  tail = map_tail list attributes

  abbrev zeros : List ℕ
  zeros = replicate (240 - length reserved) 0

  abbrev head : List ℕ
  head = header (length area) (16 + length tail)

  abbrev kinds : ℕ
  kinds = length (kinds_of list)

  abbrev map_at : ℕ
  map_at = 256 + length area

  abbrev count : List ℕ
  count = be 2 (kinds + 65535)

  abbrev entry_list : List ℕ
  entry_list = type_entries list

  abbrev references : List ℕ
  references = reference_lists (grouped list)

  -- Lengths.

  head_size : length head ≡ 16
  head_size = length-header (length area) (16 + length tail)

  tail_size : length tail ≡ 12 + length lists + length names
  tail_size = length-tail_with attributes lists names

  lists_size : length lists ≡ 2 + 8 * kinds + 12 * length (grouped list)
  lists_size = omega (arith, length-lists_of list)

  front_size : length (((head ++ reserved) ++ zeros) ++ area) ≡ map_at
  front_size =
      omega (
        arith,
        length-append ((head ++ reserved) ++ zeros) area,
        length-append (head ++ reserved) zeros,
        length-append head reserved,
        head_size,
        length-replicate {A = ℕ} (240 - length reserved) 0,
        readable.room,
      )

  to_tail_size : length ((((head ++ reserved) ++ zeros) ++ area) ++ head) ≡ map_at + 16
  to_tail_size = omega (arith, front_size, length-append (((head ++ reserved) ++ zeros) ++ area) head, head_size)

  bytes_size : length bytes ≡ map_at + 16 + length tail
  bytes_size = omega (arith, to_tail_size, length-append ((((head ++ reserved) ++ zeros) ++ area) ++ head) tail)

  -- Places.

  to_map : Has bytes 0 ((((head ++ reserved) ++ zeros) ++ area) ++ head)
  to_map = has_left bytes 0 ((((head ++ reserved) ++ zeros) ++ area) ++ head) tail (has_all bytes)

  to_area : Has bytes 0 (((head ++ reserved) ++ zeros) ++ area)
  to_area = has_left bytes 0 (((head ++ reserved) ++ zeros) ++ area) head to_map

  to_zeros : Has bytes 0 ((head ++ reserved) ++ zeros)
  to_zeros = has_left bytes 0 ((head ++ reserved) ++ zeros) area to_area

  head_stands : Has bytes 0 head
  head_stands = has_left bytes 0 head reserved (has_left bytes 0 (head ++ reserved) zeros to_zeros)

  reserved_stands : Has bytes 16 (reserved ++ zeros)
  reserved_stands = has_right bytes 0 16 head (reserved ++ zeros) (omega (arith, head_size)) (subst (Has bytes 0) (append_assoc head reserved zeros) to_zeros)

  area_stands : Has bytes 256 area
  area_stands = has_right bytes 0 256 ((head ++ reserved) ++ zeros) area (omega (arith, front_size, length-append ((head ++ reserved) ++ zeros) area)) to_area

  tail_stands : Has bytes (map_at + 16) tail
  tail_stands = has_right bytes 0 (map_at + 16) ((((head ++ reserved) ++ zeros) ++ area) ++ head) tail (omega (arith, to_tail_size)) (has_all bytes)

  to_lists : Has bytes (map_at + 16) (fields ++ lists)
  to_lists = has_left bytes (map_at + 16) (fields ++ lists) names tail_stands

  fields_size : length fields ≡ 12
  fields_size = length-map_fields attributes (length lists)

  fields_stand : Has bytes (map_at + 16) fields
  fields_stand = has_left bytes (map_at + 16) fields lists to_lists

  lists_stand : Has bytes (map_at + 28) lists
  lists_stand = has_right bytes (map_at + 16) (map_at + 28) fields lists (omega (arith, fields_size)) to_lists

  names_stand : Has bytes (map_at + (28 + length lists)) names
  names_stand = has_right bytes (map_at + 16) (map_at + (28 + length lists)) (fields ++ lists) names (omega (arith, length-append fields lists, fields_size)) tail_stands

  to_entries : Has bytes (map_at + 28) (count ++ entry_list)
  to_entries = has_left bytes (map_at + 28) (count ++ entry_list) references lists_stand

  count_stands : Has bytes (map_at + 28) count
  count_stands = has_left bytes (map_at + 28) count entry_list to_entries

  entries_stand : Has bytes (map_at + 28 + 2) entry_list
  entries_stand = has_right bytes (map_at + 28) (map_at + 28 + 2) count entry_list (omega (arith, length-be_2 (kinds + 65535))) to_entries

  references_stand : Has bytes (map_at + 28 + (2 + 8 * kinds + 12 * 0)) references
  references_stand =
      has_right bytes (map_at + 28) (map_at + 28 + (2 + 8 * kinds + 12 * 0)) (count ++ entry_list) references
      (omega (arith, length-type_entries list, length-append count entry_list, length-be_2 (kinds + 65535))) lists_stand

  -- Numbers.

  abbrev written_header : Header
  written_header = record { data_at = 256; map_at = map_at; data_length = length area; map_length = 16 + length tail }

  abbrev written_outline : Outline
  written_outline = record { header = written_header; types = 28; names = 28 + length lists; count = kinds }

  header_is : header_of bytes ≡ written_header
  unfolding header_of header
  header_is =
      let first = be 4 256 in
      let second = be 4 map_at in
      let third = be 4 (length area) in
      let fourth = be 4 (16 + length tail) in
      let three = has_left bytes 0 ((first ++ second) ++ third) fourth head_stands in
      let two = has_left bytes 0 (first ++ second) third three in
      let two_size : length (first ++ second) ≡ 8 = omega (arith, length-append first second, length-be_4 256, length-be_4 map_at) in
      let data_is : number 4 bytes 0 ≡ 256 = number_is bytes 4 0 256 (has_left bytes 0 first second two) (omega arith) in
      let map_is : number 4 bytes 4 ≡ map_at = number_is bytes 4 4 map_at (has_right bytes 0 4 first second (omega (arith, length-be_4 256)) two) (omega (arith, small.area)) in
      let data_length_is : number 4 bytes 8 ≡ length area = number_is bytes 4 8 (length area) (has_right bytes 0 8 (first ++ second) third (omega (arith, two_size)) three) (omega (arith, small.area)) in
      let map_length_is : number 4 bytes 12 ≡ 16 + length tail =
      number_is bytes 4 12 (16 + length tail) (has_right bytes 0 12 ((first ++ second) ++ third) fourth (omega (arith, two_size, length-append (first ++ second) third, length-be_4 (length area))) head_stands)
      (omega (arith, small.lists, small.names, tail_size, lists_size)) in
      λ i. record { data_at = data_is i; map_at = map_is i; data_length = data_length_is i; map_length = map_length_is i }

  -- the fields of the map
  record HasFields : Type 0 where
    attributes_is : number 2 bytes (map_at + 22) ≡ attributes
    types_is : number 2 bytes (map_at + 24) ≡ 28
    names_is : number 2 bytes (map_at + 26) ≡ 28 + length lists

  fields_are : HasFields
  unfolding map_fields
  fields_are =
      let first = be 4 0 in
      let second = be 2 0 in
      let third = be 2 attributes in
      let fourth = be 2 28 in
      let fifth = be 2 (28 + length lists) in
      let four = has_left bytes (map_at + 16) (((first ++ second) ++ third) ++ fourth) fifth fields_stand in
      let three = has_left bytes (map_at + 16) ((first ++ second) ++ third) fourth four in
      let two_size : length (first ++ second) ≡ 6 = omega (arith, length-append first second, length-be_4 0, length-be_2 0) in
      let three_size : length ((first ++ second) ++ third) ≡ 8 = omega (arith, two_size, length-append (first ++ second) third, length-be_2 attributes) in
      record {
        attributes_is = number_is bytes 2 (map_at + 22) attributes (has_right bytes (map_at + 16) (map_at + 22) (first ++ second) third (omega (arith, two_size)) three) (omega (arith, readable.attributes_fit));
        types_is = number_is bytes 2 (map_at + 24) 28 (has_right bytes (map_at + 16) (map_at + 24) ((first ++ second) ++ third) fourth (omega (arith, three_size)) four) (omega arith);
        names_is =
            number_is bytes 2 (map_at + 26) (28 + length lists)
            (has_right bytes (map_at + 16) (map_at + 26) (((first ++ second) ++ third) ++ fourth) fifth (omega (arith, three_size, length-append ((first ++ second) ++ third) fourth, length-be_2 28)) fields_stand)
            (omega (arith, small.lists, lists_size));
      }

  types_is : types_of bytes written_header ≡ 28
  unfolding types_of
  types_is = fields_are.types_is

  outline_reads : outline_of bytes written_header 28 ≡ written_outline
  unfolding outline_of
  outline_reads =
      let less = number_mod bytes 2 (map_at + 28) (kinds + 65535) count_stands in
      let count_is : count_at bytes (map_at + 28) ≡ kinds = ap (λ n. (n + 1) % 65536) less ∙ omega (arith, small.lists) in
      λ i. record { header = written_header; types = 28; names = fields_are.names_is i; count = count_is i }

  outline_is : the_outline bytes ≡ written_outline
  outline_is =
      ap (λ (h : Header). outline_of bytes h (types_of bytes h)) header_is ∙ ap (outline_of bytes written_header) types_is ∙ outline_reads

  -- Types and resources.

  abbrev written : List TypeEntry
  written = written_entries list kinds (map_at + 28) (map_at + 28 + 2) [] (kinds_of list)

  entries_read : entries bytes written_outline ≡ written
  unfolding entries
  entries_read = entries_are bytes written_outline list kinds (map_at + 28 + 2) [] (kinds_of list) entries_stand readable.codes (omega (arith, small.lists))

  stands : Stands bytes written_outline (grouped list)
  stands = record {
    small = record { area = omega (arith, small.area); names = omega (arith, small.names) };
    area = area_stands;
    area_length = refl;
    names = names_stand;
    map_length = omega (arith, tail_size);
  }

  types_read : TypesRead bytes written_outline list kinds readable.keys [] written (kinds_of list)
  types_read =
      types_are bytes written_outline list kinds readable.keys (map_at + 28 + 2) [] (kinds_of list) [] references_stand stands
      (record { map = omega (arith, tail_size, lists_size); few = omega (arith, small.lists) }) readable.ids (kinds_differ [] list [] (λ x. refl)) refl (λ x. refl)

  lists_hold : lists_broken bytes written_outline ≡ None
  unfolding lists_broken
  lists_hold =
      let lists_is = ap (first_in (list_rule written_outline) []) entries_read ∙ types_read.lists in
      let areas_is = ap (in_types Data bytes written_outline) entries_read ∙ types_read.areas in
      let names_is = ap (in_types Name bytes written_outline) entries_read ∙ types_read.names in
      let codes_is = ap (first_in type_rule []) entries_read ∙ types_read.types in
      let ids_is = ap (in_types Id bytes written_outline) entries_read ∙ types_read.ids in
      λ i. or_else (lists_is i) (or_else (areas_is i) (or_else (names_is i) (or_else (codes_is i) (or_else (ids_is i) None))))

  -- The whole.

  framed : IsFramed bytes written_header written_outline
  framed = record {
    long = omega (arith, bytes_size);
    data_at = omega arith;
    data_end = omega (arith, bytes_size);
    map_end = omega (arith, bytes_size);
    map_long = omega (arith, tail_size, lists_size);
    header = refl;
    types_end = omega (arith, tail_size, lists_size);
    few = omega (arith, small.lists);
  }

  not_empty : (length bytes == 0) ≡ false
  not_empty = some_bytes bytes written_header written_outline framed

  none_broken : inadmissible bytes ≡ None
  none_broken =
      tested_is bytes
      ∙ (λ i. if not_empty i then None else first_broken bytes (header_is i) (types_of bytes (header_is i)) (outline_of bytes (header_is i) (types_of bytes (header_is i))))
      ∙ ap (λ (t : ℕ). first_broken bytes written_header t (outline_of bytes written_header t)) types_is
      ∙ ap (first_broken bytes written_header 28) outline_reads ∙ first_is bytes written_header written_outline framed ∙ lists_hold

  attributes_read : attributes_of bytes written_header ≡ attributes
  unfolding attributes_of
  attributes_read = fields_are.attributes_is

  reserved_read : reserved_of bytes written_header ≡ reserved ++ zeros
  unfolding reserved_of
  reserved_read =
      let size : min 256 (min 256 map_at) - 16 ≡ length (reserved ++ zeros) = omega (arith, length-append reserved zeros, length-replicate {A = ℕ} (240 - length reserved) 0, readable.room) in
      ap (λ (m : ℕ). take m (drop 16 bytes)) size ∙ piece_is bytes 16 (reserved ++ zeros) reserved_stands

  resources_read : resources bytes written_outline ≡ grouped list
  resources_read = ap (flat_map (resources_of bytes written_outline)) entries_read ∙ types_read.resources

  contents_are : contents bytes ≡ record { list = grouped list; attributes = attributes; reserved = reserved ++ zeros }
  unfolding contents
  contents_are =
      (λ i. if not_empty i then record { list = []; attributes = 0; reserved = [] }
      else record { list = resources bytes (outline_is i); attributes = attributes_of bytes (header_is i); reserved = reserved_of bytes (header_is i) })
      ∙ (λ i. record { list = resources_read i; attributes = attributes_read i; reserved = reserved_read i })

  pub image_admitted : admitted bytes ≡ Ok (record { list = grouped list; attributes = attributes; reserved = reserved ++ zeros })
  image_admitted = λ i. unless_fault (none_broken i) (contents_are i)

-- What is read of the type list and the reference lists of an image.
use Rattle.std.proofs.Common.{◌≡◌, ℕ, ◌+◌, ◌%◌, ◌^◌, ◌<◌, ◌≤◌, ◌==◌, if◌then◌else◌, Bool, true, false, FitsSigned, List, [], ◌∷◌, ◌++◌, length, refl, sym, ap, ◌∙◌, arith, append_assoc, length-append, subst}
use Rattle.std.proofs.lemmas.List.Concat.{flat_map-append}
use Rattle.std.specs.Int.{w16}
use Rattle.std.specs.List.{flat_map, AllByRecursion}
use Rattle.rz_core.specs.Lists.{with_front}
use Rattle.rz_core.specs.Numbers.{be, length-be_2, length-be_4, number, items_from}
use Rattle.rz_core.specs.Resources.{id_bits}
use Rattle.rz_core.specs.declared.resource.Resource.{Resource}
use Rattle.rz_fork.specs.declared.layout.Outline.{Outline}
use Rattle.rz_fork.specs.declared.layout.TypeEntry.{TypeEntry}
use Rattle.rz_fork.specs.declared.layout.Reference.{Reference}
use Rattle.rz_fork.specs.Image as image
use Rattle.rz_fork.specs.Image.{group_of, stored_data, data_area, stored_name, name_list, name_offset, reference_to, entry_of, type_entry, list_offset}
use Rattle.rz_fork.specs.Layout.{count_at, types_place, entry_at, reference_at}
use Rattle.rz_fork.proofs.Lengths.{length-reference_to, length-entry_of}
use Rattle.rz_core.proofs.Placed.{Has, has_left, has_right, number_mod, number_is, byte_is, bits_small}

-- an entry whose reference list stands so far after the start of the type list
abbrev pub written_entry : ℕ → ℕ → ℕ → ℕ → ℕ → TypeEntry
written_entry base place code count list_at = record { place = place; code = code; count = count; list = base + list_at }

pub entry_is : (bytes : List ℕ) (o : Outline) (place code count list_at : ℕ) → Has bytes place (entry_of code count list_at) → code < 2 ^ 32 → count < 2 ^ 16 → list_at < 2 ^ 16
    → entry_at bytes o place ≡ written_entry (types_place o) place code count list_at
unfolding entry_at entry_of
entry_is bytes o place code count list_at has code_fits count_fits at_fits =
    let first = be 4 code in
    let second = be 2 (count + 65535) in
    let third = be 2 list_at in
    let left = has_left bytes place (first ++ second) third has in
    let code_is : number 4 bytes place ≡ code = number_is bytes 4 place code (has_left bytes place first second left) (omega arith) in
    let less : number 2 bytes (place + 4) ≡ (count + 65535) % 65536 =
    number_mod bytes 2 (place + 4) (count + 65535) (has_right bytes place (place + 4) first second (omega (arith, length-be_4 code)) left) in
    let at_is : number 2 bytes (place + 6) ≡ list_at =
    number_is bytes 2 (place + 6) list_at
    (has_right bytes place (place + 6) (first ++ second) third (omega (arith, length-append first second, length-be_4 code, length-be_2 (count + 65535))) has)
    (omega arith) in
    let count_is : count_at bytes (place + 4) ≡ count = ap (λ n. (n + 1) % 65536) less ∙ omega arith in
    λ i. record { place = place; code = code_is i; count = count_is i; list = types_place o + at_is i }

-- the entries of these types, among so many types and after those before
abbrev pub written_entries : List Resource → ℕ → ℕ → ℕ → List ℕ → List ℕ → List TypeEntry
written_entries list kinds base place before [] = []
written_entries list kinds base place before (k ∷ ks) =
    written_entry base place k (length (group_of list k)) (list_offset list kinds before)
    ∷ written_entries list kinds base (place + 8) (before ++ k ∷ []) ks

pub groups_append : (list : List Resource) (before ks : List ℕ) → length (flat_map (group_of list) (before ++ ks)) ≡ length (flat_map (group_of list) before) + length (flat_map (group_of list) ks)
groups_append list before ks = ap length (flat_map-append (group_of list) before ks) ∙ length-append (flat_map (group_of list) before) (flat_map (group_of list) ks)

pub entries_are : (bytes : List ℕ) (o : Outline) (list : List Resource) (kinds place : ℕ) (before ks : List ℕ) → Has bytes place (with_front (type_entry list kinds) before ks)
    → AllByRecursion (λ k. k < 2 ^ 32) ks → list_offset list kinds (before ++ ks) < 2 ^ 16
    → items_from (entry_at bytes o) 8 place (length ks) ≡ written_entries list kinds (types_place o) place before ks
entries_are bytes o list kinds place before [] has codes fits = refl
entries_are bytes o list kinds place before (k ∷ ks) has codes fits =
    let count = length (group_of list k) in
    let at = list_offset list kinds before in
    let own = entry_of k count at in
    let tail = with_front (type_entry list kinds) (before ++ k ∷ []) ks in
    let all = groups_append list before (k ∷ ks) in
    let one = length-append (group_of list k) (flat_map (group_of list) ks) in
    let first = entry_is bytes o place k count at (has_left bytes place own tail has) codes.0 (omega (arith, all, one)) (omega (arith, all)) in
    let shifted : list_offset list kinds ((before ++ k ∷ []) ++ ks) < 2 ^ 16 =
    subst (λ (l : List ℕ). list_offset list kinds l < 2 ^ 16) (sym (append_assoc before (k ∷ []) ks)) fits in
    let later = entries_are bytes o list kinds (place + 8) (before ++ k ∷ []) ks
    (has_right bytes place (place + 8) own tail (omega (arith, length-entry_of k count at)) has) codes.1 shifted in
    λ i. first i ∷ later i

-- the reference to a resource that stands after these
abbrev pub written_reference : ℕ → List Resource → Resource → Reference
written_reference place before r =
    record { place = place; id = id_bits r; name = name_offset before r; attr = r.attr; data_at = length (data_area before) }

abbrev pub written_references : ℕ → List Resource → List Resource → List Reference
written_references place before [] = []
written_references place before (r ∷ rs) = written_reference place before r ∷ written_references (place + 12) (before ++ r ∷ []) rs

pub reference_is : (bytes : List ℕ) (place : ℕ) (before : List Resource) (r : Resource) → Has bytes place (image.reference before r)
    → id_bits r < 2 ^ 16 → name_offset before r < 2 ^ 16 → length (data_area before) < 2 ^ 24
    → reference_at bytes place ≡ written_reference place before r
unfolding reference_at reference_to
reference_is bytes place before r has id_fits name_fits data_fits =
    let first = be 2 (id_bits r) in
    let second = be 2 (name_offset before r) in
    let third : List ℕ = r.attr ∷ [] in
    let fourth = be 3 (length (data_area before)) in
    let to_fourth = has_left bytes place (((first ++ second) ++ third) ++ fourth) (be 4 0) has in
    let to_third = has_left bytes place ((first ++ second) ++ third) fourth to_fourth in
    let to_second = has_left bytes place (first ++ second) third to_third in
    let first_size = length-be_2 (id_bits r) in
    let two_size : length (first ++ second) ≡ 4 = omega (arith, length-append first second, first_size, length-be_2 (name_offset before r)) in
    let id_is : number 2 bytes place ≡ id_bits r = number_is bytes 2 place (id_bits r) (has_left bytes place first second to_second) (omega arith) in
    let name_is : number 2 bytes (place + 2) ≡ name_offset before r =
    number_is bytes 2 (place + 2) (name_offset before r) (has_right bytes place (place + 2) first second (omega (arith, first_size)) to_second) (omega arith) in
    let attr_is : number 1 bytes (place + 4) ≡ r.attr = byte_is bytes (place + 4) r.attr (has_right bytes place (place + 4) (first ++ second) third (omega (arith, two_size)) to_third) in
    let data_is : number 3 bytes (place + 5) ≡ length (data_area before) =
    number_is bytes 3 (place + 5) (length (data_area before))
    (has_right bytes place (place + 5) ((first ++ second) ++ third) fourth (omega (arith, two_size, length-append (first ++ second) third)) to_fourth)
    (omega arith) in
    λ i. record { place = place; id = id_is i; name = name_is i; attr = attr_is i; data_at = data_is i }

-- what bounds the offsets of these resources
pub record AreSmall (rs : List Resource) : Type 0 where
  pub area : length (data_area rs) ≤ 2 ^ 24
  pub names : length (name_list rs) < 2 ^ 16

area_append : (xs ys : List Resource) → length (data_area (xs ++ ys)) ≡ length (data_area xs) + length (data_area ys)
area_append xs ys = ap length (flat_map-append stored_data xs ys) ∙ length-append (data_area xs) (data_area ys)

pub names_append : (xs ys : List Resource) → length (name_list (xs ++ ys)) ≡ length (name_list xs) + length (name_list ys)
names_append xs ys = ap length (flat_map-append stored_name xs ys) ∙ length-append (name_list xs) (name_list ys)

length-stored_data : (r : Resource) → length (stored_data r) ≡ 4 + length r.bytes
length-stored_data r = length-append (be 4 (length r.bytes)) r.bytes ∙ omega (arith, length-be_4 (length r.bytes))

pub area_of : (before : List Resource) (r : Resource) (after : List Resource) → length (data_area (before ++ r ∷ after)) ≡ length (data_area before) + 4 + length r.bytes + length (data_area after)
area_of before r after = omega (arith, area_append before (r ∷ after), length-append (stored_data r) (data_area after), length-stored_data r)

-- a resource's id is in the range of ids
abbrev pub HasShortId : Resource → Type 0
HasShortId r = FitsSigned w16 r.id

offset_small_by : (none : Bool) (n : ℕ) → n < 2 ^ 16 → (if none then 65535 else n) < 2 ^ 16
offset_small_by true n small = omega arith
offset_small_by false n small = small

offset_small : (before : List Resource) (r : Resource) (after : List Resource) → AreSmall (before ++ r ∷ after) → name_offset before r < 2 ^ 16
offset_small before r after small = offset_small_by (length r.name == 0) (length (name_list before)) (omega (arith, small.names, names_append before (r ∷ after)))

pub references_are : (bytes : List ℕ) (place : ℕ) (before rs after : List Resource) → Has bytes place (with_front image.reference before rs)
    → AllByRecursion HasShortId rs → AreSmall (before ++ (rs ++ after))
    → items_from (reference_at bytes) 12 place (length rs) ≡ written_references place before rs
references_are bytes place before [] after has ids small = refl
references_are bytes place before (r ∷ rs) after has ids small =
    let own = image.reference before r in
    let tail = with_front image.reference (before ++ r ∷ []) rs in
    let first = reference_is bytes place before r (has_left bytes place own tail has)
    (bits_small r.id ids.0) (offset_small before r (rs ++ after) small) (omega (arith, small.area, area_of before r (rs ++ after))) in
    let later = references_are bytes (place + 12) (before ++ r ∷ []) rs after
    (has_right bytes place (place + 12) own tail (omega (arith, length-reference_to (name_offset before r) (length (data_area before)) r)) has)
    ids.1 (subst AreSmall (sym (append_assoc before (r ∷ []) (rs ++ after))) small) in
    λ i. first i ∷ later i

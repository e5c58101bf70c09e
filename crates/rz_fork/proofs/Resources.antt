-- The resources of an image, one by one: the rules that hold of them, and what is read of them.
use Rattle.std.proofs.Common.{◌≡◌, ℕ, ◌+◌, ◌≤◌, ◌==◌, ◌||◌, ◌&&◌, if◌then◌else◌, nat_lt, Bool, true, false, List, [], ◌∷◌, ◌++◌, length, map, take, drop, Some, None, refl, sym, ap, ◌∙◌, arith, append_assoc, length-append, subst}
use Rattle.std.proofs.lemmas.Bool.Decides.{nat_tests}
use Rattle.std.proofs.lemmas.Int.{to_z-of_z}
use Rattle.std.proofs.lemmas.List.{nil_from_length}
use Rattle.std.proofs.lemmas.List.Concat.{flat_map-append}
use Rattle.std.proofs.lemmas.List.Folds.{list_any-append}
use Rattle.std.specs.Int.{cast_unsigned, cast_signed, w16}
use Rattle.std.specs.List.{AllByRecursion, list_any}
use Rattle.rz_core.proofs.Tests.{by_test}
use Rattle.rz_core.proofs.Lists.{all_append}
use Rattle.rz_core.specs.Lists.{first_in, or_else}
use Rattle.rz_core.specs.Numbers.{be, length-be_4, number}
use Rattle.rz_core.specs.Resources.{id_bits, same_key, KeysDiffer}
use Rattle.rz_core.specs.declared.resource.Resource.{Resource}
use Rattle.rz_fork.specs.declared.layout.Outline.{Outline}
use Rattle.rz_fork.specs.declared.layout.TypeEntry.{TypeEntry}
use Rattle.rz_fork.specs.declared.layout.Reference.{Reference}
use Rattle.rz_fork.specs.Image.{stored_data, data_area, stored_name, name_list, name_offset}
use Rattle.rz_fork.specs.Contents.{data_of, name_of, resource_of}
use Rattle.rz_fork.specs.Rules.{data_outside, name_outside, reference_rule, id_rule, broken, fault, Data, Name}
use Rattle.rz_core.proofs.Placed.{Has, has_left, has_right, piece_is, number_is, byte_is}
use Rattle.rz_fork.proofs.Written.{written_reference, written_references, AreSmall, HasShortId, area_of, names_append}

-- where the data area and the names of these resources stand
pub record Stands (bytes : List ℕ) (o : Outline) (rs : List Resource) : Type 0 where
  pub small : AreSmall rs
  pub area : Has bytes o.header.data_at (data_area rs)
  pub area_length : o.header.data_length ≡ length (data_area rs)
  pub names : Has bytes (o.header.map_at + o.names) (name_list rs)
  pub map_length : o.header.map_length ≡ o.names + length (name_list rs)

module _ (bytes : List ℕ) (o : Outline) (before : List Resource) (r : Resource) (after : List Resource) (stands : Stands bytes o (before ++ r ∷ after)) (place : ℕ) where
  abbrev data_end : ℕ
  data_end = length (data_area before)

  abbrev data_place : ℕ
  data_place = o.header.data_at + data_end

  abbrev names_end : ℕ
  names_end = length (name_list before)

  abbrev name_place : ℕ
  name_place = o.header.map_at + (o.names + names_end)

  data_stands : Has bytes data_place (stored_data r)
  data_stands =
      let split : Has bytes o.header.data_at (data_area before ++ data_area (r ∷ after)) = subst (Has bytes o.header.data_at) (flat_map-append stored_data before (r ∷ after)) stands.area in
      has_left bytes data_place (stored_data r) (data_area after) (has_right bytes o.header.data_at data_place (data_area before) (data_area (r ∷ after)) refl split)

  stored_is : number 4 bytes data_place ≡ length r.bytes
  stored_is =
      number_is bytes 4 data_place (length r.bytes) (has_left bytes data_place (be 4 (length r.bytes)) r.bytes data_stands)
      (omega (arith, stands.small.area, area_of before r after))

  pub data_holds : data_outside bytes o (written_reference place before r) ≡ None
  unfolding data_outside
  data_holds =
      let size = area_of before r after in
      let whole = stands.area_length in
      let stored = number 4 bytes data_place in
      let first : nat_lt o.header.data_length (data_end + 4) ≡ false = grind (arith, nat_tests, size, whole) in
      let second : nat_lt o.header.data_length (data_end + 4 + stored) ≡ false = grind (arith, nat_tests, size, whole, stored_is) in
      (λ i. if first i then Some (fault 408 data_place 0) else broken (second i) (fault 408 data_place stored))

  pub data_is : data_of bytes o (written_reference place before r) ≡ r.bytes
  unfolding data_of
  data_is =
      ap (λ n. take n (drop (data_place + 4) bytes)) stored_is
      ∙ piece_is bytes (data_place + 4) r.bytes (has_right bytes data_place (data_place + 4) (be 4 (length r.bytes)) r.bytes (omega (arith, length-be_4 (length r.bytes))) data_stands)

  name_stands : (length r.name == 0) ≡ false → Has bytes name_place (length r.name ∷ r.name)
  name_stands some =
      let split : Has bytes (o.header.map_at + o.names) (name_list before ++ name_list (r ∷ after)) = subst (Has bytes (o.header.map_at + o.names)) (flat_map-append stored_name before (r ∷ after)) stands.names in
      let here = has_left bytes name_place (stored_name r) (name_list after) (has_right bytes (o.header.map_at + o.names) name_place (name_list before) (name_list (r ∷ after)) (omega arith) split) in
      subst (Has bytes name_place) (ap (λ (b : Bool). if b then [] else length r.name ∷ r.name) some) here

  names_size : (length r.name == 0) ≡ false → names_end + 1 + length r.name ≤ length (name_list (before ++ r ∷ after))
  names_size some =
      let one : length (stored_name r) ≡ 1 + length r.name = ap (λ (b : Bool). length (if b then [] else length r.name ∷ r.name)) some ∙ omega arith in
      omega (arith, one, names_append before (r ∷ after), length-append (stored_name r) (name_list after))

  -- the reference with this name offset
  abbrev with_name : ℕ → Reference
  with_name n = record { place = place; id = id_bits r; name = n; attr = r.attr; data_at = data_end }

  offset_is : (none : Bool) → (length r.name == 0) ≡ none → name_offset before r ≡ (if none then 65535 else names_end)
  offset_is none is = ap (λ (b : Bool). if b then 65535 else names_end) is

  holds_without : name_outside bytes o (with_name 65535) ≡ None
  unfolding name_outside
  holds_without = refl

  not_none : (length r.name == 0) ≡ false → (names_end == 65535) ≡ false
  not_none some = let size = names_size some in let small = stands.small.names in grind (arith, nat_tests, size, small)

  length_is : (length r.name == 0) ≡ false → number 1 bytes name_place ≡ length r.name
  length_is some = byte_is bytes name_place (length r.name) (name_stands some)

  holds_with : (length r.name == 0) ≡ false → name_outside bytes o (with_name names_end) ≡ None
  unfolding name_outside
  holds_with some =
      let size = names_size some in
      let whole = stands.map_length in
      let at : ℕ = o.names + names_end in
      let first : nat_lt o.header.map_length (at + 1) ≡ false = grind (arith, nat_tests, size, whole) in
      let second : nat_lt o.header.map_length (at + 1 + number 1 bytes name_place) ≡ false = grind (arith, nat_tests, size, whole, length_is some) in
      (λ i. if not_none some i then None else broken (first i || second i) (fault 409 name_place names_end))

  pub name_holds : name_outside bytes o (written_reference place before r) ≡ None
  name_holds =
      by_test _ (length r.name == 0)
      (λ is. ap (λ n. name_outside bytes o (with_name n)) (offset_is true is) ∙ holds_without)
      (λ is. ap (λ n. name_outside bytes o (with_name n)) (offset_is false is) ∙ holds_with is)

  is_without : name_of bytes o (with_name 65535) ≡ []
  unfolding name_of
  is_without = refl

  is_with : (length r.name == 0) ≡ false → name_of bytes o (with_name names_end) ≡ r.name
  unfolding name_of
  is_with some =
      (λ i. if not_none some i then [] else take (length_is some i) (drop (name_place + 1) bytes))
      ∙ piece_is bytes (name_place + 1) r.name (has_right bytes name_place (name_place + 1) (length r.name ∷ []) r.name refl (name_stands some))

  nil_name : (length r.name == 0) ≡ true → [] ≡ r.name
  nil_name is = let none : length r.name ≡ 0 = grind (arith, nat_tests) in sym (nil_from_length r.name none)

  name_is : name_of bytes o (written_reference place before r) ≡ r.name
  name_is =
      by_test _ (length r.name == 0)
      (λ is. ap (λ n. name_of bytes o (with_name n)) (offset_is true is) ∙ is_without ∙ nil_name is)
      (λ is. ap (λ n. name_of bytes o (with_name n)) (offset_is false is) ∙ is_with is)

  -- the resource is read again
  pub resource_is : HasShortId r → (t : TypeEntry) → r.kind.code ≡ t.code → resource_of bytes o t (written_reference place before r) ≡ r
  unfolding resource_of
  resource_is fits t code =
      let id_is : cast_signed w16 (cast_unsigned w16 r.id) ≡ r.id = to_z-of_z w16 r.id fits in
      (λ i. record { kind = record { code = sym code i }; id = id_is i; name = name_is i; attr = r.attr; bytes = data_is i })

-- a resource has the type
abbrev pub HasKind : ℕ → Resource → Type 0
HasKind k r = r.kind.code ≡ k

-- among resources of one type the ids tell keys apart
any_key : (front : List Resource) (r : Resource) (k : ℕ) → AllByRecursion (HasKind k) front → HasKind k r
    → list_any (λ b. id_bits b == id_bits r) front ≡ list_any (λ b. same_key b r) front
any_key [] r k codes code = refl
any_key (b ∷ front) r k codes code =
    let alike : (b.kind.code == r.kind.code) ≡ true = let e : b.kind.code ≡ r.kind.code = codes.0 ∙ sym code in grind (arith, nat_tests) in
    (λ i. (sym alike i && (id_bits b == id_bits r)) || any_key front r k codes.1 code i)

-- the ids of resources of one type differ, from each other and from those of the resources in front
pub ids_hold : (place : ℕ) (before front rs : List Resource) (seen : List Reference) → KeysDiffer front rs → (k : ℕ)
    → AllByRecursion (HasKind k) front → AllByRecursion (HasKind k) rs
    → ((x : ℕ) → list_any (λ b. b.id == x) seen ≡ list_any (λ b. id_bits b == x) front)
    → first_in id_rule seen (written_references place before rs) ≡ None
ids_hold place before front [] seen differ k codes_front codes same = refl
ids_hold place before front (r ∷ rs) seen differ k codes_front codes same =
    let own = written_reference place before r in
    let rest = first_in id_rule (seen ++ own ∷ []) (written_references (place + 12) (before ++ r ∷ []) rs) in
    let new : list_any (λ b. b.id == id_bits r) seen ≡ false = same (id_bits r) ∙ any_key front r k codes_front codes.0 ∙ differ.0 in
    ap (λ (b : Bool). or_else (broken b (fault 410 place (id_bits r))) rest) new
    ∙ ids_hold (place + 12) (before ++ r ∷ []) (front ++ r ∷ []) rs (seen ++ own ∷ []) differ.1 k (all_append (HasKind k) front (r ∷ []) codes_front (codes.0, tt)) codes.1
    (λ x. list_any-append (λ b. b.id == x) seen (own ∷ []) ∙ ap (λ (b : Bool). b || ((id_bits r == x) || false)) (same x)
    ∙ sym (list_any-append (λ b. id_bits b == x) front (r ∷ [])))

-- what is read of resources of one type
pub type_reads : (bytes : List ℕ) (o : Outline) (t : TypeEntry) (place : ℕ) (before rs after : List Resource) (seen : List Reference) → Stands bytes o (before ++ (rs ++ after))
    → AllByRecursion HasShortId rs → AllByRecursion (HasKind t.code) rs
    → (first_in (reference_rule Data bytes o) seen (written_references place before rs) ≡ None)
    × (first_in (reference_rule Name bytes o) seen (written_references place before rs) ≡ None)
    × (map (resource_of bytes o t) (written_references place before rs) ≡ rs)
type_reads bytes o t place before [] after seen stands ids codes = (refl, refl, refl)
type_reads bytes o t place before (r ∷ rs) after seen stands ids codes =
    let own = written_reference place before r in
    let later = type_reads bytes o t (place + 12) (before ++ r ∷ []) rs after (seen ++ own ∷ []) (subst (Stands bytes o) (sym (append_assoc before (r ∷ []) (rs ++ after))) stands) ids.1 codes.1 in (
      (λ i. or_else (data_holds bytes o before r (rs ++ after) stands place i) (later.0 i)),
      (λ i. or_else (name_holds bytes o before r (rs ++ after) stands place i) (later.1 i)),
      (λ i. resource_is bytes o before r (rs ++ after) stands place ids.0 t codes.0 i ∷ later.2 i),
    )

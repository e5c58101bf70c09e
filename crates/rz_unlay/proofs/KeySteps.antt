-- Keys of a case, one field more at a time.
use Rattle.std.proofs.Common.{◌≡◌, ℕ, ◌+◌, ◌<◌, ◌≤◌, ◌&&◌, Bool, true, false, List, [], ◌∷◌, ◌++◌, length, get_or, drop, Option, Some, None, refl, sym, ap, ◌∙◌, arith}
use Rattle.std.specs.Option.{is_some}
use Rattle.std.specs.Prelude.{if◌then◌else◌, nat_abs, option_map, ◌*◌, pos, ℤ}
use Rattle.std.proofs.lemmas.List.{append-nil}
use Rattle.rz_core.proofs.Tests.{true_false}
use Rattle.rz_types_fields.specs.declared.field.Field.{Field}
use Rattle.rz_types_fields.specs.declared.keys.CaseKey.{CaseKey}
use Rattle.rz_types_fields.proofs.Bodies.{body_end, body_next}
use Rattle.rz_types_fields.proofs.Capped.{keys_same, plus_capped, some_is}
use Rattle.rz_types.specs.Field.{field_and, no_fields, plain_body, plain_field, Align, Array, Fill, Label, Number, PlainBody, PlainField, PlainNumber, Points, Switch, Text}
use Rattle.rz_types.specs.Width.{capped, field_key, fixed_width, fixed_widths, key_bits, keys_from, number_key, plus, rows_width}
use Rattle.rz_unlay.specs.Fits.{is_key, HasKeyFrom, IsFound}
use Rattle.rz_unlay.specs.Cursor.{has_key_at, has_keys}

keys_append : (all : List Bool) (at : ℕ) (keys more : List CaseKey) → has_keys all at (keys ++ more) ≡ (has_keys all at keys && has_keys all at more)
keys_append all at [] more = refl
keys_append all at (key ∷ keys) more =
    ap (λ (b : Bool). has_key_at all at key && b) (keys_append all at keys more) ∙ assoc (has_key_at all at key) (has_keys all at keys) (has_keys all at more)
  where
    assoc : (a b c : Bool) → (a && (b && c)) ≡ ((a && b) && c)
    assoc true b c = refl
    assoc false b c = refl

module _ (all : List Bool) (at : ℕ) (fields : List Field) (i : ℕ) (field : Field) (less : i < length fields) (item : field ≡ get_or fields i field)
    (before : Option ℕ) (total : Bool) (so : has_keys all at (keys_from before (plain_body (drop i fields))) ≡ total) where
  both_are : (has_keys all at (field_key before (plain_field field)) && has_keys all at (keys_from (plus before (fixed_width (plain_field field))) (plain_body (drop (i + 1) fields)))) ≡ total
  both_are =
      sym (keys_append all at (field_key before (plain_field field)) (keys_from (plus before (fixed_width (plain_field field))) (plain_body (drop (i + 1) fields))))
      ∙ ap (λ (b : PlainBody). has_keys all at (keys_from before b)) (sym (body_next fields i field less item))
      ∙ so

  pub keys_more : (width next : Option ℕ) → true ≡ has_keys all at (field_key before (plain_field field)) → width ≡ option_map capped (fixed_width (plain_field field))
      → next ≡ option_map capped (plus before width) → has_keys all at (keys_from next (plain_body (drop (i + 1) fields))) ≡ total
  keys_more width next has wide sum =
      let same : option_map capped next ≡ option_map capped (plus before (fixed_width (plain_field field))) =
      ap (option_map capped) (sum ∙ ap (λ (w : Option ℕ). option_map capped (plus before w)) wide) ∙ plus_capped before (fixed_width (plain_field field)) in
      ap (has_keys all at) (keys_same next (plus before (fixed_width (plain_field field))) (plain_body (drop (i + 1) fields)) same)
      ∙ ap (λ (b : Bool). b && has_keys all at (keys_from (plus before (fixed_width (plain_field field))) (plain_body (drop (i + 1) fields)))) has
      ∙ both_are

  pub no_keys : false ≡ has_keys all at (field_key before (plain_field field)) → false ≡ total
  no_keys has = ap (λ (b : Bool). b && has_keys all at (keys_from (plus before (fixed_width (plain_field field))) (plain_body (drop (i + 1) fields)))) has ∙ both_are

pub keys_over : (all : List Bool) (at : ℕ) (fields : List Field) (i : ℕ) (before : Option ℕ) (total : Bool) → length fields ≤ i
    → has_keys all at (keys_from before (plain_body (drop i fields))) ≡ total → true ≡ total
keys_over all at fields i before total past so = sym (ap (λ (b : PlainBody). has_keys all at (keys_from before b)) (body_end fields i past)) ∙ so

-- The one key.

abbrev first_distance : List CaseKey → Option ℕ
first_distance [] = None
first_distance (key ∷ keys) = key.distance

abbrev others_of : List CaseKey → List CaseKey
others_of [] = []
others_of (key ∷ keys) = keys

none_number : (number : PlainNumber) (rest : List CaseKey) (key : CaseKey) → (rest ≡ key ∷ [] → ⊥) → number_key None number ++ rest ≡ key ∷ [] → is_some key.distance ≡ true → ⊥
none_number number rest key later is known = by number.key is
  where
    by : (b : Bool) → (if b then record { width = nat_abs number.width; distance = None; bits = key_bits number.width number.fixed } ∷ [] else []) ++ rest ≡ key ∷ [] → ⊥
    by true same = true_false (sym known ∙ sym (ap is_some (ap first_distance same)))
    by false same = later same

-- after fields whose width isn't known no key is at a known distance
none_from : (body : PlainBody) (key : CaseKey) → keys_from None body ≡ key ∷ [] → is_some key.distance ≡ true → ⊥
none_from no_fields key is known = absurd cc
none_from (field_and (Number number) fields) key is known = none_number number (keys_from None fields) key (λ same. none_from fields key same known) is known
none_from (field_and (Text text) fields) key is known = none_from fields key is known
none_from (field_and (Points points) fields) key is known = none_from fields key is known
none_from (field_and (Fill unit count) fields) key is known = none_from fields key is known
none_from (field_and (Align unit) fields) key is known = none_from fields key is known
none_from (field_and (Label name) fields) key is known = none_from fields key is known
none_from (field_and (Array name count row) fields) key is known = none_from fields key is known
none_from (field_and (Switch cases) fields) key is known = none_from fields key is known

not_key : (field : PlainField) (before : Option ℕ) → is_key field ≡ false → field_key before field ≡ []
not_key (Number number) before none =
    ap (λ (b : Bool). if b then record { width = nat_abs number.width; distance = option_map capped before; bits = key_bits number.width number.fixed } ∷ [] else []) none
not_key (Text text) before none = refl
not_key (Points points) before none = refl
not_key (Fill unit count) before none = refl
not_key (Align unit) before none = refl
not_key (Label name) before none = refl
not_key (Array name count row) before none = refl
not_key (Switch cases) before none = refl

key_alone : (field : PlainField) (before : Option ℕ) (rest : List CaseKey) (key : CaseKey) → is_key field ≡ true → field_key before field ++ rest ≡ key ∷ [] → rest ≡ []
key_alone (Number number) before rest key own is =
    ap others_of
    (ap (λ (b : Bool). (if b then record { width = nat_abs number.width; distance = option_map capped before; bits = key_bits number.width number.fixed } ∷ [] else []) ++ rest) (sym own) ∙ is)
key_alone (Text text) before rest key own is = absurd cc
key_alone (Points points) before rest key own is = absurd cc
key_alone (Fill unit count) before rest key own is = absurd cc
key_alone (Align unit) before rest key own is = absurd cc
key_alone (Label name) before rest key own is = absurd cc
key_alone (Array name count row) before rest key own is = absurd cc
key_alone (Switch cases) before rest key own is = absurd cc

plus_none : (before : Option ℕ) → plus before None ≡ None
plus_none None = refl
plus_none (Some one) = refl

module _ (all : List Bool) (at : ℕ) (fields : List Field) (i : ℕ) (field : Field) (less : i < length fields) (item : field ≡ get_or fields i field)
    (before : Option ℕ) (has : HasKeyFrom before (plain_body (drop i fields))) where
  abbrev own : PlainField
  own = plain_field field

  abbrev rest : PlainBody
  rest = plain_body (drop (i + 1) fields)

  has_whole : field_key before own ++ keys_from (plus before (fixed_width own)) rest ≡ has.key ∷ []
  has_whole = ap (keys_from before) (sym (body_next fields i field less item)) ∙ has.alone

  -- at the key the others are none
  pub key_here : (total : Bool) → has_keys all at (keys_from before (plain_body (drop i fields))) ≡ total → true ≡ is_key own → has_keys all at (field_key before own) ≡ total
  key_here total so key =
      ap (has_keys all at)
      (sym (append-nil (field_key before own)) ∙ ap (λ (l : List CaseKey). field_key before own ++ l) (sym (key_alone own before (keys_from (plus before (fixed_width own)) rest) has.key (sym key) has_whole)))
      ∙ ap (λ (b : PlainBody). has_keys all at (keys_from before b)) (sym (body_next fields i field less item))
      ∙ so

  -- before the key each width is known
  module _ (none : false ≡ is_key own) where
    has_rest : keys_from (plus before (fixed_width own)) rest ≡ has.key ∷ []
    has_rest = ap (λ (l : List CaseKey). l ++ keys_from (plus before (fixed_width own)) rest) (sym (not_key own before (sym none))) ∙ has_whole

    pub width_known : (found : Option ℕ) → IsFound (fixed_width own) found → found ≡ option_map capped (fixed_width own)
    width_known found is = by (fixed_width own) refl
      where
        by : (o : Option ℕ) → fixed_width own ≡ o → found ≡ option_map capped o
        by None same = absurd (none_from rest has.key (ap (λ (o : Option ℕ). keys_from o rest) (sym (ap (plus before) same ∙ plus_none before)) ∙ has_rest) has.fixed)
        by (Some width) same = is width same

    pub no_key_here : true ≡ has_keys all at (field_key before own)
    no_key_here = sym (ap (has_keys all at) (not_key own before (sym none)))

    pub key_later : (found next : Option ℕ) → found ≡ option_map capped (fixed_width own) → next ≡ option_map capped (plus before found) → HasKeyFrom next rest
    key_later found next wide sum =
        let same : option_map capped next ≡ option_map capped (plus before (fixed_width own)) =
        ap (option_map capped) (sum ∙ ap (λ (w : Option ℕ). option_map capped (plus before w)) wide) ∙ plus_capped before (fixed_width own) in
        record { key = has.key; alone = keys_same next (plus before (fixed_width own)) rest same ∙ has_rest; fixed = has.fixed }

-- Widths before the key.

pub found_exact : (exact found : Option ℕ) → found ≡ option_map capped exact → IsFound exact found
found_exact exact found is width same = is ∙ ap (option_map capped) same

pub found_no_rows : (width : Option ℕ) → IsFound (rows_width (Some (pos 0)) width) (Some 0)
found_no_rows None total is = absurd cc
found_no_rows (Some bits) total is = ap Some (omega (arith, some_is (0 * bits) total is))

capped_times : (n a : ℕ) → capped (n * capped a) ≡ capped (n * a)
capped_times n a = grind (arith)

pub found_rows : (count : Option ℤ) (exact found : Option ℕ) → IsFound exact found → IsFound (rows_width count exact) (option_map capped (rows_width count found))
found_rows None exact found is total same = absurd cc
found_rows (Some count) None found is total same = absurd cc
found_rows (Some count) (Some own) found is total same =
    ap (λ (width : Option ℕ). option_map capped (rows_width (Some count) width)) (is own refl)
    ∙ ap Some (capped_times (nat_abs count) own ∙ ap capped (some_is (nat_abs count * own) total same))

-- the widths of the first fields are found, where those of all are known
pub record FoundSoFar (fields : List Field) (i : ℕ) (found : Option ℕ) (total : ℕ) : Type 0 where
  pub done : ℕ
  pub rest : ℕ
  pub left : fixed_widths (plain_body (drop i fields)) ≡ Some rest
  pub is : found ≡ Some (capped done)
  pub sum : done + rest ≡ total

abbrev pub AreFoundSoFar : List Field → ℕ → Option ℕ → Type 0
AreFoundSoFar fields i found = (total : ℕ) → fixed_widths (plain_body fields) ≡ Some total → FoundSoFar fields i found total

both_known : (one other : Option ℕ) (total : ℕ) → plus one other ≡ Some total → (a : ℕ) × (b : ℕ) × (one ≡ Some a) × (other ≡ Some b) × (a + b ≡ total)
both_known None other total is = absurd cc
both_known (Some a) None total is = absurd cc
both_known (Some a) (Some b) total is = (a, b, refl, refl, some_is (a + b) total is)

pub found_first : (fields : List Field) → AreFoundSoFar fields 0 (Some 0)
found_first fields total is = record { done = 0; rest = total; left = is; is = refl; sum = omega arith }

pub found_more : (fields : List Field) (i : ℕ) (field : Field) → i < length fields → field ≡ get_or fields i field → (before found next : Option ℕ) → AreFoundSoFar fields i before
    → IsFound (fixed_width (plain_field field)) found → next ≡ option_map capped (plus before found) → AreFoundSoFar fields (i + 1) next
found_more fields i field less item before found next so is sum total all =
    let one = so total all in
    let parts = both_known (fixed_width (plain_field field)) (fixed_widths (plain_body (drop (i + 1) fields))) one.rest
    (ap fixed_widths (sym (body_next fields i field less item)) ∙ one.left) in
    let own = is parts.0 parts.2 in
    let added : capped (capped one.done + capped parts.0) ≡ capped (one.done + parts.0) = omega arith in
    let whole : one.done + parts.0 + parts.1 ≡ total = omega (arith, parts.4, one.sum) in
    record {
      done = one.done + parts.0;
      rest = parts.1;
      left = parts.3;
      is = sum ∙ (λ j. option_map capped (plus (one.is j) (own j))) ∙ ap Some added;
      sum = whole;
    }

pub found_last : (fields : List Field) (i : ℕ) (found : Option ℕ) → length fields ≤ i → AreFoundSoFar fields i found → IsFound (fixed_widths (plain_body fields)) found
found_last fields i found past so total all =
    let one = so total all in
    let none : 0 ≡ one.rest = some_is 0 one.rest (ap fixed_widths (sym (body_end fields i past)) ∙ one.left) in
    let same : one.done ≡ total = omega (arith, none, one.sum) in
    one.is ∙ ap (λ (n : ℕ). Some (capped n)) same

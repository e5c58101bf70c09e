-- The labels at a known distance from a field, noted from the last to the first.
use Rattle.std.proofs.Common.{◌≡◌, ℕ, zero, suc, ℤ, ◌+◌, ◌-◌, ◌<◌, ◌≤◌, Bool, true, false, ◌&&◌, ◌||◌, List, [], ◌∷◌, ◌++◌, length, get_or, take, drop, Option, Some, None, refl, sym, ap, subst, ◌∙◌, arith}
use Rattle.std.specs.Option.{is_some}
use Rattle.std.specs.Prelude.{if◌then◌else◌}
use Rattle.std.proofs.Math.Seq.{take-append_seam}
use Rattle.std.proofs.lemmas.List.{length-append, take_all}
use Rattle.rz_core.proofs.Tests.{true_false}
use Rattle.rz_core.specs.declared.resource.Word.{Word}
use Rattle.rz_expr.specs.Environment.{Key}
use Rattle.rz_types_fields.specs.Field.{field_and, plain_body, plain_field, Align, Array, Fill, Label, Number, PlainBody, PlainField, Points, Switch, Text}
use Rattle.rz_types_fields.specs.Known.{noted, noting}
use Rattle.rz_types_fields.specs.Passed.{is_label, is_measured, is_near, stands_at}
use Rattle.rz_types_fields.specs.FlatRows.{label_count}
use Rattle.rz_types_fields.specs.declared.field.Field.{Field}
use Rattle.rz_types_fields.specs.declared.names.Note.{Note}
use Rattle.rz_types_fields.proofs.Bodies.{body_next}
use Rattle.rz_types_fields.proofs.Fronts.{noted_append}
use Rattle.rz_types.specs.Ahead.{label_of, measured, AreNear, IsNearer, StayNear}

abbrev pub NearHere : PlainBody → List Note → Type 0
NearHere fields notes = AreNear fields notes × StayNear fields notes

-- One note more.

pub near_none : (field : PlainField) (notes : List Note) → ((key : Key) → is_label field key ≡ false) → label_count field ≡ 0 → IsNearer field notes notes
near_none field notes none no_label = record {
  near = λ key. ap (λ (b : Bool). b || is_some (noted None notes key)) (sym (none key));
  back = ap (λ (n : ℕ). take (length notes - n) notes) no_label ∙ take_all (length notes - 0) notes (omega arith);
}

seam : {A : Type 0} (old new : List A) (x : A) → new ≡ old ++ x ∷ [] → take (length new - 1) new ≡ old
seam old new x is =
    let long : length new - 1 ≡ length old = ap (λ (l : List _). length l - 1) is ∙ (omega (arith, length-append old (x ∷ []))) in
    (λ i. take (long i) (is i)) ∙ take-append_seam old (x ∷ [])

pub near_label : (field : PlainField) (old new : List Note) (note : Note) → new ≡ old ++ note ∷ [] → label_count field ≡ 1
    → ((key : Key) (before : Option ℤ) → is_some (noting note key before) ≡ (is_label field key || is_some before)) → IsNearer field old new
near_label field old new note is one so = record {
  near = λ key. ap (λ (notes : List Note). is_some (noted None notes key)) is ∙ ap is_some (noted_append None old (note ∷ []) key) ∙ so key (noted None old key);
  back = ap (λ (n : ℕ). take (length new - n) new) one ∙ seam old new note is;
}

pub near_one : (field : PlainField) (fields : PlainBody) (old new : List Note) → is_measured field ≡ true → IsNearer field old new → NearHere fields old
    → NearHere (field_and field fields) new
near_one field fields old new is more here = (
  λ key. more.near key ∙ (λ i. is_label field key || here.0 key i) ∙ (λ i. is_label field key || (sym is i && is_near fields key)),
  λ _. subst (NearHere fields) (sym more.back) here,
)

-- what has no name of its own is no label
pub near_other : (field : PlainField) (notes : List Note) → label_of field ≡ None → IsNearer field notes notes
near_other (Number number) notes none = near_none (Number number) notes (λ key. refl) refl
near_other (Text text) notes none = near_none (Text text) notes (λ key. refl) refl
near_other (Points points) notes none = near_none (Points points) notes (λ key. refl) refl
near_other (Fill unit count) notes none = near_none (Fill unit count) notes (λ key. refl) refl
near_other (Align unit) notes none = near_none (Align unit) notes (λ key. refl) refl
near_other (Label name) notes none = absurd cc
near_other (Array name count row) notes none = near_none (Array name count row) notes (λ key. refl) refl
near_other (Switch cases) notes none = near_none (Switch cases) notes (λ key. refl) refl

one_word : (one other : Word) → ◌≡◌ {A = Option Word} (Some one) (Some other) → one ≡ other
one_word one other is = cc

pub near_named : (field : PlainField) (name : Word) (old new : List Note) (note : Note) → label_of field ≡ Some name → new ≡ old ++ note ∷ []
    → ((key : Key) (before : Option ℤ) → is_some (noting note key before) ≡ (stands_at name.bytes key || is_some before)) → IsNearer field old new
near_named (Number number) name old new note is grew so = absurd cc
near_named (Text text) name old new note is grew so = absurd cc
near_named (Points points) name old new note is grew so = absurd cc
near_named (Fill unit count) name old new note is grew so = absurd cc
near_named (Align unit) name old new note is grew so = absurd cc
near_named (Label own) name old new note is grew so =
    near_label (Label own) old new note grew refl (λ key before. so key before ∙ ap (λ (word : Word). stands_at word.bytes key || is_some before) (sym (one_word own name is)))
near_named (Array own count row) name old new note is grew so = absurd cc
near_named (Switch cases) name old new note is grew so = absurd cc

-- Measured fields.

unmeasured_label : (field : PlainField) (key : Key) → is_measured field ≡ false → is_label field key ≡ false
unmeasured_label (Number number) key is = refl
unmeasured_label (Text text) key is = refl
unmeasured_label (Points points) key is = refl
unmeasured_label (Fill unit count) key is = refl
unmeasured_label (Align unit) key is = refl
unmeasured_label (Label name) key is = absurd (true_false is)
unmeasured_label (Array name count row) key is = refl
unmeasured_label (Switch cases) key is = refl

pub measured_within : (fields : List Field) → measured (plain_body fields) ≤ length fields
measured_within [] = omega arith
measured_within (field ∷ fields) = by (is_measured (plain_field field)) (measured_within fields)
  where
    by : (b : Bool) → measured (plain_body fields) ≤ length fields → (if b then measured (plain_body fields) + 1 else 0) ≤ suc (length fields)
    by true less = omega (arith, less)
    by false less = omega arith

-- nothing is near behind those that are measured
pub near_end : (fields : List Field) → NearHere (plain_body (drop (measured (plain_body fields)) fields)) []
near_end [] = (λ key. refl, tt)
near_end (field ∷ fields) = by (is_measured (plain_field field)) refl (near_end fields)
  where
    by : (b : Bool) → is_measured (plain_field field) ≡ b → NearHere (plain_body (drop (measured (plain_body fields)) fields)) []
        → NearHere (plain_body (drop (if b then measured (plain_body fields) + 1 else 0) (field ∷ fields))) []
    by true is later =
        let next : suc (measured (plain_body fields)) ≡ measured (plain_body fields) + 1 = omega arith in
        subst (λ (n : ℕ). NearHere (plain_body (drop n (field ∷ fields))) []) next later
    by false is later = (
      λ key. sym (λ i. unmeasured_label (plain_field field) key is i || (is i && is_near (plain_body fields) key)),
      λ so. absurd (true_false (sym so ∙ is)),
    )

pub measured_at : (fields : List Field) (i : ℕ) (field : Field) → i < measured (plain_body fields) → field ≡ get_or fields i field → is_measured (plain_field field) ≡ true
measured_at [] i field less item = absurd (omega (arith, less))
measured_at (first ∷ fields) i field less item = by (λ i. measured_at fields i field) (is_measured (plain_field first)) refl i less item
  where
    by : ((i : ℕ) → i < measured (plain_body fields) → field ≡ get_or fields i field → is_measured (plain_field field) ≡ true)
        → (b : Bool) → is_measured (plain_field first) ≡ b → (i : ℕ) → i < (if b then measured (plain_body fields) + 1 else 0) → field ≡ get_or (first ∷ fields) i field
        → is_measured (plain_field field) ≡ true
    by later true is zero less item = ap (λ (f : Field). is_measured (plain_field f)) item ∙ is
    by later true is (suc i) less item = later i (omega (arith, less)) item
    by later false is i less item = absurd (omega (arith, less))

-- one field more of those that are measured
pub near_more : (fields : List Field) (count later : ℕ) (field : Field) (old new : List Note) → count ≡ measured (plain_body fields) → later < count
    → field ≡ get_or fields (count - 1 - later) field → IsNearer (plain_field field) old new → NearHere (plain_body (drop (count - later) fields)) old
    → NearHere (plain_body (drop (count - (later + 1)) fields)) new
near_more fields count later field old new is less item more here =
    let i = count - 1 - later in
    let few : count ≤ length fields = subst (λ (n : ℕ). n ≤ length fields) (sym is) (measured_within fields) in
    let within : i < length fields = omega (arith, few, less) in
    let among : i < measured (plain_body fields) = subst (λ (n : ℕ). i < n) is (omega (arith, less)) in
    let same : i ≡ count - (later + 1) = omega arith in
    let next : count - later ≡ i + 1 = omega (arith, less) in
    subst (λ (n : ℕ). NearHere (plain_body (drop n fields)) new) same
    (subst (λ (body : PlainBody). NearHere body new) (sym (body_next fields i field within item))
    (near_one (plain_field field) (plain_body (drop (i + 1) fields)) old new (measured_at fields i field among item) more
    (subst (λ (n : ℕ). NearHere (plain_body (drop n fields)) old) next here)))

-- Widths that are capped at each step are as good as widths that are capped once.
use Rattle.std.proofs.Common.{◌≡◌, ℕ, ◌+◌, ◌<◌, List, [], ◌∷◌, ◌++◌, length, get_or, drop, Option, Some, None, refl, sym, ap, ◌∙◌, append_assoc, arith}
use Rattle.std.specs.Prelude.{if◌then◌else◌, nat_abs, option_map}
use Rattle.rz_types_fields.specs.Field.{field_and, no_fields, plain_body, plain_field, Align, Array, Fill, Label, Number, PlainBody, PlainField, Points, Switch, Text}
use Rattle.rz_types_fields.specs.Width.{capped, case_keys, field_key, fixed_width, key_bits, keys_from, plus}
use Rattle.rz_types_fields.specs.declared.field.Field.{Field}
use Rattle.rz_types_fields.specs.declared.keys.CaseKey.{CaseKey}
use Rattle.rz_types_fields.proofs.Bodies.{body_next}

pub some_is : (a b : ℕ) → ◌≡◌ {A = Option ℕ} (Some a) (Some b) → a ≡ b
some_is a b is = cc

-- after widths that are capped alike the keys are the same

sum_same : (one other more : ℕ) → capped one ≡ capped other → capped (one + more) ≡ capped (other + more)
sum_same one other more same = omega (arith, same)

plus_same : (one other more : Option ℕ) → option_map capped one ≡ option_map capped other → option_map capped (plus one more) ≡ option_map capped (plus other more)
plus_same None None more same = refl
plus_same None (Some other) more same = absurd cc
plus_same (Some one) None more same = absurd cc
plus_same (Some one) (Some other) None same = refl
plus_same (Some one) (Some other) (Some more) same = ap Some (sum_same one other more (some_is (capped one) (capped other) same))

field_same : (one other : Option ℕ) (field : PlainField) → option_map capped one ≡ option_map capped other → field_key one field ≡ field_key other field
field_same one other (Number number) same =
    ap (λ (bits : Option ℕ). if number.key then record { width = nat_abs number.width; distance = bits; bits = key_bits number.width number.fixed } ∷ [] else []) same
field_same one other (Text text) same = refl
field_same one other (Points points) same = refl
field_same one other (Fill unit count) same = refl
field_same one other (Align unit) same = refl
field_same one other (Label name) same = refl
field_same one other (Array name count row) same = refl
field_same one other (Switch cases) same = refl

pub keys_same : (one other : Option ℕ) (row : PlainBody) → option_map capped one ≡ option_map capped other → keys_from one row ≡ keys_from other row
keys_same one other no_fields same = refl
keys_same one other (field_and field fields) same =
    (λ i. field_same one other field same i ++ keys_same (plus one (fixed_width field)) (plus other (fixed_width field)) fields (plus_same one other (fixed_width field) same) i)

-- the sum of capped widths

sum_capped : (one more : ℕ) → capped (capped (one + capped more)) ≡ capped (one + more)
sum_capped one more = omega arith

pub plus_capped : (one more : Option ℕ) → option_map capped (option_map capped (plus one (option_map capped more))) ≡ option_map capped (plus one more)
plus_capped None more = refl
plus_capped (Some one) None = refl
plus_capped (Some one) (Some more) = ap Some (sum_capped one more)

-- the keys of one field more
pub keys_more : (fields : List Field) (i : ℕ) (field : Field) → i < length fields → field ≡ get_or fields i field → (before next : Option ℕ) (width : Option ℕ) (keys more : List CaseKey)
    → keys ++ keys_from before (plain_body (drop i fields)) ≡ case_keys (plain_body fields) → more ≡ keys ++ field_key before (plain_field field)
    → width ≡ option_map capped (fixed_width (plain_field field)) → next ≡ option_map capped (plus before width)
    → more ++ keys_from next (plain_body (drop (i + 1) fields)) ≡ case_keys (plain_body fields)
keys_more fields i field less item before next width keys more so pushed has sum =
    let rest = plain_body (drop (i + 1) fields) in
    let same : option_map capped next ≡ option_map capped (plus before (fixed_width (plain_field field))) =
    ap (option_map capped) (sum ∙ ap (λ (w : Option ℕ). option_map capped (plus before w)) has) ∙ plus_capped before (fixed_width (plain_field field)) in
    (λ i. pushed i ++ keys_same next (plus before (fixed_width (plain_field field))) rest same i)
    ∙ append_assoc keys (field_key before (plain_field field)) (keys_from (plus before (fixed_width (plain_field field))) rest)
    ∙ ap (λ (b : PlainBody). keys ++ keys_from before b) (sym (body_next fields i field less item))
    ∙ so

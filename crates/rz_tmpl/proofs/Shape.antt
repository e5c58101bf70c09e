-- The body of items that are kept has the shape of a declaration.
use Rattle.std.proofs.Common.{◌≡◌, ℕ, zero, suc, ◌+◌, ◌-◌, ◌^◌, ◌≤◌, ◌<◌, Bool, true, false, List, [], ◌∷◌, length, refl, ap, ◌∙◌, arith}
use Rattle.std.specs.Prelude.{◌&&◌, nat_le}
use Rattle.std.specs.Fmt.{decimal}
use Rattle.std.proofs.lemmas.Bool.Decides.{nat_tests}
use Rattle.std.proofs.lemmas.Fmt.{decimal_nonempty, length-decimal-le}
use Rattle.rz_core.specs.Decimal.{decimal_of}
use Rattle.rz_lex.specs.Classes.{is_word_byte}
use Rattle.rz_lex.specs.Extent.{are_word_bytes}
use Rattle.rz_words.specs.Attribute.{attribute_word}
use Rattle.rz_words.specs.Keyword.{keyword_of}
use Rattle.rz_words.specs.Words.{is_name, role_of}
use Rattle.rz_types_fields.specs.Shape.{are_shaped, body_depth, is_own_name, is_shaped, is_well_shaped}
use Rattle.rz_tmpl.specs.Items.{count, is_kept, list, none, one, Items}
use Rattle.rz_tmpl.specs.declared.entry.CountForm.TheVariants.{LessOne, Rows}
use Rattle.rz_tmpl.specs.declared.entry.ListForm.TheVariants.{Counted, Uncounted}
use Rattle.rz_tmpl.specs.declared.entry.Plain.{Plain}
use Rattle.rz_tmpl.specs.declared.entry.Plain.TheVariants.{Aligned, Character, Number, Pascal, Rectangle, Rest, TypeName, ZeroEnded, Zeros}
use Rattle.rz_tmpl.specs.declared.entry.Size.TheVariants.{Byte, Long, Word}
use Rattle.rz_tmpl.specs.Body.{body_from, field_of, list_name, lists_of}
use Rattle.rz_tmpl.proofs.Kept.{listed}
use Rattle.rz_tmpl.proofs.Names.{are_digits, AreDigits}

-- Names of lists.

digit_byte : (d : ℕ) → 48 ≤ d → d ≤ 57 → is_word_byte d ≡ true
digit_byte d low high = grind (arith, nat_tests)

digits_bytes : (digits : List ℕ) → AreDigits digits → are_word_bytes digits ≡ true
digits_bytes [] are = refl
digits_bytes (d ∷ digits) are = rw (digit_byte d are.0.0 are.0.1) (digits_bytes digits are.1)

-- a word of `L` and a digit is no keyword
named : (e : ℕ) (digits : List ℕ) → e < 10 → is_name (role_of (76 ∷ (48 + e) ∷ digits)) ≡ true
unfolding attribute_word keyword_of
named zero digits less = refl
named (suc zero) digits less = refl
named (suc (suc zero)) digits less = refl
named (suc (suc (suc zero))) digits less = refl
named (suc (suc (suc (suc zero)))) digits less = refl
named (suc (suc (suc (suc (suc zero))))) digits less = refl
named (suc (suc (suc (suc (suc (suc zero)))))) digits less = refl
named (suc (suc (suc (suc (suc (suc (suc zero))))))) digits less = refl
named (suc (suc (suc (suc (suc (suc (suc (suc zero)))))))) digits less = refl
named (suc (suc (suc (suc (suc (suc (suc (suc (suc zero))))))))) digits less = refl
named (suc (suc (suc (suc (suc (suc (suc (suc (suc (suc e)))))))))) digits less = absurd (omega arith)

name_role : (digits : List ℕ) → AreDigits digits → 0 < length digits → is_name (role_of (76 ∷ digits)) ≡ true
name_role [] are some = absurd (omega arith)
name_role (d ∷ digits) are some =
    let low = are.0.0 in let high = are.0.1 in
    let is : d ≡ 48 + (d - 48) = omega arith in
    ap (λ (x : ℕ). is_name (role_of (76 ∷ x ∷ digits))) is ∙ named (d - 48) digits (omega arith)

pub own_name : (k : ℕ) → k < 2 ^ 64 → is_own_name (list_name k) ≡ true
unfolding decimal_of
own_name k small =
    let are = are_digits k small in
    let short : length (decimal k) ≤ 20 = length-decimal-le 20 k (omega arith) (omega arith) small in
    rw (digits_bytes (decimal k) are, (let fits : nat_le (length (76 ∷ decimal k)) 255 ≡ true = grind (arith, nat_tests) in fits)) (name_role (decimal k) are (decimal_nonempty k small))

-- Fields.

plain_shaped : (plain : Plain) → is_shaped false (field_of plain) ≡ true
plain_shaped (Number Byte true) = refl
plain_shaped (Number Byte false) = refl
plain_shaped (Number Word true) = refl
plain_shaped (Number Word false) = refl
plain_shaped (Number Long true) = refl
plain_shaped (Number Long false) = refl
plain_shaped Character = refl
plain_shaped TypeName = refl
plain_shaped Rectangle = refl
plain_shaped (Zeros Byte) = refl
plain_shaped (Zeros Word) = refl
plain_shaped (Zeros Long) = refl
plain_shaped (Aligned Byte) = refl
plain_shaped (Aligned Word) = refl
plain_shaped (Aligned Long) = refl
plain_shaped Pascal = refl
plain_shaped ZeroEnded = refl
plain_shaped Rest = refl

pub both : (a b : Bool) → a ≡ true → b ≡ true → (a && b) ≡ true
both true b is other = other
both false b is other = absurd cc

shaped : (k : ℕ) (items : Items) → k + lists_of items ≤ 2 ^ 64 → are_shaped false (body_from k items) ≡ true
shaped k none few = refl
shaped k (one plain rest) few = both _ _ (plain_shaped plain) (shaped k rest few)
shaped k (count LessOne rest) few = shaped k rest few
shaped k (count Rows rest) few = shaped k rest few
shaped k (list Counted inner rest) few =
    both _ _ (both _ _ (own_name k (omega arith)) (shaped (k + 1) inner (omega arith))) (shaped (k + 1 + lists_of inner) rest (omega arith))
shaped k (list Uncounted inner rest) few = both _ _ (shaped k inner (omega arith)) (shaped (k + lists_of inner) rest (omega arith))

-- Depth.

plain_flat : (plain : Plain) → Rattle.rz_types_fields.specs.Shape.field_depth (field_of plain) ≡ 0
plain_flat (Number size hex) = refl
plain_flat Character = refl
plain_flat TypeName = refl
plain_flat Rectangle = refl
plain_flat (Zeros size) = refl
plain_flat (Aligned size) = refl
plain_flat Pascal = refl
plain_flat ZeroEnded = refl
plain_flat Rest = refl

deep : (left k : ℕ) (w : Bool) (items : Items) → is_kept left w items ≡ true → body_depth (body_from k items) ≤ left
deep left k w none kept = omega arith
deep left k w (one plain rest) kept = omega (arith, plain_flat plain, deep left k w rest kept)
deep left k true (count less rest) kept = absurd cc
deep left k false (count less rest) kept = omega (arith, deep left k true rest kept)
deep zero k w (list form inner rest) kept = absurd cc
deep (suc left) k w (list Counted inner rest) kept =
    let is = listed left Counted w inner rest kept in
    omega (arith, deep left (k + 1) false inner is.inside, deep (suc left) (k + 1 + lists_of inner) false rest is.others)
deep (suc left) k w (list Uncounted inner rest) kept =
    let is = listed left Uncounted w inner rest kept in
    omega (arith, deep left k false inner is.inside, deep (suc left) (k + lists_of inner) w rest is.others)

pub well_shaped : (items : Items) → is_kept 60 false items ≡ true → 1 + lists_of items ≤ 2 ^ 64 → is_well_shaped (body_from 1 items) ≡ true
well_shaped items kept few =
    let depth = deep 60 1 false items kept in
    let fits : nat_le (body_depth (body_from 1 items)) 60 ≡ true = grind (arith, nat_tests) in
    both _ _ (shaped 1 items few) fits

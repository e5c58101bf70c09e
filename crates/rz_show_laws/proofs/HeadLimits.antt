-- The tokens of a head keep the limits of a statement.
use Rattle.std.proofs.Common.{◌≡◌, ℕ, suc, ◌+◌, ◌≤◌, ℤ, pos, negsuc, true, List, [], ◌∷◌, ◌++◌, map, length, refl, ap, arith, length-append}
use Rattle.std.specs.Prelude.{◌*◌, ◌==◌, ◌||◌, ◌/◌, ◌%◌, nat_le, if◌then◌else◌}
use Rattle.std.proofs.lemmas.Bool.{le-leb}
use Rattle.std.proofs.lemmas.Grind.{flat_map-append}
use Rattle.rz_core.proofs.Tests.{by_test}
use Rattle.rz_core.specs.declared.resource.Resource.{Resource}
use Rattle.rz_words.specs.Attribute.{bit_of}
use Rattle.rz_words.specs.declared.attribute.Attribute as words
use Rattle.rz_words.specs.declared.attribute.Attribute.TheVariants.{Changed, Locked, Preload, Protected, Purgeable, SystemHeap}
use Rattle.rz_lex.specs.declared.sign.Sign.TheVariants as signs
use Rattle.rz_lex.specs.declared.token.Shape.{Shape}
use Rattle.rz_lex.specs.declared.token.Shape.TheVariants as shapes
use Rattle.rz_stmt_brackets.specs.Limit.{is_text, row_behind}
use Rattle.rz_stmt_brackets.specs.Statements.{open_behind}
use Rattle.rz_stmt_data.specs.Head.{Attribute}
use Rattle.rz_show_laws.specs.Statement.{attribute_part, attributes_of}
use Rattle.rz_show_laws.proofs.HeadTokens.{is_flat, AreFlatShapes}
use Rattle.rz_show_laws.proofs.Shapes.{attribute_tokens, after_commas, head_pieces, id_shapes, name_pieces, shape_alone, text_shapes}
use Rattle.rz_show_laws.proofs.Walks.{kept}

-- How many tokens of a head are no texts.

abbrev pub weight : List Shape → ℕ
weight [] = 0
weight (shape ∷ shapes) = if is_text shape then weight shapes else suc (weight shapes)

weight_both : (front back : List Shape) → weight (front ++ back) ≡ weight front + weight back
weight_both [] back = omega arith
weight_both (shape ∷ front) back = by_test (weight ((shape ∷ front) ++ back) ≡ weight (shape ∷ front) + weight back) (is_text shape)
    (λ h. rw h (weight_both front back))
    (λ h. rw h (omega (arith, weight_both front back)))

weight_texts : (pieces : List (List ℕ)) → weight (text_shapes pieces) ≡ 0
weight_texts [] = refl
weight_texts (piece ∷ pieces) = weight_texts pieces

weight_name : (name : List (List ℕ)) → weight (after_commas (name_pieces name)) ≤ 1
weight_name [] = omega arith
weight_name (piece ∷ name) = omega (arith, weight_both (text_shapes (piece ∷ name)) [], weight_texts name)

weight_attributes : (attributes : List (Shape × Attribute)) → weight (attribute_tokens attributes) ≤ 2 * length attributes
weight_attributes [] = omega arith
weight_attributes (a ∷ attributes) = by_test (weight (attribute_tokens (a ∷ attributes)) ≤ 2 * length (a ∷ attributes)) (is_text a.0)
    (λ h. rw h (omega (arith, weight_attributes attributes)))
    (λ h. rw h (omega (arith, weight_attributes attributes)))

word_few : (attr : ℕ) (attribute : words.Attribute) → length (attribute_part attr attribute) ≤ 1
word_few attr attribute = by_test (length (attribute_part attr attribute) ≤ 1) (attr / bit_of attribute % 2 == 1) (λ h. rw h (omega arith)) (λ h. rw h (omega arith))

both_few : (front back : List (Shape × Attribute)) (m n : ℕ) → length front ≤ m → length back ≤ n → length (front ++ back) ≤ m + n
both_few front back m n first second = omega (arith, length-append front back, first, second)

attributes_few : (attr : ℕ) → length (attributes_of attr) ≤ 6
attributes_few attr = by_test (length (attributes_of attr) ≤ 6) (attr == 0)
    (λ h. rw h (omega arith))
    (λ h. by_test (length (attributes_of attr) ≤ 6) (nat_le 128 attr || (attr % 2 == 1))
    (λ k. rw (h, k) (omega arith))
    (λ k. rw (h, k) (both_few _ _ 5 1 (both_few _ _ 4 1 (both_few _ _ 3 1 (both_few _ _ 2 1 (both_few _ _ 1 1 (word_few attr SystemHeap) (word_few attr Purgeable))
    (word_few attr Locked)) (word_few attr Protected)) (word_few attr Preload)) (word_few attr Changed))))

pub weight_head : (r : Resource) (name : List (List ℕ)) → weight (after_commas (head_pieces r name)) ≤ 13
weight_head r name =
    let attributes = attributes_of r.attr in
    let parts = flat_map-append (λ (piece : List Shape). shapes.Sign signs.Comma ∷ piece) (name_pieces name) (map shape_alone attributes) in
    omega (
      arith,
      ap weight parts,
      weight_both (after_commas (name_pieces name)) (attribute_tokens attributes),
      weight_name name,
      weight_attributes attributes,
      attributes_few r.attr,
    )

pub id_few : (id : ℤ) → weight (id_shapes id) ≤ 2
id_few (pos n) = omega arith
id_few (negsuc n) = omega arith

-- Flat tokens open nothing.

flat_open : (shape : Shape) (count : ℕ) → is_flat shape ≡ true → open_behind shape count ≡ count
flat_open (shapes.Sign signs.Minus) count is = refl
flat_open (shapes.Sign signs.Comma) count is = refl
flat_open (shapes.Sign sign) count is = absurd cc
flat_open _ count is = refl

row_slow : (shape : Shape) (row : ℕ) → is_flat shape ≡ true → row_behind shape row ≤ (if is_text shape then row else suc row)
row_slow (shapes.Sign signs.Minus) row is = omega arith
row_slow (shapes.Sign signs.Comma) row is = omega arith
row_slow (shapes.Sign sign) row is = absurd cc
row_slow (shapes.Text bytes) row is = omega arith
row_slow _ row is = omega arith

-- flat tokens keep the limits, where not too many of them are no texts
pub flat_kept : (most depth row bound : ℕ) (shapes rest : List Shape) → AreFlatShapes shapes → depth ≤ most → bound ≤ 1024 → row + weight shapes ≤ bound
    → ((row : ℕ) → row ≤ bound → kept most depth row rest ≡ true) → kept most depth row (shapes ++ rest) ≡ true
flat_kept most depth row bound [] rest flat shallow low few behind = behind row (omega (arith, few))
flat_kept most depth row bound (shape ∷ shapes) rest flat shallow low few behind =
    let next = row_behind shape row in
    let slow : next + weight shapes ≤ row + weight (shape ∷ shapes) = by_test (next + weight shapes ≤ row + weight (shape ∷ shapes)) (is_text shape)
    (λ h. let most = row_slow shape row flat.0 in rw h (omega (arith, rw h at most)))
    (λ h. let most = row_slow shape row flat.0 in rw h (omega (arith, rw h at most))) in
    rw (flat_open shape depth flat.0, le-leb depth most shallow, le-leb next 1024 (omega (arith, slow, few, low)))
    (flat_kept most depth next bound shapes rest flat.1 shallow low (omega (arith, slow, few)) behind)

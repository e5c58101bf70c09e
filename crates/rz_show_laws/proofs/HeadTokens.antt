-- The tokens of the head of a shown resource, as the pieces of a head.
use Rattle.std.proofs.Common.{◌≡◌, ℕ, suc, ◌<◌, ◌^◌, ℤ, pos, negsuc, Bool, true, false, List, [], ◌∷◌, ◌++◌, map, refl, sym, ap, subst, ◌∙◌, arith}
use Rattle.std.specs.Prelude.{◌==◌, ◌&&◌, ◌||◌, ◌/◌, ◌%◌, nat_le, FitsSigned}
use Rattle.std.specs.Int.{w16, w32}
use Rattle.std.specs.List.{AllByRecursion}
use Rattle.std.proofs.lemmas.Int.{int_wrap_fits}
use Rattle.std.proofs.lemmas.List.{append-nil}
use Rattle.std.proofs.lemmas.List.Concat.{flat_map-cons}
use Rattle.rz_expr.specs.Grammar.{start_of, Derives, IsExpression, Operand}
use Rattle.rz_expr.specs.Term.{Constant, Term}
use Rattle.rz_words.specs.Attribute.{attribute_word, bit_of, setting_word}
use Rattle.rz_words.specs.declared.attribute.Attribute as words
use Rattle.rz_words.specs.declared.attribute.Attribute.TheVariants.{Changed, Locked, Preload, Protected, Purgeable, SystemHeap}
use Rattle.rz_lex.specs.Printed.{token_of, word_of}
use Rattle.rz_lex.specs.declared.sign.Sign.TheVariants as signs
use Rattle.rz_lex.specs.declared.token.Shape.{Shape}
use Rattle.rz_lex.specs.declared.token.Shape.TheVariants as shapes
use Rattle.rz_lex.specs.declared.token.Token.{Token}
use Rattle.rz_stmt_brackets.specs.Pieces.{divides, has_divider, AreCut, Parted}
use Rattle.rz_stmt_brackets.specs.Statements.{open_behind, open_behind_all}
use Rattle.rz_stmt_brackets.specs.declared.pieces.Divider.TheVariants.{CloseParen, Comma}
use Rattle.rz_stmt_data.proofs.Plain.{plain_begins, plain_text}
use Rattle.rz_stmt_data.specs.Head.{AreAttributes, Attribute, IsAttribute, IsRest, IsSaidFor, Set}
use Rattle.rz_stmt_data.specs.Texts.{begins_text, starts_text}
use Rattle.rz_stmt_data.specs.declared.head.Subject.TheVariants.{New}
use Rattle.rz_types_fields.specs.declared.place.TextPlace.TheVariants as places
use Rattle.rz_show_laws.specs.Statement.{attribute_part, attributes_of, id_term, name_part, text_parts}
use Rattle.rz_show_laws.proofs.Shapes.{after_commas, head_pieces, id_shapes, name_pieces, shape_alone, text_shapes}
use Rattle.rz_show_lines.proofs.Split.{front_and_back, none_left, one_and_more, shapes_in}
use Rattle.rz_core.proofs.Lists.{all_append}
use Rattle.rz_core.proofs.Tests.{by_test}
use Rattle.rz_core.specs.declared.resource.Resource.{Resource}

-- Shapes that stand inside a piece of a head: no commas, brackets and semicolons; and those that stand in a head.

abbrev pub is_inner : Shape → Bool
is_inner (shapes.Sign signs.Minus) = true
is_inner (shapes.Sign sign) = false
is_inner shape = true

abbrev pub is_comma : Shape → Bool
is_comma shape = divides Comma shape

abbrev pub is_flat : Shape → Bool
is_flat shape = is_inner shape || is_comma shape

abbrev pub AreInner : List Token → Type 0
AreInner tokens = AllByRecursion (λ token. is_inner token.shape ≡ true) tokens

abbrev pub AreFlat : List Token → Type 0
AreFlat tokens = AllByRecursion (λ token. is_flat token.shape ≡ true) tokens

abbrev pub AreFlatShapes : List Shape → Type 0
AreFlatShapes shapes = AllByRecursion (λ shape. is_flat shape ≡ true) shapes

pub all_of : (P : Shape → Type 0) (tokens : List Token) (shapes : List Shape) → shapes_in tokens ≡ shapes → AllByRecursion P shapes → AllByRecursion (λ (token : Token). P token.shape) tokens
all_of P tokens shapes is all = go tokens (subst (AllByRecursion P) (sym is) all)
  where
    go : (tokens : List Token) → AllByRecursion P (shapes_in tokens) → AllByRecursion (λ (token : Token). P token.shape) tokens
    go [] all = tt
    go (t ∷ tokens) all = (all.0, go tokens all.1)

pub inner_is_flat : (shapes : List Shape) → AllByRecursion (λ shape. is_inner shape ≡ true) shapes → AreFlatShapes shapes
inner_is_flat [] all = tt
inner_is_flat (shape ∷ shapes) all = (ap (λ b. b || is_comma shape) all.0, inner_is_flat shapes all.1)

pub texts_are_inner : (pieces : List (List ℕ)) → AllByRecursion (λ shape. is_inner shape ≡ true) (text_shapes pieces)
texts_are_inner [] = tt
texts_are_inner (piece ∷ pieces) = (refl, texts_are_inner pieces)

pub id_is_inner : (id : ℤ) → AllByRecursion (λ shape. is_inner shape ≡ true) (id_shapes id)
id_is_inner (pos n) = (refl, tt)
id_is_inner (negsuc n) = (refl, (refl, tt))

-- The attributes.

-- an attribute and the token that it is
pub record IsShownAttribute (a : Shape × Attribute) : Type 0 where
  pub inner : is_inner a.0 ≡ true
  pub no_text : starts_text a.0 ≡ false
  pub means : (token : Token) → token.shape ≡ a.0 → IsAttribute (token ∷ []) a.1

pub record AreShownAttributes (attributes : List (Shape × Attribute)) : Type 0 where
  pub each : AllByRecursion IsShownAttribute attributes

shown_both : {xs ys : List (Shape × Attribute)} → AreShownAttributes xs → AreShownAttributes ys → AreShownAttributes (xs ++ ys)
shown_both {xs} {ys} front back = record { each = all_append IsShownAttribute xs ys front.each back.each }

shown_word : (attr : ℕ) (attribute : words.Attribute) → starts_text (word_of (setting_word attribute)) ≡ false → ((token : Token) → token.shape ≡ word_of (setting_word attribute) → IsAttribute (token ∷ []) (Set (bit_of attribute)))
    → AreShownAttributes (attribute_part attr attribute)
shown_word attr attribute no_text means = by_test (AreShownAttributes (attribute_part attr attribute)) (attr / bit_of attribute % 2 == 1)
    (λ h. rw h (record { each = (record { inner = refl; no_text = no_text; means = means }, tt) }))
    (λ h. rw h (record { each = tt }))

tighter_than : {tokens : List Token} {term : Term} → Derives 0 tokens term → IsExpression tokens term
tighter_than d = Derives.tighter (Derives.tighter (Derives.tighter (Derives.tighter (Derives.tighter (Derives.tighter (Derives.tighter (Derives.tighter (Derives.tighter (Derives.tighter d)))))))))

number_term : (token : Token) (n : ℕ) → token.shape ≡ shapes.Number n → n < 2 ^ 31 → Derives 0 (token ∷ []) (Constant (pos n))
number_term token n is small =
    Derives.operand (rw is (ap (λ (z : ℤ). Operand (Constant z)) (int_wrap_fits w32 (pos n) (omega arith))))

pub shown_attributes : (attr : ℕ) → attr < 256 → AreShownAttributes (attributes_of attr)
unfolding attribute_word
shown_attributes attr small = by_test (AreShownAttributes (attributes_of attr)) (attr == 0)
    (λ h. rw h (record { each = tt }))
    (λ h. by_test (AreShownAttributes (attributes_of attr)) (nat_le 128 attr || (attr % 2 == 1))
    (λ k. rw (h, k) (record {
      each = (record { inner = refl; no_text = refl; means = λ token is. rw is (Constant (pos attr), (tighter_than (number_term (token_of token.mark (shapes.Number attr)) attr refl (omega arith)), refl), refl) }, tt);
    }))
    (λ k. rw (h, k) (shown_both (shown_both (shown_both (shown_both (shown_both (shown_word attr SystemHeap refl (λ token is. rw is refl)) (shown_word attr Purgeable refl (λ token is. rw is refl)))
    (shown_word attr Locked refl (λ token is. rw is refl))) (shown_word attr Protected refl (λ token is. rw is refl)))
    (shown_word attr Preload refl (λ token is. rw is refl))) (shown_word attr Changed refl (λ token is. rw is refl)))))

-- The pieces of the head, after the id.

-- the pieces are these attributes
attribute_pieces : (attributes : List (Shape × Attribute)) → AllByRecursion IsShownAttribute attributes → (pieces : List (List Token)) → map shapes_in pieces ≡ map shape_alone attributes
    → AreAttributes pieces (map (λ a. a.1) attributes)
attribute_pieces [] shown [] is = refl
attribute_pieces [] shown (piece ∷ pieces) is = absurd cc
attribute_pieces (a ∷ attributes) shown [] is = absurd cc
attribute_pieces (a ∷ attributes) shown (piece ∷ pieces) is =
    let first : shapes_in piece ≡ a.0 ∷ [] = cc in
    let others : map shapes_in pieces ≡ map shape_alone attributes = cc in
    let one = one_and_more piece a.0 [] first in
    let alone : piece ≡ one.one ∷ [] = one.are ∙ ap (λ (x : List Token). one.one ∷ x) (none_left one.more one.more_are) in (
      a.1,
      map (λ a. a.1) attributes,
      subst (λ (x : List Token). IsAttribute x a.1) (sym alone) (shown.0.means one.one one.one_is),
      attribute_pieces attributes shown.1 pieces others,
      refl,
    )

no_name_piece : (a : Shape × Attribute) → IsShownAttribute a → (piece : List Token) → shapes_in piece ≡ a.0 ∷ [] → begins_text piece ≡ false
no_name_piece a shown piece is =
    let one = one_and_more piece a.0 [] is in
    ap begins_text one.are ∙ ap starts_text one.one_is ∙ shown.no_text

pub rest_is : (name : List (List ℕ)) (attributes : List (Shape × Attribute)) → AllByRecursion IsShownAttribute attributes → (pieces : List (List Token))
    → map shapes_in pieces ≡ name_pieces name ++ map shape_alone attributes → IsRest pieces (name_part name) (map (λ a. a.1) attributes)
rest_is [] [] shown [] is = (refl, refl)
rest_is [] [] shown (piece ∷ pieces) is = absurd cc
rest_is [] (a ∷ attributes) shown [] is = absurd cc
rest_is [] (a ∷ attributes) shown (piece ∷ pieces) is =
    let first : shapes_in piece ≡ a.0 ∷ [] = cc in
    rw (no_name_piece a shown.0 piece first) (refl, attribute_pieces (a ∷ attributes) shown (piece ∷ pieces) is)
rest_is (part ∷ name) attributes shown [] is = absurd cc
rest_is (part ∷ name) attributes shown (piece ∷ pieces) is =
    let first : shapes_in piece ≡ text_shapes (part ∷ name) = cc in
    let others : map shapes_in pieces ≡ map shape_alone attributes = cc in
    rw (plain_begins part name piece first) (text_parts (part ∷ name), plain_text places.New part name piece first, attribute_pieces attributes shown pieces others, refl)

-- the id
pub id_is : (id : ℤ) → FitsSigned w16 id → (tokens : List Token) → shapes_in tokens ≡ id_shapes id → IsSaidFor New tokens (id_term id)
id_is (pos n) fits tokens is =
    let one = one_and_more tokens (shapes.Number n) [] is in
    let alone : tokens ≡ one.one ∷ [] = one.are ∙ ap (λ (x : List Token). one.one ∷ x) (none_left one.more one.more_are) in
    (subst (λ (x : List Token). IsExpression x (Constant (pos n))) (sym alone) (tighter_than (number_term one.one n one.one_is (omega (arith, fits)))), refl)
id_is (negsuc n) fits tokens is =
    let one = one_and_more tokens (shapes.Sign signs.Minus) (shapes.Number (suc n) ∷ []) is in
    let two = one_and_more one.more (shapes.Number (suc n)) [] one.more_are in
    let both : tokens ≡ one.one ∷ two.one ∷ [] = one.are ∙ ap (λ (x : List Token). one.one ∷ x) (two.are ∙ ap (λ (x : List Token). two.one ∷ x) (none_left two.more two.more_are)) in (
      subst (λ (x : List Token). IsExpression x (id_term (negsuc n))) (sym both)
          (tighter_than (Derives.prefixed (ap start_of one.one_is) (number_term two.one (suc n) two.one_is (omega (arith, fits))))),
      refl,
    )

-- From the tokens of the head to its pieces.

-- the tokens of such a piece hold no comma outside brackets, and those of a head no bracket that closes
no_comma : (tokens : List Token) → AreInner tokens → has_divider Comma 0 tokens ≡ false
no_comma [] inner = refl
no_comma (token ∷ tokens) inner = go token.shape inner.0 (no_comma tokens inner.1)
  where
    go : (shape : Shape) → is_inner shape ≡ true → has_divider Comma 0 tokens ≡ false
        → ((divides Comma shape && (0 == 0)) || has_divider Comma (open_behind shape 0) tokens) ≡ false
    go (shapes.Sign signs.Minus) is rest = rest
    go (shapes.Sign sign) is rest = absurd cc
    go _ is rest = rest

pub no_paren : (tokens : List Token) → AreFlat tokens → has_divider CloseParen 0 tokens ≡ false
no_paren [] flat = refl
no_paren (token ∷ tokens) flat = go token.shape flat.0 (no_paren tokens flat.1)
  where
    go : (shape : Shape) → is_flat shape ≡ true → has_divider CloseParen 0 tokens ≡ false
        → ((divides CloseParen shape && (0 == 0)) || has_divider CloseParen (open_behind shape 0) tokens) ≡ false
    go (shapes.Sign signs.Minus) is rest = rest
    go (shapes.Sign signs.Comma) is rest = rest
    go (shapes.Sign sign) is rest = absurd cc
    go _ is rest = rest

-- after such tokens no bracket is open
pub none_open : (tokens : List Token) → AreFlat tokens → open_behind_all tokens 0 ≡ 0
none_open [] flat = refl
none_open (token ∷ tokens) flat = go token.shape flat.0 (none_open tokens flat.1)
  where
    go : (shape : Shape) → is_flat shape ≡ true → open_behind_all tokens 0 ≡ 0 → open_behind_all tokens (open_behind shape 0) ≡ 0
    go (shapes.Sign signs.Minus) is rest = rest
    go (shapes.Sign signs.Comma) is rest = rest
    go (shapes.Sign sign) is rest = absurd cc
    go _ is rest = rest

flat_of_inner : (tokens : List Token) → AreInner tokens → AreFlat tokens
flat_of_inner [] inner = tt
flat_of_inner (token ∷ tokens) inner = (ap (λ b. b || is_comma token.shape) inner.0, flat_of_inner tokens inner.1)

abbrev pub ArePieces : List (List Shape) → Type 0
ArePieces pieces = AllByRecursion (λ piece. AllByRecursion (λ shape. is_inner shape ≡ true) piece) pieces

pub pieces_are_inner : (r : Resource) (name : List (List ℕ)) → r.attr < 256 → ArePieces (head_pieces r name)
pieces_are_inner r name small = all_append (AllByRecursion (λ shape. is_inner shape ≡ true)) (name_pieces name) (map shape_alone (attributes_of r.attr)) (of_name name) (of_attributes (attributes_of r.attr) (shown_attributes r.attr small).each)
  where
    of_name : (name : List (List ℕ)) → ArePieces (name_pieces name)
    of_name [] = tt
    of_name (piece ∷ name) = (texts_are_inner (piece ∷ name), tt)

    of_attributes : (attributes : List (Shape × Attribute)) → AllByRecursion IsShownAttribute attributes → ArePieces (map shape_alone attributes)
    of_attributes [] shown = tt
    of_attributes (a ∷ attributes) shown = ((shown.0.inner, tt), of_attributes attributes shown.1)

pub pieces_are_flat : (pieces : List (List Shape)) → ArePieces pieces → AreFlatShapes (after_commas pieces)
pieces_are_flat [] inner = tt
pieces_are_flat (piece ∷ pieces) inner =
    subst AreFlatShapes (sym (flat_map-cons (λ (piece : List Shape). shapes.Sign signs.Comma ∷ piece) piece pieces))
    (refl, all_append (λ shape. is_flat shape ≡ true) piece (after_commas pieces) (inner_is_flat piece inner.0) (pieces_are_flat pieces inner.1))

-- the tokens of a head are cut at their commas into the first piece and these
pub record IsHeadOf (first named : List Token) (pieces : List (List Shape)) : Type 0 where
  pub others : List (List Token)
  pub are : map shapes_in others ≡ pieces
  pub cut : AreCut Comma (first ++ named) (first ∷ others)

pub head_of : (first named : List Token) (pieces : List (List Shape)) → AreInner first → ArePieces pieces → shapes_in named ≡ after_commas pieces → IsHeadOf first named pieces
head_of first named [] first_inner inner is = record {
  others = [];
  are = refl;
  cut = subst (λ (x : List Token). AreCut Comma x (first ∷ [])) (sym (ap (λ (x : List Token). first ++ x) (none_left named is) ∙ append-nil first)) (AreCut.last first (no_comma first first_inner));
}
head_of first named (piece ∷ pieces) first_inner inner is =
    let comma = one_and_more named (shapes.Sign signs.Comma) (piece ++ after_commas pieces) (is ∙ flat_map-cons (λ (piece : List Shape). shapes.Sign signs.Comma ∷ piece) piece pieces) in
    let both = front_and_back comma.more piece (after_commas pieces) comma.more_are in
    let behind = head_of both.front both.back pieces (all_of (λ shape. is_inner shape ≡ true) both.front piece both.front_is inner.0) inner.1 both.back_is in
    let parted : Parted = record { front = first; behind = both.front ++ both.back } in
    record {
      others = both.front ∷ behind.others;
      are = (λ i. both.front_is i ∷ behind.are i);
      cut = AreCut.more (first ++ named) parted (both.front ∷ behind.others) (record {
        sign = comma.one;
        are = ap (λ (x : List Token). first ++ x) (comma.are ∙ ap (λ (x : List Token). comma.one ∷ x) both.are);
        first = no_comma first first_inner;
        divides = rw (comma.one_is, none_open first (flat_of_inner first first_inner)) refl;
      }) behind.cut;
    }

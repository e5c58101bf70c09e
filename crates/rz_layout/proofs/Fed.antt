-- The values of a row, and the pieces that take them.
use Rattle.std.proofs.Common.{◌≡◌, ℕ, ◌^◌, ◌<◌, ℤ, Bool, true, false, List, [], ◌∷◌, length, map, Option, Some, None, refl, sym, ap, subst, ◌∙◌}
use Rattle.std.specs.Prelude.{nat_abs, replicate}
use Rattle.std.specs.List.{AllByRecursion}
use Rattle.std.specs.Option.{is_none, is_some, option_to_list}
use Rattle.rz_expr.specs.Term.{Term}
use Rattle.rz_types_fields.specs.declared.tree.Tree.{Tree}
use Rattle.rz_types_fields.specs.declared.tree.Tree.TheVariants as trees
use Rattle.rz_types_fields.specs.Field.{takes_value, Number, PlainNumber, PlainPoints, PlainText, Points, Text}
use Rattle.rz_types_fields.specs.Laid.{first_value, other_values, takes_one}
use Rattle.rz_types_fields.specs.Piece.{fixed_integer, free_integer, integers, Filler, OneNumber, OneText, Piece, Place, Zeros}
use Rattle.rz_types_fields.specs.Row.{IsValue}
use Rattle.rz_types_fields.specs.Shape.{numbers_of}
use Rattle.rz_types_fields.specs.Spells.{group_in, put, IsGrouped}
use Rattle.rz_types_fields.specs.Text.{PlainPart}
use Rattle.rz_layout.proofs.Rows.{Takes}
use Rattle.rz_layout.proofs.Trees.{group_is}
use Rattle.rz_layout.proofs.Texts.{TextValue}

-- What a piece takes.

abbrev pub NumberValue : ℤ → Option Term → Option Tree → Type 0
NumberValue width None value = (n : ℕ) × (value ≡ Some (trees.Number n)) × (n < 2 ^ nat_abs width)
NumberValue width (Some term) value = value ≡ None

abbrev pub PieceValue : Piece → Option Tree → Type 0
PieceValue (OneNumber number) value = NumberValue number.width number.fixed value
PieceValue (OneText text) value = TextValue text.fixed value
PieceValue (Zeros count) value = value ≡ None
PieceValue (Filler unit) value = value ≡ None
PieceValue (Place name) value = value ≡ None

-- each piece takes its value of those that are given
abbrev pub AreFed : List Piece → List Tree → Type 0
AreFed [] values = values ≡ []
AreFed (piece ∷ pieces) values =
    PieceValue piece (first_value (takes_one piece) values) × (values ≡ put (first_value (takes_one piece) values) (other_values (takes_one piece) values))
    × AreFed pieces (other_values (takes_one piece) values)

number_value : (number : PlainNumber) (fixed : Option Term) (value : Option Tree) → Takes (is_none fixed) (IsValue (Number number)) value → NumberValue number.width fixed value
number_value number None value (v, (n, is, small), some) = (n, some ∙ ap (λ (t : Tree). Some t) is, small)
number_value number (Some term) value none = none

text_value : (text : PlainText) (fixed : Option (List PlainPart)) (value : Option Tree) → Takes (is_none fixed) (IsValue (Text text)) value → TextValue fixed value
text_value text None value (v, (bytes, is), some) = (bytes, some ∙ ap (λ (t : Tree). Some t) is)
text_value text (Some parts) value none = none

taken : (takes : Bool) (IsOne : Tree → Type 0) (value : Option Tree) → Takes takes IsOne value → is_some value ≡ takes
taken true IsOne value it = ap is_some it.2
taken false IsOne value it = ap is_some it

pub single_fed : (piece : Piece) (value : Option Tree) → is_some value ≡ takes_one piece → PieceValue piece value → AreFed (piece ∷ []) (option_to_list value)
single_fed piece value is has = by value (takes_one piece) is has
  where
    by : (value : Option Tree) (takes : Bool) → is_some value ≡ takes → PieceValue piece value
        → PieceValue piece (first_value takes (option_to_list value)) × (option_to_list value ≡ put (first_value takes (option_to_list value)) (other_values takes (option_to_list value)))
        × (other_values takes (option_to_list value) ≡ [])
    by (Some value) true is has = (has, refl, refl)
    by None false is has = (has, refl, refl)
    by (Some value) false is has = absurd cc
    by None true is has = absurd cc

fed_group : (numbers : List ℕ) → AllByRecursion (λ n. n < 65536) numbers → AreFed (replicate (length numbers) free_integer) (map trees.Number numbers)
fed_group [] small = refl
fed_group (n ∷ numbers) small = ((n, refl, small.0), refl, fed_group numbers small.1)

fed_fixed : (terms : List Term) → AreFed (map fixed_integer terms) []
fed_fixed [] = refl
fed_fixed (term ∷ terms) = (refl, refl, fed_fixed terms)

pub points_have : (points : PlainPoints) (fixed : Option (List Term)) (value : Option Tree) → Takes (is_none fixed) (IsValue (Points points)) value
    → IsGrouped fixed value × AreFed (integers points.rect fixed) (map trees.Number (group_in value))
points_have points None value (v, (numbers, is, count, small), some) =
    let group : value ≡ Some (trees.Group numbers) = some ∙ ap (λ (t : Tree). Some t) is in (
      (numbers, group),
      subst (λ (ns : List ℕ). AreFed (replicate (numbers_of points.rect) free_integer) (map trees.Number ns)) (sym (ap group_in group ∙ group_is numbers))
          (subst (λ (n : ℕ). AreFed (replicate n free_integer) (map trees.Number numbers)) count (fed_group numbers small)),
    )
points_have points (Some terms) value none = (
  none,
  subst (λ (v : Option Tree). AreFed (map fixed_integer terms) (map trees.Number (group_in v))) (sym none) (fed_fixed terms),
)

pub number_has : (number : PlainNumber) (value : Option Tree) → Takes (takes_value (Number number)) (IsValue (Number number)) value → AreFed (OneNumber number ∷ []) (option_to_list value)
number_has number value it = single_fed (OneNumber number) value (taken (is_none number.fixed) (IsValue (Number number)) value it) (number_value number number.fixed value it)

pub text_has : (text : PlainText) (value : Option Tree) → Takes (takes_value (Text text)) (IsValue (Text text)) value → AreFed (OneText text ∷ []) (option_to_list value)
text_has text value it = single_fed (OneText text) value (taken (is_none text.fixed) (IsValue (Text text)) value it) (text_value text text.fixed value it)

-- What spells bytes is a row of its declaration.
use Rattle.std.proofs.Common.{◌≡◌, inl, inr, ℕ, zero, suc, ◌+◌, ◌*◌, ◌<◌, ◌^◌, ℤ, Bool, true, false, List, [], ◌∷◌, length, map, Option, Some, None, refl, sym, ap, ◌∙◌, subst}
use Rattle.std.specs.Prelude.{nat_abs, replicate}
use Rattle.std.specs.List.{AllByRecursion}
use Rattle.std.specs.Option.{is_none, option_to_list}
use Rattle.rz_core.specs.declared.facts.Facts.{Facts}
use Rattle.rz_core.specs.declared.resource.Word.{Word}
use Rattle.rz_expr.specs.Environment.{Environment, Sight}
use Rattle.rz_expr.specs.Term.{Term}
use Rattle.rz_bits.specs.Bits.{bits_of}
use Rattle.rz_types_fields.specs.declared.field.NumForm.{NumForm}
use Rattle.rz_types_fields.specs.declared.tree.Tree.{out-Tree, Tree}
use Rattle.rz_types_fields.specs.declared.tree.Tree.TheVariants as trees
use Rattle.rz_types_fields.specs.Row.{By, IsChoice, IsFront, IsRow, IsValue}
use Rattle.rz_types_fields.specs.Sees.{sees, Late}
use Rattle.rz_types_fields.specs.Spells.{group_in, is_case, numbers_of_group, put, AreBytes, BodySpells, CaseSpells, FieldSpells, InOrder, Inside, IsGrouped, IsNumber, IsStored, IsText, Manner, PieceSpells, RowSpells, RowsSpell, Spelling}
use Rattle.rz_types_fields.specs.RowLabels.{row_of}
use Rattle.rz_types.specs.Field.{case_and, field_and, no_cases, no_fields, takes_value, Align, Array, Fill, Label, Number, PlainBody, PlainCases, PlainField, PlainPoints, PlainText, Points, Switch, Text}
use Rattle.rz_types.specs.Shape.{numbers_of}
use Rattle.rz_types.specs.Passed.{at_field, at_front, behind, behind_piece, nothing_passed, Passed}
use Rattle.rz_types.specs.Piece.{free_integer, integers, Filler, OneNumber, OneText, Piece, Place, Zeros}
use Rattle.rz_types.specs.Text.{PlainPart}
use Rattle.rz_unlay.specs.Pieces.{number_of_value}

-- a value where one is taken, and else none
abbrev Takes : Bool → (Tree → Type 0) → Option Tree → Type 0
Takes true IsOne value = (v : Tree) × IsOne v × (value ≡ Some v)
Takes false IsOne value = value ≡ None

fronted : (takes : Bool) (IsOne : Tree → Type 0) (value : Option Tree) (row rest : List Tree) → Takes takes IsOne value → row ≡ put value rest → IsFront takes IsOne row rest
fronted true IsOne value row rest (v, one, is) whole = (v, one, whole ∙ ap (λ (o : Option Tree). put o rest) is)
fronted false IsOne value row rest is whole = whole ∙ ap (λ (o : Option Tree). put o rest) is

one_value : (value other : Option Tree) (rest : List Tree) → option_to_list value ≡ put other rest → rest ≡ [] → value ≡ other
one_value value other rest is none = by value other (is ∙ ap (put other) none)
  where
    by : (value other : Option Tree) → option_to_list value ≡ put other [] → value ≡ other
    by None None is = refl
    by None (Some other) is = absurd cc
    by (Some value) None is = absurd cc
    by (Some value) (Some other) is = let same : value ≡ other = cc in ap (λ (t : Tree). Some t) same

-- Values of pieces.

number_takes : (form : NumForm) (width : ℤ) (fixed : Option Term) (sight : Sight) (value : Option Tree) (bits : List Bool)
    → IsNumber form width fixed sight value bits → Takes (is_none fixed) (λ v. (n : ℕ) × (v ≡ trees.Number n) × (n < 2 ^ nat_abs width)) value
number_takes form width None sight value bits it = (trees.Number it.0, (it.0, refl, it.2), it.1)
number_takes form width (Some term) sight value bits it = it.1

text_takes : (text : PlainText) (known : Facts) (sight : Sight) (value : Option Tree) (bits : List Bool) → IsText text known sight value bits
    → Takes (is_none text.fixed) (λ v. (bytes : List ℕ) × (v ≡ trees.Text bytes)) value
text_takes text known sight value bits it = by text.fixed it.are_bytes
  where
    by : (fixed : Option (List PlainPart)) → AreBytes known sight fixed value it.bytes → Takes (is_none fixed) (λ v. (bytes : List ℕ) × (v ≡ trees.Text bytes)) value
    by None are = (trees.Text it.bytes, (it.bytes, refl), are)
    by (Some parts) are = are.0

-- Numbers of points.

abbrev first_number : List Tree → ℕ
first_number [] = 0
first_number (value ∷ values) = number_of_value (out-Tree value)

abbrev later_values : List Tree → List Tree
later_values [] = []
later_values (value ∷ values) = values

same_number : (m n : ℕ) (values others : List Tree) → trees.Number m ∷ values ≡ trees.Number n ∷ others → m ≡ n
same_number m n values others is = sym (ap number_of_value (trees.outs-Number m)) ∙ ap first_number is ∙ ap number_of_value (trees.outs-Number n)

nothing_is : (value : Tree) (values : List Tree) → [] ≡ value ∷ values → ⊥
nothing_is value values is = cc

module _ (how : Manner) (facts : Facts) (all : List Bool) where
  abbrev InPieces : Environment → Passed → List Piece → List Tree → RowSpells
  InPieces env passed pieces values = InOrder (PieceSpells how facts all env) passed pieces values

  single : (piece : Piece) (env : Environment) (passed : Passed) (value : Option Tree) (at : ℕ) (late : Late) (after : ℕ) (late_after : Late)
      → InPieces env passed (piece ∷ []) (option_to_list value) at late after late_after → (bits : List Bool) × IsStored piece facts at (sees facts all env at) value bits
  single piece env passed value at late after late_after it =
      (it.5.bits, subst (λ (v : Option Tree). IsStored piece facts at (sees facts all env at) v it.5.bits) (sym (one_value value it.0 it.1 it.4 it.6.0)) it.5.stored)

  numbers_are : (count : ℕ) (env : Environment) (passed : Passed) (numbers : List ℕ) (row : List Tree) (at : ℕ) (late : Late) (after : ℕ) (late_after : Late) → map trees.Number numbers ≡ row
      → InPieces env passed (replicate count free_integer) row at late after late_after → (length numbers ≡ count) × AllByRecursion (λ n. n < 65536) numbers
  numbers_are zero env passed [] row at late after late_after same it = (refl, tt)
  numbers_are zero env passed (n ∷ numbers) row at late after late_after same it = absurd (nothing_is (trees.Number n) (map trees.Number numbers) (sym (same ∙ it.0)))
  numbers_are (suc count) env passed [] row at late after late_after same it =
      absurd (nothing_is (trees.Number it.5.stored.0) it.1 (same ∙ it.4 ∙ ap (λ (o : Option Tree). put o it.1) it.5.stored.1))
  numbers_are (suc count) env passed (m ∷ numbers) row at late after late_after same it =
      let n : ℕ = it.5.stored.0 in
      let whole : trees.Number m ∷ map trees.Number numbers ≡ trees.Number n ∷ it.1 = same ∙ it.4 ∙ ap (λ (o : Option Tree). put o it.1) it.5.stored.1 in
      let more = numbers_are count env (behind_piece free_integer passed) numbers it.1 it.2 it.3 after late_after (ap later_values whole) it.6 in
      (ap suc more.0, (subst (λ (k : ℕ). k < 65536) (sym (same_number m n (map trees.Number numbers) it.1 whole)) it.5.stored.2, more.1))

  points_take : (points : PlainPoints) (fixed : Option (List Term)) (env : Environment) (passed : Passed) (value : Option Tree) (at : ℕ) (late : Late) (after : ℕ) (late_after : Late)
      → IsGrouped fixed value → InPieces env passed (integers points.rect fixed) (map trees.Number (group_in value)) at late after late_after → Takes (is_none fixed) (IsValue (Points points)) value
  points_take points None env passed value at late after late_after grouped it =
      let numbers : List ℕ = grouped.0 in
      let group : group_in value ≡ numbers = ap group_in grouped.1 ∙ ap numbers_of_group (trees.outs-Group numbers) in
      let are = numbers_are (numbers_of points.rect) env passed numbers (map trees.Number (group_in value)) at late after late_after (ap (λ (ns : List ℕ). map trees.Number ns) (sym group)) it in
      (trees.Group numbers, (numbers, refl, are.0, are.1), grouped.1)
  points_take points (Some terms) env passed value at late after late_after grouped it = grouped

  -- Rows.

  abbrev BodyIs : PlainBody → Type 0
  BodyIs body = (env : Environment) (passed : Passed) (values : List Tree) (at : ℕ) (late : Late) (after : ℕ) (late_after : Late)
      → BodySpells how facts all body env passed values at late after late_after → IsRow body values

  abbrev CasesAre : PlainCases → Type 0
  CasesAre cases = (env : Environment) (passed : Passed) (value : Option Tree) (at : ℕ) (late : Late) (after : ℕ) (late_after : Late)
      → CaseSpells how facts all cases env passed value at late after late_after → Takes true (IsChoice cases) value

  rows_are : (name : Option Word) (row : PlainBody) → BodyIs row → (env : Environment) (passed : Passed) (rows : List (List Tree)) (number at : ℕ) (late : Late) (after : ℕ) (late_after : Late)
      → RowsSpell (λ number line. Inside row (row_of name number) env (λ own. BodySpells how facts all row own passed line)) number rows at late after late_after → AllByRecursion (IsRow row) rows
  rows_are name row one env passed [] number at late after late_after it = tt
  rows_are name row one env passed (line ∷ rows) number at late after late_after it =
      (one it.2.0 passed line at late it.0 it.1 it.2.2, rows_are name row one env passed rows (number + 1) it.0 it.1 after late_after it.3)

  case_is : (name : Word) (row : PlainBody) (others : PlainCases) → BodyIs row → CasesAre others → CasesAre (case_and name row others)
  case_is name row others one more env passed value at late after late_after = by (is_case name value)
    where
      by : (test : Bool) → By test
          ((line : List Tree) × (value ≡ Some (trees.Choice name line)) × Inside row None env (λ own. BodySpells how facts all row own (at_front row passed) line) at late after late_after)
          (CaseSpells how facts all others env passed value at late after late_after) → Takes true (IsChoice (case_and name row others)) value
      by true it = (trees.Choice name it.0, inl (it.0, refl, one it.2.0 (at_front row passed) it.0 at late after late_after it.2.2), it.1)
      by false it = let inner = more env passed value at late after late_after it in (inner.0, inr inner.1, inner.2)

  mutual
    field_takes : (field : PlainField) (env : Environment) (passed : Passed) (value : Option Tree) (at : ℕ) (late : Late) (after : ℕ) (late_after : Late)
        → FieldSpells how facts all field env passed value at late after late_after → Takes (takes_value field) (IsValue field) value
    field_takes (Number number) env passed value at late after late_after it =
        let one = single (OneNumber number) env passed value at late after late_after it.1 in
        number_takes number.form number.width number.fixed (sees facts all env at) value one.0 one.1
    field_takes (Text text) env passed value at late after late_after it =
        let one = single (OneText text) env passed value at late after late_after it.1 in text_takes text facts (sees facts all env at) value one.0 one.1
    field_takes (Points points) env passed value at late after late_after it = points_take points points.fixed env passed value at late after late_after it.0 it.1
    field_takes (Fill unit count) env passed value at late after late_after it = (single (Zeros (unit * nat_abs count)) env passed value at late after late_after it.1).1.0
    field_takes (Align unit) env passed value at late after late_after it = (single (Filler unit) env passed value at late after late_after it.1).1.0
    field_takes (Label name) env passed value at late after late_after it = (single (Place name) env passed value at late after late_after it.1).1.0
    field_takes (Array name count row) env passed value at late after late_after it =
        (trees.Rows it.0, (it.0, refl, it.2, rows_are name row (body_is row) env (at_front row passed) it.0 1 at late after late_after it.5), it.1)
    field_takes (Switch cases) env passed value at late after late_after it = cases_are cases env passed value at late after late_after it

    cases_are : (cases : PlainCases) → CasesAre cases
    cases_are no_cases env passed value at late after late_after it = absurd it
    cases_are (case_and name row others) env passed value at late after late_after it = case_is name row others (body_is row) (cases_are others) env passed value at late after late_after it

    body_is : (body : PlainBody) → BodyIs body
    body_is no_fields env passed values at late after late_after it = it.0
    body_is (field_and field fields) env passed values at late after late_after it = (
      it.1,
      fronted (takes_value field) (IsValue field) it.0 values it.1 (field_takes field env (at_field (field_and field fields) passed) it.0 at late it.2 it.3 it.5) it.4,
      body_is fields env (behind field (at_field (field_and field fields) passed)) it.1 it.2 it.3 after late_after it.6,
    )

pub spelled_is_row : (how : Manner) (facts : Facts) (body : PlainBody) (row : List Tree) (bytes : List ℕ) → Spelling how facts body row bytes → IsRow body row
spelled_is_row how facts body row bytes it = body_is how facts (bits_of bytes) body it.names (at_front body nothing_passed) row 0 [] it.end it.late it.fields

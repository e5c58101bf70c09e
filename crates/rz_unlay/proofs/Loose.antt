-- What spells bytes plainly spells them.
use Rattle.std.proofs.Common.{◌≡◌, ℕ, ◌+◌, Bool, true, false, List, [], ◌∷◌, Option, Some, None}
use Rattle.rz_core.specs.declared.facts.Facts.{Facts}
use Rattle.rz_core.specs.declared.resource.Word.{Word}
use Rattle.rz_expr.specs.Environment.{Environment}
use Rattle.rz_bits.specs.Bits.{bits_of}
use Rattle.rz_types_fields.specs.declared.tree.Tree.{Tree}
use Rattle.rz_types_fields.specs.declared.tree.Tree.TheVariants as trees
use Rattle.rz_types_fields.specs.Row.{By}
use Rattle.rz_types_fields.specs.Sees.{Late}
use Rattle.rz_types_fields.specs.RowLabels.{row_of}
use Rattle.rz_types_fields.specs.Spells.{anyhow, is_case, plainly, values_for, BodySpells, CaseSpells, FieldSpells, InOrder, Inside, PieceSpells, PiecesSpell, RowsSpell, Spells, SpellsPlainly}
use Rattle.rz_types_fields.specs.Field.{case_and, field_and, no_cases, no_fields, Align, Array, Fill, Label, Number, PlainBody, PlainCases, PlainField, Points, Switch, Text}
use Rattle.rz_types_fields.specs.Passed.{at_field, at_front, behind, behind_piece, nothing_passed, Passed}
use Rattle.rz_types_fields.specs.Piece.{pieces_of, Piece}

module _ (facts : Facts) (all : List Bool) where
  piece_loose : (env : Environment) (passed : Passed) (piece : Piece) (value : Option Tree) (at : ℕ) (late : Late) (after : ℕ) (late_after : Late)
      → PieceSpells plainly facts all env passed piece value at late after late_after → PieceSpells anyhow facts all env passed piece value at late after late_after
  piece_loose env passed piece value at late after late_after it = record {
    bits = it.bits;
    stored = it.stored;
    manner = tt;
    early = it.early;
    there = it.there;
    ends = it.ends;
    short = it.short;
    marked = it.marked;
  }

  order_loose : (env : Environment) (passed : Passed) (pieces : List Piece) (values : List Tree) (at : ℕ) (late : Late) (after : ℕ) (late_after : Late)
      → InOrder (PieceSpells plainly facts all env) passed pieces values at late after late_after → InOrder (PieceSpells anyhow facts all env) passed pieces values at late after late_after
  order_loose env passed [] values at late after late_after it = it
  order_loose env passed (piece ∷ pieces) values at late after late_after it =
      (it.0, it.1, it.2, it.3, it.4, piece_loose env passed piece it.0 at late it.2 it.3 it.5, order_loose env (behind_piece piece passed) pieces it.1 it.2 it.3 after late_after it.6)

  pieces_loose : (field : PlainField) (env : Environment) (passed : Passed) (value : Option Tree) (at : ℕ) (late : Late) (after : ℕ) (late_after : Late)
      → PiecesSpell plainly facts all field env passed value at late after late_after → PiecesSpell anyhow facts all field env passed value at late after late_after
  pieces_loose field env passed value at late after late_after it = (it.0, order_loose env passed (pieces_of field) (values_for field value) at late after late_after it.1)

  abbrev BodyLoose : PlainBody → Type 0
  BodyLoose body = (env : Environment) (passed : Passed) (values : List Tree) (at : ℕ) (late : Late) (after : ℕ) (late_after : Late)
      → BodySpells plainly facts all body env passed values at late after late_after → BodySpells anyhow facts all body env passed values at late after late_after

  abbrev CasesLoose : PlainCases → Type 0
  CasesLoose cases = (env : Environment) (passed : Passed) (value : Option Tree) (at : ℕ) (late : Late) (after : ℕ) (late_after : Late)
      → CaseSpells plainly facts all cases env passed value at late after late_after → CaseSpells anyhow facts all cases env passed value at late after late_after

  rows_loose : (name : Option Word) (row : PlainBody) → BodyLoose row → (env : Environment) (passed : Passed) (rows : List (List Tree)) (number at : ℕ) (late : Late) (after : ℕ) (late_after : Late)
      → RowsSpell (λ number line. Inside row (row_of name number) env (λ own. BodySpells plainly facts all row own passed line)) number rows at late after late_after
      → RowsSpell (λ number line. Inside row (row_of name number) env (λ own. BodySpells anyhow facts all row own passed line)) number rows at late after late_after
  rows_loose name row one env passed [] number at late after late_after it = it
  rows_loose name row one env passed (line ∷ rows) number at late after late_after it =
      (it.0, it.1, (it.2.0, it.2.1, one it.2.0 passed line at late it.0 it.1 it.2.2), rows_loose name row one env passed rows (number + 1) it.0 it.1 after late_after it.3)

  case_loose : (name : Word) (row : PlainBody) (others : PlainCases) → BodyLoose row → CasesLoose others → CasesLoose (case_and name row others)
  case_loose name row others one more env passed value at late after late_after = by (is_case name value)
    where
      by : (test : Bool)
          → By test ((line : List Tree) × (value ≡ Some (trees.Choice name line)) × Inside row None env (λ own. BodySpells plainly facts all row own (at_front row passed) line) at late after late_after)
          (CaseSpells plainly facts all others env passed value at late after late_after)
          → By test ((line : List Tree) × (value ≡ Some (trees.Choice name line)) × Inside row None env (λ own. BodySpells anyhow facts all row own (at_front row passed) line) at late after late_after)
          (CaseSpells anyhow facts all others env passed value at late after late_after)
      by true it = (it.0, it.1, (it.2.0, it.2.1, one it.2.0 (at_front row passed) it.0 at late after late_after it.2.2))
      by false it = more env passed value at late after late_after it

  mutual
    field_loose : (field : PlainField) (env : Environment) (passed : Passed) (value : Option Tree) (at : ℕ) (late : Late) (after : ℕ) (late_after : Late)
        → FieldSpells plainly facts all field env passed value at late after late_after → FieldSpells anyhow facts all field env passed value at late after late_after
    field_loose (Number number) env passed value at late after late_after it = pieces_loose (Number number) env passed value at late after late_after it
    field_loose (Text text) env passed value at late after late_after it = pieces_loose (Text text) env passed value at late after late_after it
    field_loose (Points points) env passed value at late after late_after it = pieces_loose (Points points) env passed value at late after late_after it
    field_loose (Fill unit count) env passed value at late after late_after it = pieces_loose (Fill unit count) env passed value at late after late_after it
    field_loose (Align unit) env passed value at late after late_after it = pieces_loose (Align unit) env passed value at late after late_after it
    field_loose (Label name) env passed value at late after late_after it = pieces_loose (Label name) env passed value at late after late_after it
    field_loose (Array name count row) env passed value at late after late_after it =
        (it.0, it.1, it.2, it.3, it.4, rows_loose name row (body_loose row) env (at_front row passed) it.0 1 at late after late_after it.5)
    field_loose (Switch cases) env passed value at late after late_after it = cases_loose cases env passed value at late after late_after it

    cases_loose : (cases : PlainCases) → CasesLoose cases
    cases_loose no_cases env passed value at late after late_after it = it
    cases_loose (case_and name row others) env passed value at late after late_after it =
        case_loose name row others (body_loose row) (cases_loose others) env passed value at late after late_after it

    body_loose : (body : PlainBody) → BodyLoose body
    body_loose no_fields env passed values at late after late_after it = it
    body_loose (field_and field fields) env passed values at late after late_after it =
        let here = at_field (field_and field fields) passed in
        (it.0, it.1, it.2, it.3, it.4, field_loose field env here it.0 at late it.2 it.3 it.5, body_loose fields env (behind field here) it.1 it.2 it.3 after late_after it.6)

pub plain_is_spelled : (facts : Facts) (body : PlainBody) (row : List Tree) (bytes : List ℕ) → SpellsPlainly facts body row bytes → Spells facts body row bytes
plain_is_spelled facts body row bytes plain =
    let it = plain.spelling in
    record {
      names = it.names;
      own = it.own;
      end = it.end;
      late = it.late;
      fields = body_loose facts (bits_of bytes) body it.names (at_front body nothing_passed) row 0 [] it.end it.late it.fields;
      filled = it.filled;
      within = it.within;
      are_bytes = it.are_bytes;
    }

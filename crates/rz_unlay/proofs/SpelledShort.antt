-- What spells bytes spells no more than a resource may have.
use Rattle.std.proofs.Common.{◌≡◌, ℕ, ◌+◌, ◌<◌, ◌≤◌, Bool, true, false, List, [], ◌∷◌, length, Option, Some, None, sym, subst, arith}
use Rattle.rz_core.specs.declared.facts.Facts.{Facts}
use Rattle.rz_core.specs.declared.resource.Word.{Word}
use Rattle.rz_expr.specs.Environment.{Environment}
use Rattle.rz_bits.specs.Bits.{bits_of}
use Rattle.rz_bits.specs.BitBuf.{missing}
use Rattle.rz_types_fields.specs.declared.tree.Tree.{Tree}
use Rattle.rz_types_fields.specs.declared.tree.Tree.TheVariants as trees
use Rattle.rz_types_fields.specs.Row.{By}
use Rattle.rz_types_fields.specs.Sees.{Late}
use Rattle.rz_types_fields.specs.Spells.{is_case, most_bits, values_for, BodySpells, CaseSpells, FieldSpells, InOrder, Inside, Manner, PieceSpells, RowsSpell, Spelling}
use Rattle.rz_types_fields.specs.RowLabels.{row_of}
use Rattle.rz_types.specs.Field.{case_and, field_and, no_cases, no_fields, Align, Array, Fill, Label, Number, PlainBody, PlainCases, PlainField, Points, Switch, Text}
use Rattle.rz_types.specs.Passed.{at_field, at_front, behind, behind_piece, nothing_passed, Passed}
use Rattle.rz_types.specs.Piece.{pieces_of, Piece}
use Rattle.rz_unlay.proofs.ReadsBits.{length_bits}
use Rattle.rz_unlay.proofs.ReadsFields.{left_few}

module _ (how : Manner) (facts : Facts) (all : List Bool) where
  pieces_short : (pieces : List Piece) (env : Environment) (passed : Passed) (values : List Tree) (at : ℕ) (late : Late) (after : ℕ) (late_after : Late) → at ≤ most_bits
      → InOrder (PieceSpells how facts all env) passed pieces values at late after late_after → after ≤ most_bits
  pieces_short [] env passed values at late after late_after few it = subst (λ n. n ≤ most_bits) (sym it.1) few
  pieces_short (piece ∷ pieces) env passed values at late after late_after few it =
      pieces_short pieces env (behind_piece piece passed) it.1 it.2 it.3 after late_after it.5.short it.6

  abbrev BodyShort : PlainBody → Type 0
  BodyShort body = (env : Environment) (passed : Passed) (values : List Tree) (at : ℕ) (late : Late) (after : ℕ) (late_after : Late) → at ≤ most_bits
      → BodySpells how facts all body env passed values at late after late_after → after ≤ most_bits

  abbrev CasesShort : PlainCases → Type 0
  CasesShort cases = (env : Environment) (passed : Passed) (value : Option Tree) (at : ℕ) (late : Late) (after : ℕ) (late_after : Late) → at ≤ most_bits
      → CaseSpells how facts all cases env passed value at late after late_after → after ≤ most_bits

  rows_short : (name : Option Word) (row : PlainBody) → BodyShort row → (env : Environment) (passed : Passed) (rows : List (List Tree)) (number at : ℕ) (late : Late) (after : ℕ) (late_after : Late) → at ≤ most_bits
      → RowsSpell (λ number line. Inside row (row_of name number) env (λ own. BodySpells how facts all row own passed line)) number rows at late after late_after → after ≤ most_bits
  rows_short name row one env passed [] number at late after late_after few it = subst (λ n. n ≤ most_bits) (sym it.0) few
  rows_short name row one env passed (line ∷ rows) number at late after late_after few it =
      rows_short name row one env passed rows (number + 1) it.0 it.1 after late_after (one it.2.0 passed line at late it.0 it.1 few it.2.2) it.3

  case_short : (name : Word) (row : PlainBody) (others : PlainCases) → BodyShort row → CasesShort others → CasesShort (case_and name row others)
  case_short name row others one more env passed value at late after late_after few = by (is_case name value)
    where
      by : (test : Bool) → By test
          ((line : List Tree) × (value ≡ Some (trees.Choice name line)) × Inside row None env (λ own. BodySpells how facts all row own (at_front row passed) line) at late after late_after)
          (CaseSpells how facts all others env passed value at late after late_after) → after ≤ most_bits
      by true it = one it.2.0 (at_front row passed) it.0 at late after late_after few it.2.2
      by false it = more env passed value at late after late_after few it

  mutual
    field_short : (field : PlainField) (env : Environment) (passed : Passed) (value : Option Tree) (at : ℕ) (late : Late) (after : ℕ) (late_after : Late) → at ≤ most_bits
        → FieldSpells how facts all field env passed value at late after late_after → after ≤ most_bits
    field_short (Number number) env passed value at late after late_after few it =
        pieces_short (pieces_of (Number number)) env passed (values_for (Number number) value) at late after late_after few it.1
    field_short (Text text) env passed value at late after late_after few it =
        pieces_short (pieces_of (Text text)) env passed (values_for (Text text) value) at late after late_after few it.1
    field_short (Points points) env passed value at late after late_after few it =
        pieces_short (pieces_of (Points points)) env passed (values_for (Points points) value) at late after late_after few it.1
    field_short (Fill unit count) env passed value at late after late_after few it =
        pieces_short (pieces_of (Fill unit count)) env passed (values_for (Fill unit count) value) at late after late_after few it.1
    field_short (Align unit) env passed value at late after late_after few it =
        pieces_short (pieces_of (Align unit)) env passed (values_for (Align unit) value) at late after late_after few it.1
    field_short (Label name) env passed value at late after late_after few it =
        pieces_short (pieces_of (Label name)) env passed (values_for (Label name) value) at late after late_after few it.1
    field_short (Array name count row) env passed value at late after late_after few it =
        rows_short name row (body_short row) env (at_front row passed) it.0 1 at late after late_after few it.5
    field_short (Switch cases) env passed value at late after late_after few it = cases_short cases env passed value at late after late_after few it

    cases_short : (cases : PlainCases) → CasesShort cases
    cases_short no_cases env passed value at late after late_after few it = absurd it
    cases_short (case_and name row others) env passed value at late after late_after few it =
        case_short name row others (body_short row) (cases_short others) env passed value at late after late_after few it

    body_short : (body : PlainBody) → BodyShort body
    body_short no_fields env passed values at late after late_after few it = subst (λ n. n ≤ most_bits) (sym it.1) few
    body_short (field_and field fields) env passed values at late after late_after few it =
        body_short fields env (behind field (at_field (field_and field fields) passed)) it.1 it.2 it.3 after late_after (field_short field env (at_field (field_and field fields) passed) it.0 at late it.2 it.3 few it.5) it.6

pub spelled_is_short : ((unit place : ℕ) → 0 < unit → missing unit place < unit) → (how : Manner) (facts : Facts) (body : PlainBody) (row : List Tree) (bytes : List ℕ)
    → Spelling how facts body row bytes → length bytes ≤ 16777212
spelled_is_short fewer how facts body row bytes it =
    let long = length_bits bytes in
    let end : it.end ≤ 134217696 = body_short how facts (bits_of bytes) body it.names (at_front body nothing_passed) row 0 [] it.end it.late (omega (arith)) it.fields in
    let near = left_few fewer (bits_of bytes) it.end it.within it.filled in
    omega (arith, long, end, near)

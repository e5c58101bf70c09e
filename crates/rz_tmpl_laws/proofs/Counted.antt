-- What the field of a count spells, and which values fields take.
use Rattle.std.proofs.Common.{◌≡◌, ℕ, ◌*◌, ◌≤◌, ℤ, pos, Bool, true, false, List, [], drop, Option, Some, None, Ok, refl, sym, ap, subst, ◌∙◌}
use Rattle.std.specs.Prelude.{if◌then◌else◌}
use Rattle.std.specs.declared.result.Result.{Result}
use Rattle.rz_bits.specs.Bits.{bits_of, number_bits}
use Rattle.rz_core.specs.Numbers.{be}
use Rattle.rz_core.specs.declared.facts.Facts.{Facts}
use Rattle.rz_expr.specs.Environment.{Environment, Sight}
use Rattle.rz_expr.specs.declared.value.EvalFault.{EvalFault}
use Rattle.rz_tmpl.proofs.Closed.{list_key}
use Rattle.rz_tmpl.specs.Body.{count_field, field_of, rows_term}
use Rattle.rz_tmpl.specs.Entry.{takes}
use Rattle.rz_tmpl.specs.declared.entry.CountForm.{CountForm}
use Rattle.rz_tmpl.specs.declared.entry.Plain.{Plain}
use Rattle.rz_tmpl.specs.declared.entry.Plain.TheVariants as plain
use Rattle.rz_tmpl_laws.proofs.Bytes.{be_bits, be_small, AreSmall}
use Rattle.rz_tmpl_laws.proofs.Counts.{count_value, few_rows, fits_is, solves_back, stored_is, value_is}
use Rattle.rz_tmpl_laws.proofs.Pieces.{from_bits, just, only, to_bits, Ends}
use Rattle.rz_tmpl_laws.specs.Says.{stored_count, IsThere}
use Rattle.rz_types_fields.specs.Field.{PlainNumber}
use Rattle.rz_types_fields.specs.Passed.{is_known, Passed}
use Rattle.rz_types_fields.specs.Piece.{OneNumber, Piece}
use Rattle.rz_types_fields.specs.Sees.{sees, Late}
use Rattle.rz_types_fields.specs.Solve.{SolvesBack}
use Rattle.rz_types_fields.specs.Spells.{plainly, put, FieldSpells, PieceSpells, RowSpells}
use Rattle.rz_types_fields.specs.Stored.{stored_number}
use Rattle.rz_types_fields.specs.declared.field.NumForm.TheVariants as forms
use Rattle.rz_types_fields.specs.declared.field.Radix.TheVariants as radixes
use Rattle.rz_types_fields.specs.declared.tree.Tree.{Tree}
use Rattle.rz_types_fields.specs.declared.tree.Tree.TheVariants as trees

-- Values.

abbrev pub HasValue : (takes_one : Bool) → Option Tree → Type 0
HasValue true value = (tree : Tree) × (value ≡ Some tree)
HasValue false value = value ≡ None

-- the values after that of an entry
pub others_are : (takes_one : Bool) (value : Option Tree) (row rest : List Tree) → HasValue takes_one value → row ≡ put value rest → (if takes_one then drop 1 row else row) ≡ rest
others_are true value row rest (tree, is) whole = ap (drop 1) (whole ∙ ap (λ (v : Option Tree). put v rest) is)
others_are false value row rest is whole = whole ∙ ap (λ (v : Option Tree). put v rest) is

same_value : (one other : ℤ) → ◌≡◌ {A = Result ℤ EvalFault} (Ok one) (Ok other) → one ≡ other
same_value one other is = cc

module _ (known : Facts) (bytes : List ℕ) where
  abbrev Stands : Environment → Passed → Piece → Option Tree → RowSpells
  Stands names passed piece value = PieceSpells plainly known (bits_of bytes) names passed piece value

  pub shape_of : (entry : Plain) (names : Environment) (passed : Passed) (value : Option Tree) (at : ℕ) (late : Late) (after : ℕ) (late_after : Late)
      → FieldSpells plainly known (bits_of bytes) (field_of entry) names passed value at late after late_after → HasValue (takes entry) value
  shape_of (plain.Number size hex) names passed value at late after late_after (grouped, order) =
      let is = only (Stands names) passed _ value at late after late_after order in (trees.Number is.stored.0, is.stored.1)
  shape_of plain.Character names passed value at late after late_after (grouped, order) =
      let is = only (Stands names) passed _ value at late after late_after order in (trees.Number is.stored.0, is.stored.1)
  shape_of plain.TypeName names passed value at late after late_after (grouped, order) =
      let is = only (Stands names) passed _ value at late after late_after order in (trees.Number is.stored.0, is.stored.1)
  shape_of plain.Rectangle names passed value at late after late_after ((numbers, is), order) = (trees.Group numbers, is)
  shape_of (plain.Zeros size) names passed value at late after late_after (grouped, order) = (only (Stands names) passed _ value at late after late_after order).stored.0
  shape_of (plain.Aligned size) names passed value at late after late_after (grouped, order) = (only (Stands names) passed _ value at late after late_after order).stored.0
  shape_of plain.Pascal names passed value at late after late_after (grouped, order) =
      let is = only (Stands names) passed _ value at late after late_after order in (trees.Text is.stored.bytes, is.stored.are_bytes)
  shape_of plain.ZeroEnded names passed value at late after late_after (grouped, order) =
      let is = only (Stands names) passed _ value at late after late_after order in (trees.Text is.stored.bytes, is.stored.are_bytes)
  shape_of plain.Rest names passed value at late after late_after (grouped, order) =
      let is = only (Stands names) passed _ value at late after late_after order in (trees.Text is.stored.bytes, is.stored.are_bytes)

-- Counts.

module _ (known : Facts) (bytes : List ℕ) (small : AreSmall bytes) (less : CountForm) (n rows : ℕ) (names : Environment) (given : names.give (list_key n) ≡ Some (pos rows)) where
  abbrev number : PlainNumber
  number = record { form = forms.Integer; width = pos 16; unsigned = false; radix = radixes.Plain; symbols = []; fixed = Some (rows_term less n); key = false }

  abbrev sight : ℕ → Sight
  sight place = sees known (bits_of bytes) names (8 * place)

  pub count_of : (passed : Passed) (value : Option Tree) (place : ℕ) (late : Late) (after : ℕ) (late_after : Late) → is_known passed (list_key n) ≡ false
      → FieldSpells plainly known (bits_of bytes) (count_field less n) names passed value (8 * place) late after late_after
      → (value ≡ None) × (rows ≤ 65535) × Ends bytes place (be 2 (stored_count less rows)) after
  count_of passed value place late after late_after unknown (grouped, order) =
      let is = only (Stands known bytes names) passed (OneNumber number) value (8 * place) late after late_after order in
      let v : ℤ = is.stored.0 in
      let few : rows ≤ 65535 = few_rows less n rows (stored_number 16 v) (is_known passed) (sight place) unknown given (is.manner v is.stored.2) in
      let same : v ≡ count_value less rows = same_value v (count_value less rows) (sym is.stored.2 ∙ value_is less n rows (sight place) given few) in
      let bits : is.bits ≡ bits_of (be 2 (stored_count less rows)) =
      is.stored.4 ∙ ap (λ (z : ℤ). number_bits 16 (stored_number 16 z)) same ∙ ap (number_bits 16) (stored_is less rows few) ∙ sym (be_bits 2 (stored_count less rows)) in
      (is.stored.1, few, from_bits known bytes small names passed (OneNumber number) value place late after late_after is (be 2 (stored_count less rows)) bits (be_small 2 (stored_count less rows)))

  pub of_count : (passed : Passed) (place : ℕ) (late : Late) (next : ℕ) → rows ≤ 65535 → IsThere bytes place (be 2 (stored_count less rows)) next → next ≤ 16777212
      → (late_after : Late) × FieldSpells plainly known (bits_of bytes) (count_field less n) names passed None (8 * place) late (8 * next) late_after
  of_count passed place late next few there short =
      let stored = stored_is less rows few in
      let it = to_bits known bytes small names passed (OneNumber number) None place late (be 2 (stored_count less rows)) next (
        count_value less rows,
        refl,
        value_is less n rows (sight place) given few,
        fits_is less rows few,
        be_bits 2 (stored_count less rows) ∙ ap (number_bits 16) (sym stored),
      )
      (λ v is. subst (λ (s : ℕ). SolvesBack (is_known passed) 16 (sight place) (rows_term less n) s)
      (sym stored ∙ ap (stored_number 16) (same_value (count_value less rows) v (sym (value_is less n rows (sight place) given few) ∙ is)))
      (solves_back less n rows (is_known passed) (sight place) given few)) refl there short in
      (it.0, (tt, just (Stands known bytes names) passed (OneNumber number) None (8 * place) late (8 * next) it.0 it.1))

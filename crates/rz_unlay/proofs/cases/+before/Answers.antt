use Rattle.std.proofs.Common.{◌∙◌, ℕ, ℤ, sym, subst, List, Option, Some}
use Rattle.rz_types_fields.proofs.Bodies.{array_is}
use Rattle.rz_types_fields.specs.declared.field.Field.{Field}
use Rattle.rz_types_fields.specs.declared.field.Field.TheViews.{out-ArrayField}
use Rattle.rz_types.specs.Field.{plain_body, plain_field, PlainField}
use Rattle.rz_types.specs.Width.{fixed_width, fixed_widths, rows_width}
use Rattle.rz_unlay.specs.Fits.{IsFound}
use Rattle.rz_unlay.proofs.KeySteps.{found_exact, found_first, found_last, found_more, found_no_rows, found_rows}
use Rattle.rz_unlay.proofs.LeafSteps.{array_field}
use Rattle.rz_unlay.proofs.cases.+before.Goals as goal

pub width_before-returns-in-Array : goal.width_before-returns-in-Array
width_before-returns-in-Array t c =
    let array = c.in-Array.array in
    subst (λ (p : PlainField). IsFound (fixed_width p) c.rows_before.result) (sym (array_field c.args.field.now array c.in-Array.is ∙ array_is array))
    (subst (λ (fields : List Field). IsFound (rows_width (out-ArrayField array).count (fixed_widths (plain_body fields))) c.rows_before.result) c.as_slice.ensures c.rows_before.ensures)

pub width_before-returns-in_default : goal.width_before-returns-in_default
width_before-returns-in_default t c = found_exact (fixed_width (plain_field c.args.field.now)) c.fixed_width.result c.fixed_width.ensures

pub rows_before-returns-then-has_no_rows : goal.rows_before-returns-then-has_no_rows
rows_before-returns-then-has_no_rows t c =
    let exact = fixed_widths (plain_body c.args.row.now) in
    subst (λ (count : Option ℤ). IsFound (rows_width count exact) (Some 0)) (sym (c.has_no_rows.ensures c.if-has_no_rows.true)) (found_no_rows exact)

pub rows_before-returns-else-has_no_rows : goal.rows_before-returns-else-has_no_rows
rows_before-returns-else-has_no_rows t c =
    let exact = fixed_widths (plain_body c.args.row.now) in
    subst (λ (width : Option ℕ). IsFound (rows_width c.args.count exact) width) (sym c.rows_width.ensures) (found_rows c.args.count exact c.widths_before.result c.widths_before.ensures)

pub widths_before-loop-field-init : goal.widths_before-loop-field-init
widths_before-loop-field-init t c = found_first c.args.row.now

pub widths_before-loop-field-preserved : goal.widths_before-loop-field-preserved
widths_before-loop-field-preserved t c =
    found_more c.args.row.now c.loop-field.field-index c.field-item.result c.loop-field-test.true c.field-item.is c.loop-field.width c.width_before.result c.plus-width.result
    c.loop-field.invariant c.width_before.ensures c.plus-width.ensures

pub widths_before-returns : goal.widths_before-returns
widths_before-returns t c = found_last c.args.row.now c.loop-field.field-index c.loop-field.width c.loop-field-test.false c.loop-field.invariant

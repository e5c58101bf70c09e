use Rattle.std.proofs.Common.{map, Ok, w32, to_z, of_z}
use Rattle.std.specs.Prelude.{pos}
use Rattle.std.proofs.lemmas.Int.{to_z-of_z}
use Rattle.rz_stmt_fields.specs.Form.{named_of, number_form}
use Rattle.rz_types_fields.specs.Range.{fits_number}
use Rattle.rz_stmt_type.specs.Values.{values_of}
use Rattle.rz_stmt_fields.proofs.Answering.{gives_err}
use Rattle.rz_stmt_type.proofs.constants.make_number.Goals as goal

pub returns-in-Err : goal.returns-in-Err
returns-in-Err c =
    let number = number_form c.args.number in
    let width = to_z w32 (of_z w32 c.args.width) in
    gives_err (values_of (fits_number number.form c.args.width) c.args.mark (pos 0) number.symbols)
    (values_of (fits_number number.form width) c.args.mark (pos 0) (map named_of c.as_slice.result.now))
    (λ symbols. Ok (record { form = number.form; width = c.args.width; unsigned = number.unsigned; radix = number.radix; symbols = symbols; fixed = number.fixed; key = number.key }))
    (λ i. values_of (fits_number number.form (to_z-of_z w32 c.args.width c.ranges.width i)) c.args.mark (pos 0) (map named_of (c.as_slice.ensures i)))
    c.in-Err.stop c.in-Err.ensures

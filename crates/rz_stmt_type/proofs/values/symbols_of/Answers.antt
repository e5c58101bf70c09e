use Rattle.std.proofs.Common.{ℤ, map, Err, subst, w32}
use Rattle.std.specs.Prelude.{pos}
use Rattle.std.proofs.lemmas.Int.{to_z-of_z}
use Rattle.rz_core.specs.Stop.{Gives}
use Rattle.rz_stmt_fields.specs.Form.{named_of}
use Rattle.rz_types_fields.specs.Range.{fits_number}
use Rattle.rz_stmt_type.specs.Values.{values_of}
use Rattle.rz_stmt_type.proofs.values.symbols_of.Goals as goal

pub returns-in-Err : goal.returns-in-Err
returns-in-Err c =
    subst (λ (width : ℤ). Gives (values_of (fits_number c.args.form width) c.args.mark (pos 0) (map named_of c.args.names.now)) (Err c.in-Err.stop)) (to_z-of_z w32 c.args.width c.ranges.width)
    c.in-Err.ensures

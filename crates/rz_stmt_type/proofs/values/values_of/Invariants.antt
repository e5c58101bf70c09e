use Rattle.std.proofs.Common.{◌≡◌, drop, map}
use Rattle.std.specs.Prelude.{pos}
use Rattle.rz_stmt_fields.specs.Form.{named_of}
use Rattle.rz_types_fields.specs.Range.{fits_number}
use Rattle.rz_stmt_type.specs.Values.{values_of}
use Rattle.rz_stmt_type.proofs.Valued.{behind_symbols}
use Rattle.rz_stmt_type.proofs.values.values_of.Given as goal

abbrev pub invariant-loop-named : goal.invariant-loop-named
invariant-loop-named l =
    values_of (fits_number l.form l.width) l.mark (pos 0) (map named_of l.names)
    ≡ behind_symbols l.symbols (values_of (fits_number l.form l.width) l.mark l.next (map named_of (drop l.named-index l.names)))

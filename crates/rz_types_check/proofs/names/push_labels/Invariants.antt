use Rattle.std.proofs.Common.{◌≡◌, ◌++◌, drop, map}
use Rattle.rz_types_fields.specs.Field.{plain_body}
use Rattle.rz_types.specs.Walk.{labels_in}
use Rattle.rz_types_check.proofs.names.push_labels.Given as goal

abbrev pub invariant-loop-field : goal.invariant-loop-field
invariant-loop-field l =
    map (λ name. name.now) l.names.list.items ++ labels_in (plain_body (drop l.field-index l.row))
    ≡ map (λ name. name.now) l.fn.names.list.items ++ labels_in (plain_body l.row)

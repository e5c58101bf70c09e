use Rattle.rz_expr.specs.Term.{term_of}
use Rattle.rz_types_fields.specs.Field.{plain_body}
use Rattle.rz_expr.specs.NameKey.{key_of}
use Rattle.rz_types.specs.Notes.{known, passed}
use Rattle.rz_types.proofs.Unknown.{all_are}
use Rattle.rz_types.proofs.passed.all_known.Goals as goal

pub returns : goal.returns
returns c =
    let notes = c.args.notes.now in
    all_are key_of c.first_unknown.result c.is_none.result (passed notes).met (known (plain_body c.args.ahead.now.fields.now) notes) (term_of c.args.expr.now) c.is_none.ensures c.first_unknown.ensures

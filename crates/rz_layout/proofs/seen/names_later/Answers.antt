use Rattle.std.proofs.Common.{ap, ◌∙◌}
use Rattle.std.specs.Option.{is_some}
use Rattle.rz_expr.specs.Mention.{mentions}
use Rattle.rz_expr.specs.Mentioned.{mention_of}
use Rattle.rz_expr.specs.Term.{term_of}
use Rattle.rz_expr.proofs.Items.{found_any, some_of}
use Rattle.rz_types_fields.specs.Known.{known}
use Rattle.rz_types_fields.specs.Laid.{met_in}
use Rattle.rz_types_fields.specs.Sees.{is_later}
use Rattle.rz_layout.proofs.seen.names_later.Goals as goal

pub returns : goal.returns
returns c =
    c.is_some.ensures ∙ some_of mention_of c.first_mention.result ∙ ap is_some c.first_mention.ensures
    ∙ found_any (is_later (met_in (known c.args.notes.now.items))) (mentions (term_of c.args.expr.now))

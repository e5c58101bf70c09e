use Rattle.std.proofs.Common.{ap, ◌∙◌}
use Rattle.std.specs.Option.{is_some}
use Rattle.rz_expr.specs.Mention.{mentions}
use Rattle.rz_expr.specs.Mentioned.{mention_of}
use Rattle.rz_expr.specs.Term.{term_of}
use Rattle.rz_expr.proofs.Items.{found_any, some_of}
use Rattle.rz_types_fields.specs.Known.{met}
use Rattle.rz_types_fields.specs.Sees.{is_later}
use Rattle.rz_unlay_pieces.proofs.late.names_later.Goals as goal

pub returns : goal.returns
returns c =
    c.is_some.ensures ∙ some_of mention_of c.first_mention.result ∙ ap is_some c.first_mention.ensures
    ∙ found_any (is_later (met c.args.notes.now.items)) (mentions (term_of c.args.expr.now))

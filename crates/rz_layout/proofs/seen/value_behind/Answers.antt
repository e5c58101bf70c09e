use Rattle.std.proofs.Common.{refl, ap, ◌∙◌}
use Rattle.rz_expr.specs.Term.{term_of}
use Rattle.rz_expr.specs.Value.{value_of}
use Rattle.rz_types_fields.proofs.Marks.{sight_is}
use Rattle.rz_layout.proofs.seen.value_behind.Goals as goal

pub returns : goal.returns
returns c =
    c.value_in.ensures
    ∙ ap (value_of (term_of c.args.expr.now)) (sight_is c.args.facts.now c.args.laid.now.bits c.args.laid.now.marks c.args.laid.now.notes.items _ _ refl c.len.ensures.is)

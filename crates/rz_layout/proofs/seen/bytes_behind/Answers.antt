use Rattle.std.proofs.Common.{refl, subst}
use Rattle.rz_core.specs.Stop.{Gives}
use Rattle.rz_expr.specs.Environment.{Sight}
use Rattle.rz_types_fields.specs.Spells.{nowhere}
use Rattle.rz_types_fields.specs.Text.{bytes_seen, plain_parts}
use Rattle.rz_types_fields.proofs.Marks.{sight_is}
use Rattle.rz_layout.proofs.seen.bytes_behind.Goals as goal

pub returns : goal.returns
returns c =
    subst (λ (sight : Sight). Gives (bytes_seen nowhere c.args.facts.now sight (plain_parts c.args.parts.now)) c.text_seen.result)
    (sight_is c.args.facts.now c.args.laid.now.bits c.args.laid.now.marks c.args.laid.now.notes.items _ _ refl c.len.ensures.is) c.text_seen.ensures.value

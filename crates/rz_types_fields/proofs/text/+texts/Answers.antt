use Rattle.std.proofs.Common.{ap, ◌∙◌}
use Rattle.rz_core.specs.DateText.{date_text}
use Rattle.rz_types_fields.proofs.Appending.{appends_so, date_is}
use Rattle.rz_types_fields.proofs.text.+texts.Goals as goal
use Rattle.rz_types_fields.specs.Text.{part_bytes, plain_part, PlainPart}
use Rattle.rz_types_fields.specs.declared.text.TextPart.{TextPart}

pub append_part-returns-in_ok-write_date-in-DateFact-clause-appended : goal.append_part-returns-in_ok-write_date-in-DateFact-clause-appended
append_part-returns-in_ok-write_date-in-DateFact-clause-appended g t c =
    appends_so (part_bytes c.args.place c.args.facts.now (g.E.Env.view c.args.env.now) (plain_part c.args.part.now))
    (date_text c.args.facts.now.moment) c.args.into.now c.write_date.new.into
    (ap (λ (part : TextPart). part_bytes c.args.place c.args.facts.now (g.E.Env.view c.args.env.now) (plain_part part)) c.in-DateFact.is
    ∙ ap (λ (part : PlainPart). part_bytes c.args.place c.args.facts.now (g.E.Env.view c.args.env.now) part) date_is)
    c.in_ok-write_date-in-DateFact.ensures.ok

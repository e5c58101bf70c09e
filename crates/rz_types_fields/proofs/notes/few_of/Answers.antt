use Rattle.std.proofs.Common.{take, ap, ◌∙◌}
use Rattle.std.proofs.lemmas.List.{take_min}
use Rattle.rz_types_fields.proofs.notes.few_of.Goals as goal

pub returns : goal.returns
returns c = c.split_at.ensures.front ∙ ap (λ n. take n c.args.notes.now) c.min.ensures ∙ take_min 16 c.args.notes.now

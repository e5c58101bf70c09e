use Rattle.std.proofs.Common.{drop, ap, ◌∙◌}
use Rattle.std.proofs.lemmas.List.{drop_min}
use Rattle.rz_types_fields.proofs.notes.others_of.Goals as goal

pub returns : goal.returns
returns c = c.split_at.ensures.back ∙ ap (λ n. drop n c.args.notes.now) c.min.ensures ∙ drop_min 16 c.args.notes.now

use Rattle.std.proofs.Common.{None, ap, sym, ◌∙◌}
use Rattle.rz_layout.specs.Laid.{draft_of}
use Rattle.rz_types_fields.specs.Field.{plain_body}
use Rattle.rz_types_fields.specs.Laid.{row_laid, Draft}
use Rattle.rz_layout.proofs.Stands.{all_within}
use Rattle.rz_layout.proofs.fields.compile_fields.Goals as goal

pub fill-filled-requires-clause-within : goal.fill-filled-requires-clause-within
fill-filled-requires-clause-within c =
    all_within c.args.facts.now (plain_body c.args.fields.now) c.args.row.now (draft_of c.lay_body.new.laid) c.requires
    (ap (λ (draft : Draft). row_laid c.args.facts.now None (plain_body c.args.fields.now) draft c.args.row.now) (sym c.new-laid.ensures.draft) ∙ c.in-Ok.ensures.laid)

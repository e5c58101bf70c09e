use Rattle.std.proofs.Common.{Result, sym, ap, subst, ◌∙◌}
use Rattle.std.specs.Prelude.{option_map}
use Rattle.rz_core.specs.Stop.{Gives, fault_seen, left}
use Rattle.rz_layout.specs.Fault.{refusal_of}
use Rattle.rz_layout.specs.Laid.{draft_of}
use Rattle.rz_types_fields.specs.Field.{plain_text}
use Rattle.rz_types_fields.specs.Laid.{Draft, Refusal}
use Rattle.rz_layout.proofs.Forms.{text_is, text_later}
use Rattle.rz_layout.proofs.text.lay_text.Goals as goal

pub returns-in-Some-clause-laid : goal.returns-in-Some-clause-laid
returns-in-Some-clause-laid c =
    text_later c.args.facts.now (draft_of c.args.laid.now) (plain_text c.args.field.now) (option_map (λ v. v.now) c.args.value) (refusal_of c.in-Some.fault)
    (sym (ap (option_map refusal_of) (sym c.in-Some.is) ∙ c.in_ok-later.ensures))

pub returns-in-None-clause-laid : goal.returns-in-None-clause-laid
returns-in-None-clause-laid c =
    subst (λ (r : Result Draft Refusal). Gives r (fault_seen refusal_of (left (draft_of c.lay_placed.new.laid) c.lay_placed.result)))
    (sym (text_is c.args.facts.now (draft_of c.args.laid.now) (plain_text c.args.field.now) (option_map (λ v. v.now) c.args.value)
    (sym (ap (option_map refusal_of) (sym c.in-None.is) ∙ c.in_ok-later.ensures))))
    c.lay_placed.ensures.laid

use Rattle.std.proofs.Common.{Option, sym, ap, subst, ◌∙◌}
use Rattle.rz_core.specs.Stop.{Gives, fault_seen}
use Rattle.std.specs.Prelude.{option_map}
use Rattle.rz_layout.specs.Fault.{refusal_of}
use Rattle.rz_layout.specs.Laid.{draft_of}
use Rattle.rz_types_fields.specs.Laid.{behind_refusal, draft_sight, joined, Refusal}
use Rattle.rz_types_fields.specs.Spells.{nowhere}
use Rattle.rz_types_fields.specs.Text.{bytes_seen, plain_parts}
use Rattle.rz_layout.proofs.text.fixed_bytes.Goals as goal

pub returns-in-Some : goal.returns-in-Some
returns-in-Some c =
    let given = joined c.args.laid.now.piece (bytes_seen nowhere c.args.facts.now (draft_sight c.args.facts.now (draft_of c.args.laid.now)) (plain_parts c.args.parts.now)) in
    ap (λ (found : Option Refusal). behind_refusal found given) (sym (ap (option_map refusal_of) (sym c.in-Some.is) ∙ c.in_ok-unvalued.ensures))

pub returns-in-None : goal.returns-in-None
returns-in-None c =
    let given = joined c.args.laid.now.piece (bytes_seen nowhere c.args.facts.now (draft_sight c.args.facts.now (draft_of c.args.laid.now)) (plain_parts c.args.parts.now)) in
    subst (λ (found : Option Refusal). Gives (behind_refusal found given) (fault_seen refusal_of c.joined_bytes.result)) (ap (option_map refusal_of) (sym c.in-None.is) ∙ c.in_ok-unvalued.ensures) c.joined_bytes.ensures

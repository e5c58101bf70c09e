use Rattle.std.proofs.Common.{sym, ap, ◌∙◌}
use Rattle.std.specs.Prelude.{option_map}
use Rattle.rz_pre.proofs.Rows.{found_live, found_nothing, found_undefined}
use Rattle.rz_pre.proofs.macros.Macros.live_at.Goals as goal

pub returns-then-is_some : goal.returns-then-is_some
returns-then-is_some c = sym (found_live c.args.self.now.held.entries c.args.name.now c.in-Some.index c.in-Some.body.now
    (sym c.get_full.ensures.index ∙ ap (option_map (λ p. p.0)) c.in-Some.is) (sym c.get_full.ensures.value ∙ ap (option_map (λ p. p.2.now)) c.in-Some.is) c.if-is_some.ensures)

pub returns-else-is_some : goal.returns-else-is_some
returns-else-is_some c = sym (found_undefined c.args.self.now.held.entries c.args.name.now c.in-Some.body.now
    (sym c.get_full.ensures.value ∙ ap (option_map (λ p. p.2.now)) c.in-Some.is) c.if-is_some.ensures)

pub returns-in-None : goal.returns-in-None
returns-in-None c = sym (found_nothing c.args.self.now.held.entries c.args.name.now (sym c.get_full.ensures.value ∙ ap (option_map (λ p. p.2.now)) c.in-None.is))

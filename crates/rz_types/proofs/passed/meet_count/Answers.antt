use Rattle.std.proofs.Common.{Option, sym, refl, subst}
use Rattle.rz_core.specs.declared.resource.Word.{Word}
use Rattle.rz_types_fields.specs.Passed.{gives_count}
use Rattle.rz_types.specs.Notes.{Meets}
use Rattle.rz_types.proofs.Noted.{meets_none, meets_one}
use Rattle.rz_types.proofs.passed.meet_count.Goals as goal

pub returns-in_ok-push-in-Some : goal.returns-in_ok-push-in-Some
returns-in_ok-push-in-Some c =
    subst (λ (name : Option Word). Meets (gives_count name) c.args.met.now.items c.push.new.self.items) (sym c.in-Some.is)
    (meets_one _ c.args.met.now.items c.push.new.self.items _ c.in_ok-push-in-Some.ensures.items (λ key before. refl))

pub returns-in-None : goal.returns-in-None
returns-in-None c =
    subst (λ (name : Option Word). Meets (gives_count name) c.args.met.now.items c.args.met.now.items) (sym c.in-None.is)
    (meets_none _ c.args.met.now.items (λ key. refl))

use Rattle.std.proofs.Common.{Bool, refl, sym, subst}
use Rattle.rz_core.specs.declared.resource.Resource.{Resource}
use Rattle.rz_set.specs.Fates.{IsForOne, StayApart}
use Rattle.rz_set.specs.Wanted.{is_wanted}
use Rattle.rz_set.proofs.Changed.{forbidden_changed, is_changed}
use Rattle.rz_set.proofs.Picks.{is_for_one_there, stay_apart}
use Rattle.rz_set.proofs.res_set.ResSet.change.Goals as goal

pub change_wanted-requires-clause-id : goal.change_wanted-requires-clause-id
change_wanted-requires-clause-id c =
    subst (λ (test : Resource → Bool). IsForOne test c.args.self.now c.args.head.now.id) (sym c.in-Ok.ensures.chooses)
    (is_for_one_there c.args.kind c.args.pick.now c.args.head.now c.args.self.now c.requires.id c.in-Ok.ensures.there)

pub change_wanted-requires-clause-apart : goal.change_wanted-requires-clause-apart
change_wanted-requires-clause-apart c =
    subst (λ (test : Resource → Bool). StayApart test c.args.head.now) (sym c.in-Ok.ensures.chooses)
    (stay_apart c.args.kind c.args.pick.now c.args.head.now c.args.self.now c.requires.id)

pub returns-in-Some : goal.returns-in-Some
returns-in-Some c =
    (forbidden_changed c.args.kind c.args.pick.now c.args.head.now c.args.over c.args.self.now (is_wanted c.in-Ok.wanted) c.in-Ok.ensures.chooses c.in-Ok.ensures.there c.in-Some.fault c.in-Some.ensures, refl)

pub returns-in-Ok-change_wanted : goal.returns-in-Ok-change_wanted
returns-in-Ok-change_wanted c =
    is_changed c.args.kind c.args.pick.now c.args.head.now c.args.over c.args.self.now (is_wanted c.in-Ok.wanted) c.in-Ok.ensures.chooses c.in-Ok.ensures.there c.change_wanted.new.self c.in-None.ensures c.in-Ok-change_wanted.ensures.ok

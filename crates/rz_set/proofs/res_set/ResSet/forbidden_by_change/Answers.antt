use Rattle.std.proofs.Common.{rules, ◌≡◌, Bool, filter, flat_map, Some, None, sym, ap, ◌∙◌}
use Rattle.std.proofs.lemmas.Int.{to_z-of_z}
use Rattle.std.specs.Int.{w16}
use Rattle.rz_core.specs.declared.resource.Resource.{Resource}
use Rattle.rz_set.specs.After.{forbidden}
use Rattle.rz_set.specs.Change.{with_other}
use Rattle.rz_set.specs.ResSet.{found}
use Rattle.rz_set.proofs.Alone.{forbidden_none, forbidden_some, one_wanted}
use Rattle.rz_set.proofs.res_set.ResSet.forbidden_by_change.Goals as goal

pub returns-in-Some : goal.returns-in-Some
returns-in-Some c =
    let one : found c.args.wanted.kind c.in-One.id c.args.self.now ≡ Some c.in-Some.one.now = cc (c.in-Some.ensures, to_z-of_z w16 c.in-One.id (search rules)) in
    c.forbidden_by_one.ensures
    ∙ forbidden_some c.args.wanted.kind c.in-One.id c.args.head.now c.args.over c.args.self.now c.keys_differ.ensures c.in-Some.one.now one
    ∙ ap (λ (test : Resource → Bool). forbidden c.args.over (flat_map (with_other c.args.head.now c.args.self.now) (filter test c.args.self.now)))
    (sym (one_wanted c.args.wanted c.in-One.id c.in-One.is))

pub returns-in-None : goal.returns-in-None
returns-in-None c =
    let none : found c.args.wanted.kind c.in-One.id c.args.self.now ≡ None = cc (c.in-None.ensures, to_z-of_z w16 c.in-One.id (search rules)) in
    forbidden_none c.args.wanted.kind c.in-One.id c.args.head.now c.args.over c.args.self.now c.keys_differ.ensures none
    ∙ ap (λ (test : Resource → Bool). forbidden c.args.over (flat_map (with_other c.args.head.now c.args.self.now) (filter test c.args.self.now)))
    (sym (one_wanted c.args.wanted c.in-One.id c.in-One.is))

use Rattle.std.proofs.Common.{rules, ℤ, Bool, filter, sym, ap, ◌∙◌}
use Rattle.std.proofs.lemmas.Int.{to_z-of_z}
use Rattle.std.specs.Int.{w16}
use Rattle.rz_core.specs.declared.resource.Resource.{Resource}
use Rattle.rz_set.specs.After.{as_list, forbidden}
use Rattle.rz_set.specs.ResSet.{found}
use Rattle.rz_set.proofs.Alone.{one_kept, one_wanted}
use Rattle.rz_set.proofs.res_set.ResSet.forbidden_among.Goals as goal

pub returns-in-One : goal.returns-in-One
returns-in-One c =
    c.forbidden_at.ensures
    ∙ ap (λ (id : ℤ). forbidden c.args.over (as_list (found c.args.wanted.kind id c.args.self.now))) (to_z-of_z w16 c.in-One.id (search rules))
    ∙ ap (forbidden c.args.over) (sym (one_kept c.args.wanted.kind c.in-One.id c.args.self.now c.keys_differ.ensures))
    ∙ ap (λ (test : Resource → Bool). forbidden c.args.over (filter test c.args.self.now)) (sym (one_wanted c.args.wanted c.in-One.id c.in-One.is))

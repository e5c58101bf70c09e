use Rattle.std.proofs.Common.{rules, ℤ, Bool, sym, ap, ◌∙◌}
use Rattle.std.proofs.lemmas.Int.{to_z-of_z}
use Rattle.std.specs.Int.{w16}
use Rattle.rz_core.specs.declared.resource.Resource.{Resource}
use Rattle.rz_set.specs.Change.{changed}
use Rattle.rz_set.specs.ResSet.{has_key}
use Rattle.rz_set.specs.declared.pick.Head.{Head}
use Rattle.rz_set.proofs.Alone.{one_wanted}
use Rattle.rz_set.proofs.res_set.ResSet.change_wanted.Goals as goal

pub returns-in_ok-head-in-One-clause-ok : goal.returns-in_ok-head-in-One-clause-ok
returns-in_ok-head-in-One-clause-ok c =
    c.change_where_it_stands.ensures
    ∙ ap (λ (id : ℤ). changed (has_key c.args.wanted.kind id) c.in_ok-head-in-One.head c.args.self.now) (to_z-of_z w16 c.in-One.id (search rules))
    ∙ ap (λ (head : Head). changed (has_key c.args.wanted.kind c.in-One.id) head c.args.self.now) c.in_ok-head-in-One.ensures
    ∙ ap (λ (test : Resource → Bool). changed test c.args.head.now c.args.self.now) (sym (one_wanted c.args.wanted c.in-One.id c.in-One.is))

use Rattle.std.proofs.Common.{rules, ℤ, ap, ◌∙◌, ⊎_elim}
use Rattle.std.proofs.lemmas.Int.{to_z-of_z}
use Rattle.std.specs.Int.{w16}
use Rattle.rz_set.specs.Choice.{is_for_one}
use Rattle.rz_set.specs.Wanted.{is_wanted}
use Rattle.rz_set.specs.declared.wanted.Ids.TheVariants.{One}
use Rattle.rz_set.proofs.Wants.{pair_wanted, pair_there, no_pair_there}
use Rattle.rz_set.proofs.wanted.wanted_as.Goals as goal

pub returns-in-Some-clause-chooses : goal.returns-in-Some-clause-chooses
returns-in-Some-clause-chooses c list is =
    ap (λ (id : ℤ). is_wanted (record { kind = c.in-Some.kind; ids = One id })) (to_z-of_z w16 c.in-Some.id (search rules))
    ∙ pair_wanted c.args.kind list c.args.pick.now (c.in-Some.kind, c.in-Some.id) (is ∙ c.in-Some.is)

pub returns-in-Some-clause-there : goal.returns-in-Some-clause-there
returns-in-Some-clause-there c list is = pair_there c.args.kind list c.args.pick.now (c.in-Some.kind, c.in-Some.id) (is ∙ c.in-Some.is)

pub returns-in-None-clause-missing : goal.returns-in-None-clause-missing
returns-in-None-clause-missing c list is =
    no_pair_there c.args.kind list c.args.pick.now (⊎_elim (λ it. ap is_for_one it.1) (λ it. ap is_for_one it.1) c.in-Id.is) (is ∙ c.in-None.is)

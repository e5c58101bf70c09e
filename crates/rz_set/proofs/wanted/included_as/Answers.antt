use Rattle.std.proofs.Common.{◌≡◌, filter, Some, None, sym, subst}
use Rattle.std.specs.Option.{option_map}
use Rattle.rz_set.specs.Choice.{included, key_pair, missing_choice, the_choice}
use Rattle.rz_set.specs.Wanted.{is_included}
use Rattle.rz_set.specs.declared.pick.Choice.{Choice}
use Rattle.rz_set.specs.declared.wanted.Included.TheVariants as everything
use Rattle.rz_set.proofs.Includes.{all_included}
use Rattle.rz_set.proofs.wanted.included_as.Goals as goal

pub returns-in-All-clause-included : goal.returns-in-All-clause-included
returns-in-All-clause-included c list is =
    subst (λ (choice : Choice). filter (is_included everything.All) list ≡ included choice list) (sym c.in-All.is) (all_included list)

pub returns-in-Ok-clause-included : goal.returns-in-Ok-clause-included
returns-in-Ok-clause-included c list is =
    let one = subst (λ (choice : Choice). option_map key_pair (the_choice choice list) ≡ c.args.one) c.in-Chosen.is is in
    subst (λ (choice : Choice). filter (is_included (everything.These c.in-Ok.wanted)) list ≡ included choice list) (sym c.in-Chosen.is)
    (λ i. filter (c.in-Ok.ensures.chooses list one i) list)

pub returns-in-Ok-clause-there : goal.returns-in-Ok-clause-there
returns-in-Ok-clause-there c list is =
    let one = subst (λ (choice : Choice). option_map key_pair (the_choice choice list) ≡ c.args.one) c.in-Chosen.is is in
    subst (λ (choice : Choice). missing_choice choice list ≡ None) (sym c.in-Chosen.is) (c.in-Ok.ensures.there list one)

pub returns-in-Err-clause-missing : goal.returns-in-Err-clause-missing
returns-in-Err-clause-missing c list is =
    let one = subst (λ (choice : Choice). option_map key_pair (the_choice choice list) ≡ c.args.one) c.in-Chosen.is is in
    subst (λ (choice : Choice). missing_choice choice list ≡ Some c.in-Err.fault) (sym c.in-Chosen.is) (c.in-Err.ensures.missing list one)

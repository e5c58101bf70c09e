use Rattle.std.proofs.Common.{List, sym, subst}
use Rattle.std.specs.Option.{option_copied}
use Rattle.std.specs.declared.result.Result.{Result}
use Rattle.rz_core.specs.declared.resource.Resource.{Resource}
use Rattle.rz_fork.specs.View.{lent}
use Rattle.rz_set.specs.After.{Leaves}
use Rattle.rz_set.specs.declared.pick.SetFault.{SetFault}
use Rattle.rz_tools_work.proofs.Lone.{lone_named, lone_put}
use Rattle.rz_tools_work.proofs.lent.include_lent.Goals as goal

pub include_one-requires : goal.include_one-requires
include_one-requires c =
    lone_named c.args.choice.now c.args.fork.now.list (option_copied c.args.head) (lent c.in-Some.one) (sym c.in-Some.ensures) c.requires.named c.requires.head

pub returns-in-Some : goal.returns-in-Some
returns-in-Some c =
    subst (λ (answer : Result (List Resource) SetFault). Leaves c.args.resources.now answer c.include_one.result c.include_one.new.resources)
    (lone_put c.args.choice.now c.args.fork.now.list (option_copied c.args.head) c.args.over c.args.resources.now (lent c.in-Some.one)
    c.keys_differ.ensures (sym c.in-Some.ensures)) c.include_one.ensures

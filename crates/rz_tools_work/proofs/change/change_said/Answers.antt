use Rattle.std.specs.Prelude.{option_map}
use Rattle.std.proofs.Common.{Option, Ok, sym, ap, ◌∙◌}
use Rattle.rz_core.specs.declared.resource.Resource.{Resource}
use Rattle.rz_stmt_data.specs.Head.{head_of}
use Rattle.rz_tools_values.specs.Lent.{lent_one}
use Rattle.rz_tools_work.proofs.Renamings.{may_have_id}
use Rattle.rz_tools_work.proofs.change.change_said.Goals as goal

pub returns-clause-id : goal.returns-clause-id
returns-clause-id c =
    may_have_id c.args.setting c.args.mark c.args.stmt.now.kind c.args.stmt.now.new_kind c.in_ok-pick.pick c.args.list.now (lent_one c.lent_of-one.result)
    (option_map head_of c.args.stmt.now.head) c.in_ok-head.head (c.in_ok-one.ensures.chosen ∙ ap (λ (one : Option Resource). Ok one) (sym c.lent_of-one.ensures)) c.in_ok-head.ensures.head

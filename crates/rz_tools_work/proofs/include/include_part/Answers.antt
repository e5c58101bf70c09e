use Rattle.std.proofs.Common.{◌≡◌, Option, sym, subst}
use Rattle.std.specs.Option.{option_copied}
use Rattle.rz_core.specs.Stop.{left, Meets}
use Rattle.rz_set.specs.After.{after_include, HasShortName}
use Rattle.rz_set.specs.declared.pick.Head.{Head}
use Rattle.rz_tools_work.specs.Put.{on_set}
use Rattle.rz_tools_work.proofs.Puts.{leaves_so}
use Rattle.std.proofs.lemmas.Result.{err_from_is_err_and}
use Rattle.rz_stmt_lists.specs.Include.{part_of}
use Rattle.rz_tools_work.specs.Include.{asked_by, list_with_asked}
use Rattle.rz_tools_work.proofs.Calls.{stepped_on, stepped_stop}
use Rattle.rz_tools_work.proofs.include.include_part.Goals as goal

pub include_lent-left-requires-clause-head : goal.include_lent-left-requires-clause-head
include_lent-left-requires-clause-head c = subst HasShortName (sym c.as_ref.ensures.value) c.in_ok-asked.ensures.short

pub returns-clause-included : goal.returns-clause-included
returns-clause-included c =
    let asked = c.in_ok-asked.asked in
    stepped_on (asked_by c.args.setting c.args.mark c.args.source.now.list (part_of c.args.part.now)) (list_with_asked c.args.setting c.args.mark c.args.resources.now c.args.source.now.list)
    asked c.on_line.result c.include_lent-left.new.resources c.in_ok-asked.ensures.asked
    (subst (λ (h : Option Head). Meets (left c.include_lent-left.new.resources c.on_line.result)
    (λ given. given ≡ on_set c.args.mark asked.sought (after_include c.args.source.now.list asked.choice h c.args.setting.over c.args.resources.now))) c.as_ref.ensures.value
    (leaves_so c.args.mark asked.sought c.args.resources.now c.include_lent-left.new.resources
    (after_include c.args.source.now.list asked.choice (option_copied c.as_ref.result) c.args.setting.over c.args.resources.now) c.include_lent-left.result c.on_line.result c.on_line.ensures.left
    c.include_lent-left.ensures))

pub returns-in_err-asked-clause-included : goal.returns-in_err-asked-clause-included
returns-in_err-asked-clause-included c =
    let p = err_from_is_err_and c.from_residual.result c.from_residual.ensures.1 in
    rw (p.1, p.2) (stepped_stop (asked_by c.args.setting c.args.mark c.args.source.now.list (part_of c.args.part.now)) (list_with_asked c.args.setting c.args.mark c.args.resources.now c.args.source.now.list)
    c.in_err-asked.field-0.0 c.args.resources.now c.in_err-asked.ensures.asked)

use Rattle.std.proofs.Common.{List, length, subst, sym}
use Rattle.std.specs.FinMap as finite
use Rattle.rz_core.specs.declared.fault.Fault.{Fault}
use Rattle.rz_folder.proofs.Present.{finds_at, placed_at}
use Rattle.rz_tools_answer.proofs.Planning.{finds_beside, plans_as, plans_made, SaidWith}
use Rattle.rz_tools_answer.specs.Answer.{shown}
use Rattle.rz_tools_answer.specs.Warning.{AreWarnings}
use Rattle.rz_tools_output.specs.Det.{breaks_of, det, HasBreaks}
use Rattle.rz_tools_output.proofs.Breaking.{told_alone}
use Rattle.rz_tools_output.proofs.det.plan_det.Goals as goal

pub say_beside-made-requires-clause-fault : goal.say_beside-made-requires-clause-fault
say_beside-made-requires-clause-fault g c = placed_at (length c.new-files.result) c.read_breaks-text.result c.read_breaks-text.ensures.bad

pub say_beside-made-requires-clause-warnings : goal.say_beside-made-requires-clause-warnings
say_beside-made-requires-clause-warnings g c = subst (λ (ws : List Fault). AreWarnings (length c.new-files.result) ws) (sym c.new-warnings.ensures) tt

pub returns : goal.returns
returns g c =
    let asked = det c.args.words in
    plans_as g.F.Folder c.to_show.result
    (plans_made g.F.Folder shown (λ files. SaidWith c.new-files.result c.new-warnings.result (HasBreaks asked files)) c.say_beside-made.result
    (finds_beside g.F.Folder c.say_beside-made.result (finds_at g.F.Folder (length c.new-files.result) c.read_breaks-text.ensures) c.say_beside-made.ensures)
    c.to_show.ensures)
    (λ files answer is. told_alone c.new-files.result c.new-warnings.result c.new-files.ensures c.new-warnings.ensures (breaks_of asked (finite.get files asked.file)) answer is)

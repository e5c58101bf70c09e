use Rattle.std.proofs.Common.{refl, sym, subst}
use Rattle.rz_tools_answer.specs.WellFormed.{IsWellFormed}
use Rattle.rz_tools_answer.proofs.plan.Plan.stopped.Goals as goal

pub returns-in_ok-refused-in-Refused-clause-well_formed : goal.returns-in_ok-refused-in-Refused-clause-well_formed
returns-in_ok-refused-in-Refused-clause-well_formed c =
    let sayable = rw c.in-Refused.is at c.requires in
    subst IsWellFormed (sym c.in_ok-refused-in-Refused.ensures) (c.in-Refused.failing, refl, sayable.nameable, sayable.warned)

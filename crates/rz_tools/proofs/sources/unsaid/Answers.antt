use Rattle.std.proofs.Common.{List, Err, length, sym, subst}
use Rattle.rz_core.specs.declared.fault.Fault.{Fault}
use Rattle.rz_tools_answer.specs.Made.{IsBeside}
use Rattle.rz_tools_answer.specs.Warning.{AreWarnings}
use Rattle.rz_tools.proofs.sources.unsaid.Goals as goal

pub say_stop-requires-clause-warnings : goal.say_stop-requires-clause-warnings
say_stop-requires-clause-warnings c = subst (λ (ws : List Fault). AreWarnings (length c.args.files) ws) (sym c.new-warnings.ensures) tt

pub returns : goal.returns
returns c = subst (λ (ws : List Fault). IsBeside c.args.files ws (Err c.args.halt) (Err c.say_stop.result)) c.new-warnings.ensures c.say_stop.ensures

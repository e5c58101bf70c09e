-- Broken rules of forms and of forks, as messages name them.
use Rattle.std.specs.Prelude.{pos, Ok, Err}
use Rattle.std.specs.declared.option.Option.{Option}
use Rattle.std.specs.declared.result.Result.{Result}
use Rattle.rz_core.specs.declared.fault.Fault.{Fault}
use Rattle.rz_core.specs.declared.fault.Kept.TheVariants as kept
use Rattle.rz_core.specs.declared.fault.Mark.{Mark}
use Rattle.rz_bridge.specs.declared.fault.BridgeFault.{BridgeFault}
use Rattle.rz_fork.specs.declared.fault.ForkFault.{ForkFault}

-- a broken rule of a form, with what it keeps
abbrev pub form_fault : Option Mark → BridgeFault → Fault
form_fault mark fault = record { number = fault.number; mark = mark; kept = fault.kept }

-- a broken rule of a fork, with its offset and its value
abbrev pub fork_fault : Option Mark → ForkFault → Fault
fork_fault mark fault = record { number = fault.number; mark = mark; kept = kept.Pair (pos fault.offset) (pos fault.value) }

-- what keeps all rules of a form, or the broken one
abbrev pub or_broken : {X : Type 0} → Option Mark → Result X BridgeFault → Result X Fault
or_broken mark (Ok value) = Ok value
or_broken mark (Err fault) = Err (form_fault mark fault)

-- what keeps all rules of a fork, or the broken one
abbrev pub or_torn : {X : Type 0} → Option Mark → Result X ForkFault → Result X Fault
or_torn mark (Ok value) = Ok value
or_torn mark (Err fault) = Err (fork_fault mark fault)

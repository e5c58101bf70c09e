-- Faults whose name the expression lends, as the faults that they are.
use Rattle.std.specs.Prelude.{◌≡◌, ℤ, Ok, Err}
use Rattle.std.specs.declared.result.Result.{Result}
use Rattle.rz_core.specs.declared.stop.Stop.{Stop}
use Rattle.rz_core.specs.declared.stop.Stop.TheVariants.{NoMemory, Refused}
use Rattle.rz_expr.specs.Value.{IsUnknown}
use Rattle.rz_expr.specs.declared.value.EvalFault.{EvalFault}
use Rattle.rz_expr.specs.declared.value.EvalFault.TheVariants.{ZeroDivisor, UnknownName, BadIndex, LaterData, DataWidth, BadShift}
use Rattle.rz_expr.specs.declared.value.Unvalued.{Unvalued}
use Rattle.rz_expr.specs.declared.value.Unvalued.TheVariants as lent

abbrev pub fault_of : Unvalued → EvalFault
fault_of lent.ZeroDivisor = ZeroDivisor
fault_of (lent.UnknownName name) = UnknownName name.now
fault_of (lent.BadIndex number) = BadIndex number
fault_of (lent.LaterData first end) = LaterData first end
fault_of (lent.DataWidth width) = DataWidth width
fault_of (lent.BadShift count) = BadShift count

-- what a call gives that takes no memory
abbrev pub held : Result ℤ Unvalued → Result ℤ EvalFault
held (Ok value) = Ok value
held (Err fault) = Err (fault_of fault)

-- the fault itself, or memory was refused for its name
abbrev pub IsCopyOf : EvalFault → Stop EvalFault → Type 0
IsCopyOf fault (Refused copy) = copy ≡ fault
IsCopyOf fault NoMemory = IsUnknown (Err fault)

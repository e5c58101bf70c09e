-- What is known after a call.
use Rattle.std.specs.Prelude.{Bool, true, false, Option, Some, None}
use Rattle.rz_expr.specs.Environment.{Environment}

-- what is known, where the call held
abbrev pub told : Bool → Environment → Option Environment
told true names = Some names
told false names = None

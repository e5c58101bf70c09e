-- A command that a fault stops before anything is said.
use Rattle.std.specs.Prelude.{[]}
use Rattle.rz_core.specs.declared.fault.Fault.{Fault}
use Rattle.rz_tools_answer.specs.Answer.{refused, Answer}

-- the line of a fault, which stands alone
abbrev pub refused_alone : Fault → Answer
refused_alone fault = refused (record { fault = fault; files = []; said = [] })

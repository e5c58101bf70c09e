use Rattle.rz_tools_answer.proofs.Beside.{beside_fault, beside_halted, beside_no_memory, beside_read_fault}
use Rattle.rz_tools_answer.proofs.warning.say_stop.Goals as goal

pub refusal-requires-clause-fault : goal.refusal-requires-clause-fault
refusal-requires-clause-fault c = rw c.in-Refused.is at c.requires.fault

pub returns-in-Ok : goal.returns-in-Ok
returns-in-Ok c = beside_fault c.args.files c.args.warnings.now c.args.halt c.in-Refused.fault c.in-Ok.failing c.in-Refused.is c.in-Ok.ensures.failing c.in-Ok.ensures.sayable

pub returns-in-Err : goal.returns-in-Err
returns-in-Err c = beside_no_memory c.args.files c.args.warnings.now c.args.halt c.in-Refused.fault c.in-Refused.is

pub returns-in-ReadFault : goal.returns-in-ReadFault
returns-in-ReadFault c = beside_read_fault c.args.files c.args.warnings.now c.args.halt c.in-ReadFault.is

pub returns-in-NoMemory : goal.returns-in-NoMemory
returns-in-NoMemory c = beside_halted c.args.files c.args.warnings.now c.args.halt c.in-NoMemory.is

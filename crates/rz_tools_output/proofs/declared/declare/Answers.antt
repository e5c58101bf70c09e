use Rattle.std.proofs.Common.{Ok, sym, ap, ◌∙◌, arith}
use Rattle.std.proofs.lemmas.Bool.Decides.{nat_tests}
use Rattle.rz_core.proofs.Once.{ok}
use Rattle.rz_fork.specs.View.{lent}
use Rattle.rz_types.specs.Template.{template_of}
use Rattle.rz_types_table.specs.TypeTable.{table_of}
use Rattle.rz_tools_output.proofs.Declaring.{declared_so, passed_over, told}
use Rattle.rz_tools_output.proofs.declared.declare.Goals as goal

pub entry_fault-requires-clause-sayable : goal.entry_fault-requires-clause-sayable
entry_fault-requires-clause-sayable c =
    rw c.in-Err-Refused.fault-is
    (c.tmpl_types_are_templates.ensures.sayable c.args.one.now.bytes.now c.in-Err-Refused.fault (rw c.in-Err-Refused.field-0-is at c.in-Err-Refused.ensures))

pub returns-in_ok-declare-in-Ok-clause-declared : goal.returns-in_ok-declare-in-Ok-clause-declared
returns-in_ok-declare-in-Ok-clause-declared c =
    declared_so (table_of c.args.types.now) (lent c.args.one.now) c.in-Some.kind (sym c.declares.ensures ∙ c.in-Some.is) (Ok (template_of c.in-Ok.template)) (Ok (table_of c.declare.new.self))
    c.in-Ok.ensures (ap ok c.in_ok-declare-in-Ok.ensures.table)

pub returns-then-fault-eq-UNKNOWN_CODE-clause-declared : goal.returns-then-fault-eq-UNKNOWN_CODE-clause-declared
returns-then-fault-eq-UNKNOWN_CODE-clause-declared c =
    passed_over (table_of c.args.types.now) (lent c.args.one.now) c.in-Some.kind (sym c.declares.ensures ∙ c.in-Some.is) c.in-Err-Refused.fault
    (rw c.in-Err-Refused.field-0-is at c.in-Err-Refused.ensures)
    (let is = rw c.in-Err-Refused.fault-is at c.if-fault-eq-UNKNOWN_CODE.true in grind (arith, nat_tests))

pub returns-else-fault-eq-UNKNOWN_CODE-clause-declared : goal.returns-else-fault-eq-UNKNOWN_CODE-clause-declared
returns-else-fault-eq-UNKNOWN_CODE-clause-declared c =
    told (table_of c.args.types.now) (lent c.args.one.now) c.in-Some.kind (sym c.declares.ensures ∙ c.in-Some.is) c.in-Err-Refused.fault
    (rw c.in-Err-Refused.field-0-is at c.in-Err-Refused.ensures)
    (let is = rw c.in-Err-Refused.fault-is at c.if-fault-eq-UNKNOWN_CODE.false in grind (arith, nat_tests))
    c.entry_fault.result (rw c.in-Err-Refused.fault-is at c.entry_fault.ensures.fault)

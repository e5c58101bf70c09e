use Rattle.std.proofs.Common.{subst}
use Rattle.rz_tools_args.specs.Command.{IsValue}
use Rattle.rz_tools_args.specs.Definition.{Defines, Undefines}
use Rattle.rz_tools_args.specs.Kind.{IsKind}
use Rattle.rz_tools_args.specs.declared.flag.Sort.{Sort}
use Rattle.rz_tools_args.proofs.Found.{none_so}
use Rattle.rz_tools_args.proofs.item.read_value.Goals as goal

pub returns-in-None : goal.returns-in-None
returns-in-None c said is =
    let says = subst (λ (s : Sort). IsValue s c.args.word.now said) c.in-Definition.is is in
    none_so (Defines c.args.word.now) c.in_ok-def-in-Definition.field-0 c.in_ok-def-in-Definition.ensures c.in-None.is says.0 says.2

pub returns-in-None-2 : goal.returns-in-None-2
returns-in-None-2 c said is =
    let says = subst (λ (s : Sort). IsValue s c.args.word.now said) c.in-Undefinition.is is in
    none_so (Undefines c.args.word.now) c.in_ok-def-in-Undefinition.field-0 c.in_ok-def-in-Undefinition.ensures c.in-None-2.is says.0 says.2

pub returns-in-None-3 : goal.returns-in-None-3
returns-in-None-3 c said is =
    let says = subst (λ (s : Sort). IsValue s c.args.word.now said) c.in-Kind.is is in
    none_so (IsKind c.args.word.now) c.in_ok-kind-in-Kind.field-0 c.in_ok-kind-in-Kind.ensures c.in-None-3.is says.0 says.2

use Rattle.rz_tools_args.specs.Definition.{Alone, Defines, WithText}
use Rattle.rz_tools_args.proofs.Found.{decided_all}
use Rattle.rz_tools_args.proofs.Splits.{alone_back, alone_there, text_back, text_there}
use Rattle.rz_tools_args.proofs.definition.define.Goals as goal

pub returns-in-Some : goal.returns-in-Some
returns-in-Some c =
    decided_all (WithText c.in-Some.name.now c.in-Some.text.now) (Defines c.args.value.now)
    (text_there c.args.value.now c.split_once.result c.split_once.ensures.cases c.in-Some.name c.in-Some.text c.in-Some.is)
    (text_back c.args.value.now c.split_once.result c.split_once.ensures.cases c.in-Some.name c.in-Some.text c.in-Some.is)
    c.define_text.result c.define_text.ensures

pub returns-in-None : goal.returns-in-None
returns-in-None c =
    decided_all (Alone c.args.value.now) (Defines c.args.value.now)
    (alone_there c.args.value.now c.split_once.result c.split_once.ensures.cases c.in-None.is)
    (alone_back c.args.value.now c.split_once.result c.split_once.ensures.cases c.in-None.is)
    c.define_alone.result c.define_alone.ensures

use Rattle.std.proofs.Common.{length, ◌<◌, ◌^◌}
use Rattle.rz_tools_answer.proofs.Planning.{beside_good, said_with, unseen_failed}
use Rattle.rz_tools_output.specs.Base.{base_with}
use Rattle.rz_tools_output.specs.Output.{target, IsOutput}
use Rattle.rz_tools.proofs.rez.write_compiled.Goals as goal

pub say_beside-requires-clause-fault : goal.say_beside-requires-clause-fault
say_beside-requires-clause-fault c = c.write_resources-output.ensures.nameable (length c.args.compiled.files)

pub returns-clause-made : goal.returns-clause-made
returns-clause-made c others =
    said_with c.args.compiled.files c.args.compiled.work.warnings (IsOutput (target c.args.into.now) c.args.moment (base_with c.args.base others) c.args.compiled.work.resources)
    c.write_resources-output.result c.say_beside.result c.say_beside.ensures.said (c.write_resources-output.ensures.output others)

pub returns-clause-good : goal.returns-clause-good
returns-clause-good c = beside_good (λ bytes. length bytes < 2 ^ 32) c.say_beside.result c.say_beside.ensures c.write_resources-output.ensures.short

pub returns-clause-bad : goal.returns-clause-bad
returns-clause-bad c = c.say_beside.ensures.sayable

pub returns-clause-unread : goal.returns-clause-unread
returns-clause-unread c failed = c.write_resources-output.ensures.unread (c.say_beside.ensures.read_fault (unseen_failed c.say_beside.result failed))

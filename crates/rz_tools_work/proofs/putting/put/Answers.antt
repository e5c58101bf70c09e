use Rattle.rz_core.specs.declared.fault.Kept.TheVariants.{Nothing}
use Rattle.rz_set.specs.After.{after_put}
use Rattle.rz_tools_work.proofs.Puts.{leaves_so}
use Rattle.rz_tools_work.proofs.putting.put.Goals as goal

pub returns-clause-put : goal.returns-clause-put
returns-clause-put c =
    leaves_so c.args.mark Nothing c.args.resources.now c.put-left.new.self (after_put c.args.over c.args.resource c.args.resources.now) c.put-left.result c.on_line.result c.on_line.ensures.left
    c.put-left.ensures

use Rattle.std.proofs.Common.{sym}
use Rattle.rz_fork.specs.View.{lent}
use Rattle.rz_tools_text.specs.Held.{known_of}
use Rattle.rz_tools_text.proofs.Lists.{none_put, one_put}
use Rattle.rz_tools_text.proofs.text.ForkText.put_chosen.Goals as goal

pub returns-then-is_chosen-clause-told : goal.returns-then-is_chosen-clause-told
returns-then-is_chosen-clause-told g c text shows =
    one_put (known_of c.args.self.now.known) c.args.self.now.only c.args.self.now.skip (lent c.args.view.now) text shows _ _ (sym c.if-is_chosen.ensures) c.put_resource.result
    c.put_resource.ensures.told

pub returns-else-is_chosen-clause-told : goal.returns-else-is_chosen-clause-told
returns-else-is_chosen-clause-told g c text shows =
    none_put (known_of c.args.self.now.known) c.args.self.now.only c.args.self.now.skip (lent c.args.view.now) text shows _ (sym c.if-is_chosen.ensures)

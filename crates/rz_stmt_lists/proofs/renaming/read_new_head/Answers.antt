use Rattle.std.proofs.Common.{ap}
use Rattle.std.specs.Prelude.{option_map}
use Rattle.rz_stmt_lists.proofs.Renamings.{no_new_head}
use Rattle.rz_stmt_lists.specs.Pick.{pick_of}
use Rattle.rz_stmt_lists.proofs.renaming.read_new_head.Goals as goal

pub returns-in-None : goal.returns-in-None
returns-in-None c =
    no_new_head (pick_of c.args.pick.now) (option_map (λ inside. inside.now) c.args.inside) c.in-Some.tokens.now (ap (option_map (λ inside. inside.now)) c.in-Some.is)
    (rw c.in-None.is at c.in_ok-head.ensures)

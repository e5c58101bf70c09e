use Rattle.std.proofs.Common.{refl}
use Rattle.rz_stmt_lists.proofs.Listed.{no_list}
use Rattle.rz_stmt_lists.specs.Change.{change_of}
use Rattle.rz_stmt_lists.specs.Delete.{delete_of}
use Rattle.rz_stmt_lists.specs.Include.{include_of}
use Rattle.rz_stmt_lists.specs.Lists.{changes, deletes, includes, reads}
use Rattle.rz_stmt_lists.specs.Read.{read_of}
use Rattle.rz_stmt_lists.proofs.lists.read_list.Goals as goal

pub returns-in-Some : goal.returns-in-Some
returns-in-Some c = includes (include_of c.in-Some.stmt) (rw c.in-Some.is at c.in_ok-stmt.ensures) refl

pub returns-in-Some-2 : goal.returns-in-Some-2
returns-in-Some-2 c = reads (read_of c.in-Some-2.stmt) (rw c.in-Some-2.is at c.in_ok-stmt-2.ensures) refl

pub returns-in-Some-3 : goal.returns-in-Some-3
returns-in-Some-3 c = changes (change_of c.in-Some-3.stmt) (rw c.in-Some-3.is at c.in_ok-stmt-3.ensures) refl

pub returns-in-Some-4 : goal.returns-in-Some-4
returns-in-Some-4 c = deletes (delete_of c.in-Some-4.stmt) (rw c.in-Some-4.is at c.in_ok-stmt-4.ensures) refl

pub returns-in-None : goal.returns-in-None
returns-in-None c =
    no_list c.args.tokens.now (rw c.in_default.is at c.in_ok-stmt.ensures) (rw c.in_default-2.is at c.in_ok-stmt-2.ensures) (rw c.in_default-3.is at c.in_ok-stmt-3.ensures)
    (rw c.in-None.is at c.in_ok-stmt-4.ensures)

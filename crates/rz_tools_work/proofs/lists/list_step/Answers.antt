use Rattle.std.proofs.Common.{◌≡◌, IfSome, sym, subst, refl}
use Rattle.rz_core.specs.Message.{IsNameable}
use Rattle.rz_stmt_lists.specs.Change.{change_of}
use Rattle.rz_stmt_lists.specs.Delete.{delete_of}
use Rattle.rz_stmt_lists.specs.Lists.{list_of, Includes, Reads}
use Rattle.rz_stmt_lists.specs.declared.lists.ListStmt.{ListStmt}
use Rattle.rz_core.specs.Stop.{IsReadFault, left, Yields}
use Rattle.rz_folder.proofs.Found.{if_some}
use Rattle.rz_tools_values.specs.Around.{around}
use Rattle.rz_tools_work.specs.Change.{list_changing, list_deleting}
use Rattle.rz_tools_work.specs.Lists.{list_after}
use Rattle.rz_tools_values.proofs.Calls.{reads_nothing}
use Rattle.rz_tools_work.proofs.Calls.{halted_refuses, halted_unread, went_as}
use Rattle.rz_folder.specs.MayRead.{MayRead}
use Rattle.rz_folder.specs.Names.{LooksFor}
use Rattle.rz_folder.proofs.Looking.{may_look}
use Rattle.rz_stmt_lists.specs.Include.{include_of}
use Rattle.rz_stmt_lists.specs.Read.{read_of}
use Rattle.rz_tools_work.specs.Asked.{ListAsks}
use Rattle.rz_tools_work.proofs.lists.list_step.Goals as goal

pub include_resources-requires : goal.include_resources-requires
include_resources-requires g c =
    may_look g.F.Folder c.args.around.paths.now (ListAsks (Includes (include_of c.in-Include.stmt)))
    (subst (λ (stmt : ListStmt). MayRead g.F.Folder c.args.folder.now (LooksFor c.args.around.paths.now (ListAsks (list_of stmt)))) c.in-Include.is c.requires)
    (include_of c.in-Include.stmt).file refl

pub read_resource-requires : goal.read_resource-requires
read_resource-requires g c =
    may_look g.F.Folder c.args.around.paths.now (ListAsks (Reads (read_of c.in-Read.stmt)))
    (subst (λ (stmt : ListStmt). MayRead g.F.Folder c.args.folder.now (LooksFor c.args.around.paths.now (ListAsks (list_of stmt)))) c.in-Read.is c.requires)
    (read_of c.in-Read.stmt).file refl

pub returns-in-Include-clause-stepped : goal.returns-in-Include-clause-stepped
returns-in-Include-clause-stepped g c =
    subst (λ (s : ListStmt). IfSome (g.F.Folder.files c.args.folder.now) (λ files.
    Yields (left c.include_resources.new.resources c.include_resources.result) (λ answer. answer ≡ list_after (around c.args.around.setting c.args.around.paths.now files) c.args.around.mark c.args.resources.now (list_of s))))
    (sym c.in-Include.is) c.include_resources.ensures.included

pub returns-in-Read-clause-stepped : goal.returns-in-Read-clause-stepped
returns-in-Read-clause-stepped g c =
    subst (λ (s : ListStmt). IfSome (g.F.Folder.files c.args.folder.now) (λ files.
    Yields (left c.read_resource.new.resources c.read_resource.result) (λ answer. answer ≡ list_after (around c.args.around.setting c.args.around.paths.now files) c.args.around.mark c.args.resources.now (list_of s))))
    (sym c.in-Read.is) c.read_resource.ensures.read

pub returns-in-Change-clause-stepped : goal.returns-in-Change-clause-stepped
returns-in-Change-clause-stepped g c =
    subst (λ (s : ListStmt). IfSome (g.F.Folder.files c.args.folder.now) (λ files.
    Yields (left c.change_resources.new.resources c.halted.result) (λ answer. answer ≡ list_after (around c.args.around.setting c.args.around.paths.now files) c.args.around.mark c.args.resources.now (list_of s))))
    (sym c.in-Change.is)
    (if_some (g.F.Folder.files c.args.folder.now) _ (λ files told.
    went_as (λ answer. answer ≡ list_changing c.args.around.setting c.args.around.mark c.args.resources.now (change_of c.in-Change.stmt)) c.change_resources.result c.halted.result c.change_resources.new.resources
    c.halted.ensures c.change_resources.ensures.changed))

pub returns-in-Change-clause-nameable : goal.returns-in-Change-clause-nameable
returns-in-Change-clause-nameable g c files within =
    halted_refuses c.change_resources.result c.halted.result (IsNameable files) c.halted.ensures (c.change_resources.ensures.nameable files within)

pub returns-in-Change-clause-reads : goal.returns-in-Change-clause-reads
returns-in-Change-clause-reads g c =
    reads_nothing g.F.Folder c.args.folder.now (IsReadFault c.halted.result)
    (halted_unread c.change_resources.result c.halted.result c.halted.ensures)

pub returns-in-Delete-clause-stepped : goal.returns-in-Delete-clause-stepped
returns-in-Delete-clause-stepped g c =
    subst (λ (s : ListStmt). IfSome (g.F.Folder.files c.args.folder.now) (λ files.
    Yields (left c.delete_resources.new.resources c.halted-in-Delete.result) (λ answer. answer ≡ list_after (around c.args.around.setting c.args.around.paths.now files) c.args.around.mark c.args.resources.now (list_of s))))
    (sym c.in-Delete.is)
    (if_some (g.F.Folder.files c.args.folder.now) _ (λ files told.
    went_as (λ answer. answer ≡ list_deleting c.args.around.setting c.args.around.mark c.args.resources.now (delete_of c.in-Delete.stmt)) c.delete_resources.result c.halted-in-Delete.result c.delete_resources.new.resources
    c.halted-in-Delete.ensures c.delete_resources.ensures.deleted))

pub returns-in-Delete-clause-nameable : goal.returns-in-Delete-clause-nameable
returns-in-Delete-clause-nameable g c files within =
    halted_refuses c.delete_resources.result c.halted-in-Delete.result (IsNameable files) c.halted-in-Delete.ensures (c.delete_resources.ensures.nameable files within)

pub returns-in-Delete-clause-reads : goal.returns-in-Delete-clause-reads
returns-in-Delete-clause-reads g c =
    reads_nothing g.F.Folder c.args.folder.now (IsReadFault c.halted-in-Delete.result)
    (halted_unread c.delete_resources.result c.halted-in-Delete.result c.halted-in-Delete.ensures)

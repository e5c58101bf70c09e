use Rattle.std.proofs.Common.{ℕ, List, [], Some, None, Ok, Err, sym, subst}
use Rattle.std.proofs.lemmas.Option.{IfSome_then}
use Rattle.std.proofs.lemmas.Result.{err_from_is_err_and}
use Rattle.rz_core.specs.Message.{IsNameable}
use Rattle.rz_core.specs.Stop.{Gives, IsReadFault}
use Rattle.rz_bridge.specs.declared.file.MacFile.{MacFile}
use Rattle.rz_bridge_files.specs.Contents.{file_in}
use Rattle.rz_tools_values.specs.Files.{file_named}
use Rattle.rz_tools_values.proofs.Calls.{reads_first, refuses_so, stop_unread, yields_halt, yields_on, yields_same}
use Rattle.rz_tools_values.proofs.files.file_of_name.Goals as goal

pub returns-clause-file : goal.returns-clause-file
returns-clause-file g c = IfSome_then (g.F.Folder.files c.args.folder.now) c.in_ok-bytes.ensures.read (λ files yields.
    yields_on (file_named c.args.paths.now files c.args.mark c.args.name.now) (λ (bytes : List ℕ). file_in (Some c.args.mark) None bytes []) c.in_ok-bytes.bytes (Ok c.in_ok-file_in.field-0) yields
    (sym (rw c.new.ensures at c.in_ok-file_in.ensures.file)))

pub returns-in_err-file_in-clause-file : goal.returns-in_err-file_in-clause-file
returns-in_err-file_in-clause-file g c =
    let stop = c.in_err-file_in.field-0.0 in
    let bytes = c.in_ok-bytes.bytes in
    let p = err_from_is_err_and c.from_residual-in_err-file_in.result c.from_residual-in_err-file_in.ensures.1 in
    IfSome_then (g.F.Folder.files c.args.folder.now) c.in_ok-bytes.ensures.read (λ files yields.
    rw p.1 (yields_on {Y = MacFile} (file_named c.args.paths.now files c.args.mark c.args.name.now) (λ (bytes : List ℕ). file_in (Some c.args.mark) None bytes []) bytes (Err p.0) yields
    (yields_same MacFile (file_in (Some c.args.mark) None bytes []) stop p.0 p.2
    (subst (λ (data_file : List ℕ). Gives {X = MacFile} (file_in (Some c.args.mark) None bytes data_file) (Err stop)) c.new.ensures c.in_err-file_in.ensures.file))))

pub returns-in_err-file_in-clause-nameable : goal.returns-in_err-file_in-clause-nameable
returns-in_err-file_in-clause-nameable g c files within =
    let p = err_from_is_err_and c.from_residual-in_err-file_in.result c.from_residual-in_err-file_in.ensures.1 in
    rw p.1 (refuses_so MacFile MacFile c.in_err-file_in.field-0.0 p.0 (IsNameable files) p.2 (c.in_err-file_in.ensures.nameable files within))

pub returns-in_err-file_in-clause-reads : goal.returns-in_err-file_in-clause-reads
returns-in_err-file_in-clause-reads g c =
    let p = err_from_is_err_and c.from_residual-in_err-file_in.result c.from_residual-in_err-file_in.ensures.1 in
    reads_first g.F.Folder c.args.folder.now c.file_named.new.folder (IsReadFault c.from_residual-in_err-file_in.result)
    (rw p.1 (stop_unread MacFile c.in_err-file_in.field-0.0 p.0 p.2)) c.in_ok-bytes.ensures.reads

pub returns-in_err-bytes-clause-file : goal.returns-in_err-bytes-clause-file
returns-in_err-bytes-clause-file g c = IfSome_then (g.F.Folder.files c.args.folder.now) c.in_err-bytes.ensures.read (λ files yields.
    let p = err_from_is_err_and c.from_residual.result c.from_residual.ensures.1 in
    rw (p.1, p.2) (yields_halt (file_named c.args.paths.now files c.args.mark c.args.name.now) (λ (bytes : List ℕ). file_in (Some c.args.mark) None bytes []) c.in_err-bytes.field-0.0 yields))

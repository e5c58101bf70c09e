use Rattle.std.proofs.Common.{◌≡◌, ℕ, List, Ok, Err, IfSome, ap, sym, subst}
use Rattle.std.proofs.lemmas.Option.{IfSome_then}
use Rattle.std.proofs.lemmas.Result.{err_from_is_err_and}
use Rattle.rz_core.specs.Message.{IsNameable}
use Rattle.rz_core.specs.declared.facts.Facts.{Facts}
use Rattle.rz_core.specs.declared.resource.Resource.{Resource}
use Rattle.rz_stmt_data.specs.Head.{head_of}
use Rattle.rz_core.specs.Stop.{IsReadFault, Yields}
use Rattle.rz_folder.proofs.Found.{if_some}
use Rattle.rz_tools_values.specs.Contents.{short_bytes, with_bytes}
use Rattle.rz_tools_values.specs.Files.{file_named}
use Rattle.rz_tools_values.specs.Head.{facts_of}
use Rattle.rz_tools_work.specs.Read.{contents_named, with_file}
use Rattle.rz_tools_values.proofs.Calls.{reads_first, reads_nothing, refuses_so, stop_unread, yields_halt, yields_on, yields_same, yields_stop}
use Rattle.rz_folder.specs.MayRead.{IsOneOf, MayRead}
use Rattle.rz_folder.specs.Names.{names_of, utf8_name}
use Rattle.rz_tools_work.proofs.read.resource_read.Goals as goal

pub file_named-requires : goal.file_named-requires
file_named-requires g c = subst (λ (own : List ℕ). MayRead g.F.Folder c.args.folder.now (IsOneOf (names_of c.args.around.paths.now (utf8_name own)))) (sym c.as_slice-name.ensures) c.requires

pub returns-clause-read : goal.returns-clause-read
returns-clause-read g c =
    let mark = c.args.around.mark in
    let known = c.in_ok-known.known in
    let made = Ok c.with_bytes.result in
    let read = subst (λ (name : List ℕ). IfSome (g.F.Folder.files c.args.folder.now) (λ files.
    Yields {X = List ℕ} (Ok c.in_ok-bytes.bytes) (λ answer. answer ≡ file_named c.args.around.paths.now files mark name))) c.as_slice-name.ensures c.in_ok-bytes.ensures.read in
    IfSome_then (g.F.Folder.files c.args.folder.now) read (λ files yields.
    let file = file_named c.args.around.paths.now files mark c.args.stmt.now.file in
    yields_on (facts_of c.args.around.setting mark c.args.stmt.now.kind.code (head_of c.args.stmt.now.head)) (with_file c.args.around.paths.now files mark c.args.stmt.now.file)
    known made (sym c.in_ok-known.ensures.facts)
    (yields_on (contents_named c.args.around.paths.now files mark c.args.stmt.now.file) (λ (bytes : List ℕ). Ok (with_bytes known bytes)) c.in_ok-short.short made
    (yields_on file (short_bytes mark) c.in_ok-bytes.bytes (Ok c.in_ok-short.short) yields (sym c.in_ok-short.ensures.bytes)) (ap (λ (r : Resource). Ok r) c.with_bytes.ensures)))

pub returns-in_err-short-clause-read : goal.returns-in_err-short-clause-read
returns-in_err-short-clause-read g c =
    let mark = c.args.around.mark in
    let known = c.in_ok-known.known in
    let bytes = c.in_ok-bytes.bytes in
    let p = err_from_is_err_and c.from_residual-in_err-short.result c.from_residual-in_err-short.ensures.1 in
    let read = subst (λ (name : List ℕ). IfSome (g.F.Folder.files c.args.folder.now) (λ files.
    Yields {X = List ℕ} (Ok bytes) (λ answer. answer ≡ file_named c.args.around.paths.now files mark name))) c.as_slice-name.ensures c.in_ok-bytes.ensures.read in
    IfSome_then (g.F.Folder.files c.args.folder.now) read (λ files yields.
    let file = file_named c.args.around.paths.now files mark c.args.stmt.now.file in
    rw p.1 (yields_on {Y = Resource} (facts_of c.args.around.setting mark c.args.stmt.now.kind.code (head_of c.args.stmt.now.head)) (with_file c.args.around.paths.now files mark c.args.stmt.now.file)
    known (Err p.0) (sym c.in_ok-known.ensures.facts)
    (yields_halt (contents_named c.args.around.paths.now files mark c.args.stmt.now.file) (λ (bytes : List ℕ). Ok (with_bytes known bytes)) p.0
    (yields_on file (short_bytes mark) bytes (Err p.0) yields (yields_same (List ℕ) (short_bytes mark bytes) c.in_err-short.field-0.0 p.0 p.2 c.in_err-short.ensures.bytes)))))

pub returns-in_err-short-clause-nameable : goal.returns-in_err-short-clause-nameable
returns-in_err-short-clause-nameable g c files within =
    let p = err_from_is_err_and c.from_residual-in_err-short.result c.from_residual-in_err-short.ensures.1 in
    rw p.1 (refuses_so (List ℕ) Resource c.in_err-short.field-0.0 p.0 (IsNameable files) p.2 (c.in_err-short.ensures.nameable files within))

pub returns-in_err-short-clause-reads : goal.returns-in_err-short-clause-reads
returns-in_err-short-clause-reads g c =
    let p = err_from_is_err_and c.from_residual-in_err-short.result c.from_residual-in_err-short.ensures.1 in
    reads_first g.F.Folder c.args.folder.now c.file_named.new.folder (IsReadFault c.from_residual-in_err-short.result)
    (rw p.1 (stop_unread Resource c.in_err-short.field-0.0 p.0 p.2)) c.in_ok-bytes.ensures.reads

pub returns-in_err-bytes-clause-read : goal.returns-in_err-bytes-clause-read
returns-in_err-bytes-clause-read g c =
    let mark = c.args.around.mark in
    let known = c.in_ok-known.known in
    let halt = c.in_err-bytes.field-0.0 in
    let p = err_from_is_err_and c.from_residual-in_err-bytes.result c.from_residual-in_err-bytes.ensures.1 in
    let read = subst (λ (name : List ℕ). IfSome (g.F.Folder.files c.args.folder.now) (λ files.
    Yields {X = List ℕ} (Err c.in_err-bytes.field-0.0) (λ answer. answer ≡ file_named c.args.around.paths.now files mark name))) c.as_slice-name.ensures c.in_err-bytes.ensures.read in
    IfSome_then (g.F.Folder.files c.args.folder.now) read (λ files yields.
    let file = file_named c.args.around.paths.now files mark c.args.stmt.now.file in
    rw (p.1, p.2) (yields_on {Y = Resource} (facts_of c.args.around.setting mark c.args.stmt.now.kind.code (head_of c.args.stmt.now.head)) (with_file c.args.around.paths.now files mark c.args.stmt.now.file)
    known (Err halt) (sym c.in_ok-known.ensures.facts)
    (yields_halt (contents_named c.args.around.paths.now files mark c.args.stmt.now.file) (λ (bytes : List ℕ). Ok (with_bytes known bytes)) halt
    (yields_halt file (short_bytes mark) halt yields))))

pub returns-in_err-known-clause-read : goal.returns-in_err-known-clause-read
returns-in_err-known-clause-read g c = if_some (g.F.Folder.files c.args.folder.now) _ (λ files told.
    let p = err_from_is_err_and c.from_residual.result c.from_residual.ensures.1 in
    rw p.1 (yields_stop {Y = Resource} (facts_of c.args.around.setting c.args.around.mark c.args.stmt.now.kind.code (head_of c.args.stmt.now.head))
    (with_file c.args.around.paths.now files c.args.around.mark c.args.stmt.now.file)
    c.in_err-known.field-0.0 p.0 p.2 c.in_err-known.ensures.facts))

pub returns-in_err-known-clause-nameable : goal.returns-in_err-known-clause-nameable
returns-in_err-known-clause-nameable g c files within =
    let p = err_from_is_err_and c.from_residual.result c.from_residual.ensures.1 in
    rw p.1 (refuses_so Facts Resource c.in_err-known.field-0.0 p.0 (IsNameable files) p.2 (c.in_err-known.ensures.nameable files within))

pub returns-in_err-known-clause-reads : goal.returns-in_err-known-clause-reads
returns-in_err-known-clause-reads g c =
    let p = err_from_is_err_and c.from_residual.result c.from_residual.ensures.1 in
    reads_nothing g.F.Folder c.args.folder.now (IsReadFault c.from_residual.result)
    (rw p.1 (stop_unread Resource c.in_err-known.field-0.0 p.0 p.2))

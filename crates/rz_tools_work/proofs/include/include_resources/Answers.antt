use Rattle.std.proofs.Common.{◌≡◌, ℕ, List, Ok, Err, IfSome, sym, subst}
use Rattle.std.proofs.lemmas.Option.{IfSome_then}
use Rattle.std.proofs.lemmas.Result.{err_from_is_err_and}
use Rattle.std.specs.declared.result.Result.{Result}
use Rattle.rz_core.specs.Message.{IsNameable}
use Rattle.rz_core.specs.Stop.{IsReadFault, Meets, Yields, left}
use Rattle.rz_core.specs.declared.fault.Fault.{Fault}
use Rattle.rz_core.specs.declared.resource.Resource.{Resource}
use Rattle.rz_bridge.specs.declared.file.MacFile.{MacFile}
use Rattle.rz_stmt_lists.specs.Include.{part_of}
use Rattle.rz_tools_values.specs.Files.{file_of_name}
use Rattle.rz_tools_values.proofs.Calls.{reads_first}
use Rattle.rz_tools_work.specs.Include.{fork_included}
use Rattle.rz_tools_work.proofs.Calls.{halted_refuses, halted_unread, went_halt, went_on}
use Rattle.rz_tools_work.proofs.Included.{of_the_file}
use Rattle.rz_folder.specs.MayRead.{IsOneOf, MayRead}
use Rattle.rz_folder.specs.Names.{names_of, utf8_name}
use Rattle.rz_tools_work.proofs.include.include_resources.Goals as goal

pub file_of_name-requires : goal.file_of_name-requires
file_of_name-requires g c = subst (λ (own : List ℕ). MayRead g.F.Folder c.args.folder.now (IsOneOf (names_of c.args.around.paths.now (utf8_name own)))) (sym c.as_slice.ensures) c.requires

pub returns-clause-included : goal.returns-clause-included
returns-clause-included g c =
    let part = part_of c.args.stmt.now.part in
    let told = subst (λ (name : List ℕ). IfSome (g.F.Folder.files c.args.folder.now) (λ files.
    Yields {X = MacFile} (Ok c.in_ok-file.file) (λ answer. answer ≡ file_of_name c.args.around.paths.now files c.args.around.mark name))) c.as_slice.ensures c.in_ok-file.ensures.file in
    let put = subst (λ (fork : List ℕ). Meets (left c.include_fork.new.resources c.include_fork.result)
    (λ answer. answer ≡ fork_included c.args.around.setting c.args.around.mark c.args.resources.now part fork)) c.as_slice-fork.ensures c.include_fork.ensures.included in
    IfSome_then (g.F.Folder.files c.args.folder.now) told (λ files yields.
    subst (λ (a : Result (List Resource) Fault). Yields (left c.include_fork.new.resources c.halted.result) (λ answer. answer ≡ a))
    (sym (of_the_file c.args.around.setting c.args.around.mark c.args.resources.now part c.args.around.paths.now files c.args.stmt.now.file))
    (went_on (file_of_name c.args.around.paths.now files c.args.around.mark c.args.stmt.now.file)
    (λ (file : MacFile). fork_included c.args.around.setting c.args.around.mark c.args.resources.now part file.res_fork)
    c.in_ok-file.file c.include_fork.result c.halted.result c.include_fork.new.resources yields c.halted.ensures put))

pub returns-clause-nameable : goal.returns-clause-nameable
returns-clause-nameable g c files within = halted_refuses c.include_fork.result c.halted.result (IsNameable files) c.halted.ensures (c.include_fork.ensures.nameable files within)

pub returns-clause-reads : goal.returns-clause-reads
returns-clause-reads g c =
    reads_first g.F.Folder c.args.folder.now c.file_of_name.new.folder (IsReadFault c.halted.result)
    (halted_unread c.include_fork.result c.halted.result c.halted.ensures) c.in_ok-file.ensures.reads

pub returns-in_err-file-clause-included : goal.returns-in_err-file-clause-included
returns-in_err-file-clause-included g c =
    let part = part_of c.args.stmt.now.part in
    let told = subst (λ (name : List ℕ). IfSome (g.F.Folder.files c.args.folder.now) (λ files.
    Yields {X = MacFile} (Err c.in_err-file.field-0.0) (λ answer. answer ≡ file_of_name c.args.around.paths.now files c.args.around.mark name))) c.as_slice.ensures c.in_err-file.ensures.file in
    IfSome_then (g.F.Folder.files c.args.folder.now) told (λ files yields.
    let p = err_from_is_err_and c.from_residual.result c.from_residual.ensures.1 in
    rw (p.1, p.2) (subst (λ (a : Result (List Resource) Fault). Yields (left c.args.resources.now (Err c.in_err-file.field-0.0)) (λ answer. answer ≡ a))
    (sym (of_the_file c.args.around.setting c.args.around.mark c.args.resources.now part c.args.around.paths.now files c.args.stmt.now.file))
    (went_halt (file_of_name c.args.around.paths.now files c.args.around.mark c.args.stmt.now.file)
    (λ (file : MacFile). fork_included c.args.around.setting c.args.around.mark c.args.resources.now part file.res_fork) c.in_err-file.field-0.0 c.args.resources.now yields)))

use Rattle.std.proofs.Common.{◌≡◌, ◌+◌, ◌<◌, ◌^◌, ℕ, List, length, Ok, Err, inl, inr, refl, sym, subst}
use Rattle.std.specs.FinMap as map
use Rattle.std.specs.declared.result.Result.{Result}
use Rattle.rz_catalog.specs.Apply.{Applied}
use Rattle.rz_catalog_text.specs.declared.entry.Entry.{Entry}
use Rattle.rz_core.specs.Message.{IsNameable}
use Rattle.rz_core.specs.Stop.{Meets}
use Rattle.rz_core.specs.declared.fault.Fault.{Fault}
use Rattle.rz_core.specs.declared.resource.Resource.{Resource}
use Rattle.rz_folder.proofs.Finding.{finds_end, finds_fault, finds_stop, finds_then, finds_value}
use Rattle.rz_folder.specs.Folder.{Files}
use Rattle.rz_folder.proofs.Present.{finds_at}
use Rattle.rz_tools_output.specs.Base.{base_held, begun_of, Base}
use Rattle.rz_tools_output.specs.Output.{IsOutput, Target}
use Rattle.rz_tools.proofs.Restringing.{keys_kept, names_kept, stopped_nameable}
use Rattle.rz_tools.specs.Held.{restring}
use Rattle.rz_tools.specs.Restring.{target_named, HasCatalogueFile, RestringAsked}
use Rattle.rz_types_table.specs.TypeTable.{table_of}
use Rattle.rz_tools.proofs.restring.restrung.Goals as goal

-- what the fork's file holds, and what follows
abbrev IsHeld : RestringAsked → Files → Result Base Fault → Type 0
IsHeld asked files answer = base_held asked.from asked.file (map.get files asked.file) ≡ answer

abbrev Catalogue : ℕ → RestringAsked → Files → Result (List Entry) Fault → Type 0
Catalogue file asked files = HasCatalogueFile file asked.catalogue (map.get files asked.catalogue)

pub read_held-requires : goal.read_held-requires
read_held-requires g c = subst (λ (name : List ℕ). g.F.Folder.may_read c.args.folder.now name) (sym c.as_str.ensures.value) (c.requires _ (inl refl))

pub read_catalogue-requires : goal.read_catalogue-requires
read_catalogue-requires g c =
    subst (λ (name : List ℕ). g.F.Folder.may_read c.read_held.new.folder name) (sym c.as_str-2.ensures.value) (c.in_ok-begun.ensures.reads.allowed _ (c.requires _ (inr refl)))

pub write_output-requires-clause-keys : goal.write_output-requires-clause-keys
write_output-requires-clause-keys g c =
    keys_kept c.in_ok-begun.begun.list c.in_ok-changed.changed (c.resources_stay.ensures _ _ _ _ _ _ c.in_ok-changed.ensures) c.in_ok-begun.ensures.good.begins.keys

pub write_output-requires-clause-named : goal.write_output-requires-clause-named
write_output-requires-clause-named g c =
    names_kept c.in_ok-begun.begun.list c.in_ok-changed.changed (c.resources_stay.ensures _ _ _ _ _ _ c.in_ok-changed.ensures) c.in_ok-begun.ensures.good.begins.named

pub write_output-requires-clause-room : goal.write_output-requires-clause-room
write_output-requires-clause-room g c = c.in_ok-begun.ensures.good.begins.room

pub returns-in_err-begun : goal.returns-in_err-begun
returns-in_err-begun g c =
    finds_stop g.F.Folder (IsHeld (restring c.args.words.now)) _ c.from_residual.result c.from_residual.ensures.1
    (finds_at g.F.Folder (c.args.file + 1) (rw c.as_str.ensures.value at c.in_err-begun.ensures))

pub returns-in_err-entries : goal.returns-in_err-entries
returns-in_err-entries g c =
    let asked = restring c.args.words.now in
    finds_then g.F.Folder (IsHeld asked) _ {x = begun_of c.in_ok-begun.begun} (finds_at g.F.Folder (c.args.file + 1) (rw c.as_str.ensures.value at c.in_ok-begun.ensures))
    (finds_stop g.F.Folder (Catalogue c.args.file asked) _ c.from_residual-in_err-entries.result c.from_residual-in_err-entries.ensures.1 (rw c.as_str-2.ensures.value at c.in_err-entries.ensures))

pub returns-in_err-changed : goal.returns-in_err-changed
returns-in_err-changed g c =
    let words = c.args.words.now in
    let asked = restring words in
    let list = c.in_ok-begun.begun.list in
    let types = table_of c.args.types.now in
    let entries = c.in_ok-entries.entries in
    finds_then g.F.Folder (IsHeld asked) _ {x = begun_of c.in_ok-begun.begun} (finds_at g.F.Folder (c.args.file + 1) (rw c.as_str.ensures.value at c.in_ok-begun.ensures))
    (finds_then g.F.Folder (Catalogue c.args.file asked) _ (rw c.as_str-2.ensures.value at c.in_ok-entries.ensures)
    (finds_stop g.F.Folder (λ files. Applied types c.args.moment words.over list entries) _ c.from_residual-in_err-changed.result c.from_residual-in_err-changed.ensures.1
    (finds_fault g.F.Folder (Applied types c.args.moment words.over list entries) (λ changed. Unit {0}) c.in_err-changed.field-0.0 c.in_err-changed.ensures
    (stopped_nameable (List Resource) (List Resource) (Applied types c.args.moment words.over list entries) (IsNameable (c.args.file + 1))
    (λ fault is. c.entry_faults_are_told.ensures types c.args.moment words.over list entries fault (c.args.file + 1) is c.in_ok-entries.ensures.good) c.in_err-changed.field-0.0 c.in_err-changed.ensures))))

pub returns-in_err-write_output : goal.returns-in_err-write_output
returns-in_err-write_output g c =
    let words = c.args.words.now in
    let asked = restring words in
    let begun = c.in_ok-begun.begun in
    let changed = c.in_ok-changed.changed in
    let stop = c.in_err-write_output.field-0.0 in
    finds_then g.F.Folder (IsHeld asked) _ {x = begun_of begun} (finds_at g.F.Folder (c.args.file + 1) (rw c.as_str.ensures.value at c.in_ok-begun.ensures))
    (finds_then g.F.Folder (Catalogue c.args.file asked) _ (rw c.as_str-2.ensures.value at c.in_ok-entries.ensures)
    (finds_then g.F.Folder (λ files. Applied (table_of c.args.types.now) c.args.moment words.over begun.list c.in_ok-entries.entries) _
    (finds_value g.F.Folder (Applied (table_of c.args.types.now) c.args.moment words.over begun.list c.in_ok-entries.entries) (λ changed. Unit {0}) changed c.in_ok-changed.ensures tt)
    (finds_end g.F.Folder c.from_residual-in_err-write_output.result c.from_residual-in_err-write_output.ensures.1
    (finds_fault g.F.Folder (IsOutput (target_named words.output.now) c.args.moment (begun_of begun) changed) (λ bytes. length bytes < 2 ^ 32) stop
    (subst (λ (t : Target). Meets {X = List ℕ} (Err stop) (IsOutput t c.args.moment (begun_of begun) changed)) c.named-target.ensures (c.in_err-write_output.ensures.output begun.list))
    (c.in_err-write_output.ensures.nameable (c.args.file + 1))))))

pub returns : goal.returns
returns g c =
    let words = c.args.words.now in
    let asked = restring words in
    let begun = c.in_ok-begun.begun in
    let changed = c.in_ok-changed.changed in
    finds_then g.F.Folder (IsHeld asked) _ {x = begun_of begun} (finds_at g.F.Folder (c.args.file + 1) (rw c.as_str.ensures.value at c.in_ok-begun.ensures))
    (finds_then g.F.Folder (Catalogue c.args.file asked) _ (rw c.as_str-2.ensures.value at c.in_ok-entries.ensures)
    (finds_then g.F.Folder (λ files. Applied (table_of c.args.types.now) c.args.moment words.over begun.list c.in_ok-entries.entries) _
    (finds_value g.F.Folder (Applied (table_of c.args.types.now) c.args.moment words.over begun.list c.in_ok-entries.entries) (λ changed. Unit {0}) changed c.in_ok-changed.ensures tt)
    (finds_value g.F.Folder (IsOutput (target_named words.output.now) c.args.moment (begun_of begun) changed) (λ bytes. length bytes < 2 ^ 32) c.in_ok-write_output.field-0
    (subst (λ (t : Target). IsOutput t c.args.moment (begun_of begun) changed (Ok c.in_ok-write_output.field-0)) c.named-target.ensures (c.in_ok-write_output.ensures.output begun.list))
    c.in_ok-write_output.ensures.short)))

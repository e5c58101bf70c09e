use Rattle.std.proofs.Common.{◌+◌, refl}
use Rattle.rz_catalog_text.specs.Stored.{AreEntriesIn}
use Rattle.rz_catalog_text.specs.Source.{HasEntries}
use Rattle.rz_folder.proofs.Finding.{finds_end, finds_fault, finds_value}
use Rattle.rz_folder.proofs.Present.{absent_stop, present_then}
use Rattle.rz_tools.specs.Restring.{HasCatalogueFile}
use Rattle.rz_tools.proofs.restring.read_catalogue.Goals as goal

pub returns-in_err-source : goal.returns-in_err-source
returns-in_err-source g c =
    let name = c.args.name.now in
    absent_stop g.F.Folder name (λ files. HasCatalogueFile c.args.file name) c.from_residual.result c.from_residual.ensures.1 (λ files. refl) (λ fault is. is (c.args.file + 1)) c.in_err-source.ensures

pub returns-in_err-entries_in : goal.returns-in_err-entries_in
returns-in_err-entries_in g c =
    let name = c.args.name.now in
    present_then g.F.Folder name (λ files. HasCatalogueFile c.args.file name) c.in_ok-source.ensures
    (finds_end g.F.Folder c.from_residual-in_err-entries_in.result c.from_residual-in_err-entries_in.ensures.1
    (finds_fault g.F.Folder (HasEntries c.args.file c.in_ok-source.source) (AreEntriesIn (c.args.file + 1)) c.in_err-entries_in.field-0.0 c.in_err-entries_in.ensures.entries c.in_err-entries_in.ensures.nameable))

pub returns : goal.returns
returns g c =
    let name = c.args.name.now in
    present_then g.F.Folder name (λ files. HasCatalogueFile c.args.file name) c.in_ok-source.ensures
    (finds_value g.F.Folder (HasEntries c.args.file c.in_ok-source.source) (AreEntriesIn (c.args.file + 1)) c.in_ok-entries_in.field-0 c.in_ok-entries_in.ensures.entries c.in_ok-entries_in.ensures.placed)

use Rattle.std.proofs.Common.{ℕ, List, refl, sym, subst}
use Rattle.rz_tools.proofs.OfFiles.{file_absent, file_stop, file_then}
use Rattle.rz_tools.specs.Held.{strings}
use Rattle.rz_tools.specs.Strings.{HasFileCatalogue}
use Rattle.rz_types_table.specs.TypeTable.{table_of}
use Rattle.rz_tools.proofs.strings.catalogue_of.Goals as goal

pub read_present-requires : goal.read_present-requires
read_present-requires g c = subst (λ (name : List ℕ). g.F.Folder.may_read c.args.folder.now name) (sym c.as_str.ensures.value) (c.requires)

pub returns-in_err-bytes : goal.returns-in_err-bytes
returns-in_err-bytes g c =
    let asked = strings c.args.words.now in
    file_absent g.F.Folder asked.from asked.file (HasFileCatalogue c.args.moment (table_of c.args.types.now) asked) c.from_residual.result c.from_residual.ensures.1 refl
    (rw c.as_str.ensures.value at c.in_err-bytes.ensures)

pub returns-in_err-catalogue_in : goal.returns-in_err-catalogue_in
returns-in_err-catalogue_in g c =
    let asked = strings c.args.words.now in
    file_stop g.F.Folder asked.from asked.file (HasFileCatalogue c.args.moment (table_of c.args.types.now) asked) c.in_err-catalogue_in.field-0.0
    c.from_residual-in_err-catalogue_in.result c.from_residual-in_err-catalogue_in.ensures.1 (rw c.as_str.ensures.value at c.in_ok-bytes.ensures)
    c.in_err-catalogue_in.ensures.text c.in_err-catalogue_in.ensures.nameable

pub returns : goal.returns
returns g c =
    let asked = strings c.args.words.now in
    file_then g.F.Folder asked.from asked.file (HasFileCatalogue c.args.moment (table_of c.args.types.now) asked) c.in_ok-catalogue_in.field-0
    (rw c.as_str.ensures.value at c.in_ok-bytes.ensures) c.in_ok-catalogue_in.ensures.text c.in_ok-catalogue_in.ensures.held tt

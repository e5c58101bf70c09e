use Rattle.std.proofs.Common.{List, None, refl}
use Rattle.rz_bridge_files.specs.Contents.{fork_in}
use Rattle.rz_core.specs.Stop.{seen}
use Rattle.rz_folder.proofs.Finding.{finds_end, finds_fault, finds_value, seen_end}
use Rattle.rz_folder.proofs.Present.{absent_stop, present_then, unplaced}
use Rattle.rz_tools_output.specs.Templates.{TypesAt, TypesIn}
use Rattle.rz_types_table.specs.Table.{Declaration}
use Rattle.rz_types_table.specs.TypeTable.{table_of}
use Rattle.rz_types_table.specs.declared.table.TypeTable.{TypeTable}
use Rattle.rz_tools_output.proofs.templates.templates_at.Goals as goal

pub returns-in_err-bytes : goal.returns-in_err-bytes
returns-in_err-bytes g c =
    let name = c.args.name.now in
    absent_stop g.F.Folder name (λ files. TypesAt name) (seen table_of c.from_residual.result) (seen_end table_of c.from_residual.result _ c.from_residual.ensures.1) (λ files. refl) (λ fault is. is)
    c.in_err-bytes.ensures

pub returns-in_err-templates_in : goal.returns-in_err-templates_in
returns-in_err-templates_in g c =
    let name = c.args.name.now in
    let result = c.from_residual-in_err-templates_in.result in
    present_then g.F.Folder name (λ files. TypesAt name) c.in_ok-bytes.ensures
    (finds_end g.F.Folder (seen table_of result) (seen_end table_of result _ c.from_residual-in_err-templates_in.ensures.1)
    (finds_fault g.F.Folder (TypesIn (fork_in None None c.in_ok-bytes.bytes)) (λ types. Unit {0}) c.in_err-templates_in.field-0.0 c.in_err-templates_in.ensures.types
    (unplaced TypeTable (List Declaration) c.in_err-templates_in.field-0.0 c.in_err-templates_in.ensures.nameable)))

pub returns : goal.returns
returns g c =
    let name = c.args.name.now in
    present_then g.F.Folder name (λ files. TypesAt name) c.in_ok-bytes.ensures
    (finds_value g.F.Folder (TypesIn (fork_in None None c.in_ok-bytes.bytes)) (λ types. Unit {0}) (table_of c.in_ok-templates_in.field-0) c.in_ok-templates_in.ensures.types tt)

use Rattle.std.proofs.Common.{List, [], Option, Ok, ap, refl, sym, subst}
use Rattle.std.specs.Prelude.{◌≡◌, option_map}
use Rattle.rz_core.specs.Stop.{seen}
use Rattle.rz_folder.proofs.Finding.{finds_value}
use Rattle.rz_folder.specs.Finds.{Finds}
use Rattle.rz_folder.specs.MayRead.{IsIt}
use Rattle.rz_folder.specs.Names.{IsUnplaced}
use Rattle.rz_tools_output.specs.Templates.{TypesOf}
use Rattle.rz_types_table.specs.Table.{Declaration}
use Rattle.rz_types_table.specs.TypeTable.{table_of}
use Rattle.rz_tools_output.proofs.templates.read_templates.Goals as goal

pub templates_at-requires : goal.templates_at-requires
templates_at-requires g c = c.requires c.in-Some.name.now (subst (λ (name : Option _). IsIt (option_map (λ one. one.now) name) c.in-Some.name.now) (sym c.in-Some.is) refl)

pub returns-in-Some : goal.returns-in-Some
returns-in-Some g c =
    subst (λ (name : Option _). Finds g.F.Folder c.args.folder.now c.templates_at.new.folder (seen table_of c.templates_at.result) (TypesOf (option_map (λ one. one.now) name)) (λ types. Unit {0}) IsUnplaced)
    (sym c.in-Some.is) c.templates_at.ensures

pub returns-in-None : goal.returns-in-None
returns-in-None g c =
    subst (λ (name : Option _). Finds g.F.Folder c.args.folder.now c.args.folder.now (Ok (table_of c.new.result)) (TypesOf (option_map (λ one. one.now) name)) (λ types. Unit {0}) IsUnplaced)
    (sym c.in-None.is) (finds_value g.F.Folder (λ answer. answer ≡ Ok []) (λ types. Unit {0}) (table_of c.new.result) (ap (λ (types : List Declaration). Ok types) c.new.ensures) tt)

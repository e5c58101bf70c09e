-- How a resource is shown where all declarations are templates.
use Rattle.std.proofs.Common.{◌≡◌, ◌↔◌, List, Some, refl, subst}
use Rattle.std.specs.Prelude.{option_map, IfSome}
use Rattle.std.specs.declared.option.Option.{Option}
use Rattle.std.specs.declared.option.Option.TheVariants.{None}
use Rattle.rz_core.proofs.Tests.{same_some}
use Rattle.rz_core.specs.declared.resource.Resource.{Resource}
use Rattle.rz_show.specs.Showing.{by_bytes, by_row, Showing}
use Rattle.rz_types.specs.Field.{PlainBody}
use Rattle.rz_types_fields.specs.declared.tree.Tree.{Tree}
use Rattle.rz_types_table.specs.Table.{found, Declaration}
use Rattle.rz_tools.proofs.EveryResource.{found_so}
use Rattle.rz_tools_text.specs.Shown.{its_bytes, its_row, IsShownBy, Known, TellsRow}
use Rattle.rz_tools_laws.specs.Templates.{TellsDeclared}
use Rattle.rz_tools_output.specs.Templates.{AreTemplates, IsTemplate}

-- fields that are declared for a resource are a template
declared_template : (one : Option Declaration) (body : PlainBody) → IfSome one (λ one. IsTemplate one.template) → option_map (λ one. one.template) one ≡ Some body → IsTemplate body
declared_template None body all is = absurd cc
declared_template (Some one) body all is = subst IsTemplate (same_some (Some one.template) one.template body refl is) all

abbrev pub OneShowing : Type 0
OneShowing = (known : Known) (r : Resource) (showing other : Showing) → IsShownBy known r showing → IsShownBy known r other → showing ≡ other

module _ (one : OneShowing) (known : Known) (all : AreTemplates known.types) (r : Resource) where
  tells_row : (body : PlainBody) (row : List Tree) → TellsDeclared known r body row → TellsRow known r body row
  tells_row body row tells =
      let is = declared_template (found r.kind r.id known.types) body (found_so IsTemplate r.kind r.id known.types all) tells.declared in
      record { tree = record { declared = tells.declared; shaped = is.shaped; kept = is.kept; told = tells.told }; bare = tells.bare }

  tells_declared : (body : PlainBody) (row : List Tree) → TellsRow known r body row → TellsDeclared known r body row
  tells_declared body row tells = record { declared = tells.tree.declared; told = tells.tree.told; bare = tells.bare }

  pub row_shown : (body : PlainBody) (row : List Tree) → TellsDeclared known r body row → (showing : Showing) → IsShownBy known r showing ↔ (showing ≡ by_row r body row)
  row_shown body row tells showing = (
    λ by. one known r showing (by_row r body row) by (its_row body row (tells_row body row tells) refl),
    λ is. its_row body row (tells_row body row tells) is,
  )

  pub bytes_shown : ((body : PlainBody) (row : List Tree) → TellsDeclared known r body row → ⊥) → (showing : Showing) → IsShownBy known r showing ↔ (showing ≡ by_bytes r)
  bytes_shown untold showing =
      let none : (body : PlainBody) (row : List Tree) → TellsRow known r body row → ⊥ = λ body row tells. untold body row (tells_declared body row tells) in
      (λ by. one known r showing (by_bytes r) by (its_bytes none refl), λ is. its_bytes none is)

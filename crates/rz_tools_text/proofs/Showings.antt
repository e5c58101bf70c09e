-- The text of resources is that of how each is shown.
use Rattle.std.proofs.Common.{◌≡◌, ℕ, List, [], ◌∷◌, ◌++◌, refl, sym, ap, ◌∙◌}
use Rattle.std.proofs.lemmas.List.Concat.{flat_map-cons}
use Rattle.std.proofs.lemmas.Option.{none-some}
use Rattle.std.specs.Prelude.{option_map}
use Rattle.rz_core.specs.declared.resource.Resource.{Resource}
use Rattle.rz_show.specs.Showing.{by_bytes, showing_text, showings_text, Showing}
use Rattle.rz_tools_text.specs.Shown.{its_bytes, its_row, IsShownBy, Known, TellsRow}
use Rattle.rz_tools_text.specs.Text.{ShowsEach}
use Rattle.rz_types.specs.Field.{PlainBody}
use Rattle.rz_types_fields.specs.declared.tree.Tree.{Tree}
use Rattle.rz_types_table.specs.Table.{found, Declaration}

abbrev pub AreShownBy : Known → List Resource → List Showing → Type 0
AreShownBy known [] [] = Unit {0}
AreShownBy known (r ∷ rs) (showing ∷ showings) = IsShownBy known r showing × AreShownBy known rs showings
AreShownBy known rs showings = ⊥

pub shown_each : (known : Known) (list : List Resource) (text : List ℕ) → ShowsEach known list text
    → (showings : List Showing) × AreShownBy known list showings × (text ≡ showings_text known.is_macro showings)
shown_each known [] text shows = ([], tt, shows)
shown_each known (r ∷ rs) text (front, behind, eq, (showing, by, is), shows) =
    let more = shown_each known rs behind shows in
    (showing ∷ more.0, (by, more.1), eq ∙ (λ i. is i ++ more.2 i) ∙ sym (flat_map-cons (showing_text known.is_macro) showing more.0))

-- where no types are declared no row is told, whatever the macros and the moment are
no_row : (known : Known) (r : Resource) (body : PlainBody) (row : List Tree) → known.types ≡ [] → TellsRow known r body row → ⊥
no_row known r body row none tells =
    none-some body (sym (ap (λ (types : List Declaration). option_map (λ one. one.template) (found r.kind r.id types)) none) ∙ tells.tree.declared)

pub none_declared : (known other : Known) → known.types ≡ [] → other.types ≡ [] → (list : List Resource) (text : List ℕ) → ShowsEach known list text → ShowsEach other list text
none_declared known other none too [] text shows = shows
none_declared known other none too (r ∷ rs) text (front, behind, eq, (showing, its_row body row tells is, so), shows) = absurd (no_row known r body row none tells)
none_declared known other none too (r ∷ rs) text (front, behind, eq, (showing, its_bytes none_tells is, so), shows) = (
  front,
  behind,
  eq,
  (by_bytes r, its_bytes (λ body row tells. no_row other r body row too tells) refl, so ∙ ap (showing_text known.is_macro) is),
  none_declared known other none too rs behind shows,
)

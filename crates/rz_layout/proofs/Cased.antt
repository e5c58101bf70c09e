-- What is laid of a switch, by the case that its value chooses.
use Rattle.std.proofs.Common.{◌≡◌, ℕ, Bool, true, false, if◌then◌else◌, List, get_or, Option, Some, None, Ok, refl, sym, subst, ap, ◌∙◌}
use Rattle.std.specs.Option.{option_map_or}
use Rattle.std.specs.Str.{str_eq_ignore_ascii_case}
use Rattle.std.specs.declared.result.Result.{Result}
use Rattle.rz_core.specs.declared.facts.Facts.{Facts}
use Rattle.rz_layout.specs.Sound.{AreSound, IsCaseSound}
use Rattle.rz_types_fields.specs.declared.field.Case.{Case}
use Rattle.rz_types_fields.specs.declared.field.Field.{Field}
use Rattle.rz_types_fields.specs.declared.field.Field.TheViews.{out-Case}
use Rattle.rz_types_fields.specs.Laid.{case_laid, line_in, row_laid, Draft, Refusal}
use Rattle.rz_types_fields.specs.Spells.{choice_in}
use Rattle.rz_types_fields.specs.declared.tree.Tree.{Tree}
use Rattle.rz_types.specs.Cases.{case_named}
use Rattle.rz_types.specs.Field.{case_and, no_cases, PlainCase, PlainCases}
use Rattle.rz_types.proofs.Cased.{by_case}

module _ (known : Facts) (draft : Draft) (value : Option Tree) where
  abbrev pub laid_of : PlainCase → Result Draft Refusal
  laid_of one = row_laid known None one.row draft (line_in value)

  laid_is : (cases : PlainCases) → case_laid known draft cases value ≡ option_map_or laid_of (case_named (choice_in value) cases) (Ok draft)
  laid_is = by_case (choice_in value) (λ cases. case_laid known draft cases value) laid_of (Ok draft) refl (λ own row others. refl)

  pub laid_some : (cases : PlainCases) (one : PlainCase) → case_named (choice_in value) cases ≡ Some one → case_laid known draft cases value ≡ laid_of one
  laid_some cases one found = laid_is cases ∙ ap (λ (o : Option PlainCase). option_map_or laid_of o (Ok draft)) found

  pub laid_none : (cases : PlainCases) → case_named (choice_in value) cases ≡ None → case_laid known draft cases value ≡ Ok draft
  laid_none cases none = laid_is cases ∙ ap (λ (o : Option PlainCase). option_map_or laid_of o (Ok draft)) none

-- its row is sound
pub chosen_sound : (cases : PlainCases) (value : Option Tree) (one : PlainCase) → IsCaseSound cases value → case_named (choice_in value) cases ≡ Some one → AreSound one.row (line_in value)
chosen_sound no_cases value one sound is = absurd cc
chosen_sound (case_and name row others) value one sound is = by (chosen_sound others value one sound.1) (str_eq_ignore_ascii_case name.bytes (choice_in value)) refl is
  where
    by : (case_named (choice_in value) others ≡ Some one → AreSound one.row (line_in value)) → (b : Bool) → str_eq_ignore_ascii_case name.bytes (choice_in value) ≡ b
        → (if b then Some (record { name = name; row = row }) else case_named (choice_in value) others) ≡ Some one
        → AreSound one.row (line_in value)
    by later true chosen is =
        let same : ◌≡◌ {A = PlainCase} (record { name = name; row = row }) one = cc is in subst (λ (c : PlainCase). AreSound c.row (line_in value)) same (sound.0 chosen)
    by later false other is = later is

-- the row of the case that stands there, as the code reads it
pub row_there : (row : List Field) (cases : List Case) (k : ℕ) (one : Case) → one ≡ get_or cases k one → row ≡ (out-Case (get_or cases k one)).row → row ≡ (out-Case one).row
row_there row cases k one item is = is ∙ sym (ap (λ (c : Case). (out-Case c).row) item)

-- What is shown of a switch, by the case that its value chooses.
use Rattle.std.proofs.Common.{◌≡◌, ℕ, Bool, true, false, ◌||◌, if◌then◌else◌, List, Option, Some, None, refl, subst, ap, ◌∙◌}
use Rattle.std.specs.Option.{option_map_or}
use Rattle.rz_types_fields.specs.Laid.{line_in}
use Rattle.rz_types_fields.specs.Spells.{choice_in}
use Rattle.rz_types_fields.specs.declared.tree.Tree.{Tree}
use Rattle.std.specs.Str.{str_eq_ignore_ascii_case}
use Rattle.rz_types.specs.Cases.{case_named}
use Rattle.rz_types.specs.Field.{case_and, no_cases, PlainCase, PlainCases}
use Rattle.rz_types.proofs.Cased.{by_case}
use Rattle.rz_show.specs.Printable.{HasNames, HasWidths, HaveNames, HaveWidths}
use Rattle.rz_show.specs.Shown.{case_print, case_uses, row_prints, row_uses}
use Rattle.rz_show_lines.specs.Print.{block, named_block, no_prints, Print}

module _ (hidden : List ℕ → Bool) (value : Option Tree) where
  -- as it is shown
  abbrev pub shown : PlainCase → Print
  shown one = named_block one.name.bytes (row_prints hidden one.row (line_in value) no_prints)

  print_is : (cases : PlainCases) → case_print hidden cases value ≡ option_map_or shown (case_named (choice_in value) cases) (block no_prints)
  print_is = by_case (choice_in value) (λ cases. case_print hidden cases value) shown (block no_prints) refl (λ own row others. refl)

  pub print_some : (cases : PlainCases) (one : PlainCase) → case_named (choice_in value) cases ≡ Some one → case_print hidden cases value ≡ shown one
  print_some cases one found = print_is cases ∙ ap (λ (o : Option PlainCase). option_map_or shown o (block no_prints)) found

  pub print_none : (cases : PlainCases) → case_named (choice_in value) cases ≡ None → case_print hidden cases value ≡ block no_prints
  print_none cases none = print_is cases ∙ ap (λ (o : Option PlainCase). option_map_or shown o (block no_prints)) none

  -- whether it has the name of a live macro
  abbrev pub used : PlainCase → Bool
  used one = hidden one.name.bytes || row_uses hidden one.row (line_in value)

  uses_are : (cases : PlainCases) → case_uses hidden cases value ≡ option_map_or used (case_named (choice_in value) cases) false
  uses_are = by_case (choice_in value) (λ cases. case_uses hidden cases value) used false refl (λ own row others. refl)

  pub uses_some : (cases : PlainCases) (one : PlainCase) → case_named (choice_in value) cases ≡ Some one → case_uses hidden cases value ≡ used one
  uses_some cases one found = uses_are cases ∙ ap (λ (o : Option PlainCase). option_map_or used o false) found

  pub uses_none : (cases : PlainCases) → case_named (choice_in value) cases ≡ None → case_uses hidden cases value ≡ false
  uses_none cases none = uses_are cases ∙ ap (λ (o : Option PlainCase). option_map_or used o false) none

-- What holds of its row.

module _ (P : PlainCase → Type 0) (All : PlainCases → Type 0) (name : List ℕ)
    (first : (own : PlainCase) (others : PlainCases) → All (case_and own.name own.row others) → P own) (next : (own : PlainCase) (others : PlainCases) → All (case_and own.name own.row others) → All others) where
  of_named : (cases : PlainCases) (one : PlainCase) → All cases → case_named name cases ≡ Some one → P one
  of_named no_cases one all is = absurd cc
  of_named (case_and own row others) one all is = by (of_named others one (next this others all)) (str_eq_ignore_ascii_case own.bytes name) is
    where
      this : PlainCase
      this = record { name = own; row = row }

      by : (case_named name others ≡ Some one → P one) → (b : Bool) → (if b then Some this else case_named name others) ≡ Some one → P one
      by later true is = let same : this ≡ one = cc is in subst P same (first this others all)
      by later false is = later is

pub named_widths : (name : List ℕ) (cases : PlainCases) (one : PlainCase) → HaveWidths cases → case_named name cases ≡ Some one → HasWidths one.row
named_widths name = of_named (λ one. HasWidths one.row) HaveWidths name (λ own others all. all.0) (λ own others all. all.1)

pub named_names : (name : List ℕ) (cases : PlainCases) (one : PlainCase) → HaveNames cases → case_named name cases ≡ Some one → HasNames one.row
named_names name = of_named (λ one. HasNames one.row) HaveNames name (λ own others all. all.1) (λ own others all. all.2)

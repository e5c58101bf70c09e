-- What an item gives to a switch, by the case of its name.
use Rattle.std.proofs.Common.{◌≡◌, ℕ, List, Option, Some, None, Err, refl, ap, ◌∙◌}
use Rattle.std.specs.Option.{option_map_or}
use Rattle.std.specs.declared.result.Result.{Result}
use Rattle.rz_core.specs.declared.facts.Facts.{Facts}
use Rattle.rz_core.specs.declared.fault.Fault.{Fault}
use Rattle.rz_core.specs.declared.fault.Mark.{Mark}
use Rattle.rz_stmt_items.specs.Item.{PlainItem}
use Rattle.rz_stmt_items.specs.Matched.{case_matched, choice_matched}
use Rattle.rz_stmt_items.specs.Unfit.{no_case}
use Rattle.rz_types_fields.specs.declared.tree.Tree.{Tree}
use Rattle.rz_types.specs.Cases.{case_named}
use Rattle.rz_types.specs.Field.{PlainCase, PlainCases}
use Rattle.rz_types.proofs.Cased.{by_case}

module _ (known : Facts) (mark : Mark) (name : List ℕ) (items : List PlainItem) where
  abbrev pub given : PlainCase → Result Tree Fault
  given one = choice_matched known mark one items

  matched_is : (cases : PlainCases) → case_matched known cases mark name items ≡ option_map_or given (case_named name cases) (Err (no_case mark name))
  matched_is = by_case name (λ cases. case_matched known cases mark name items) given (Err (no_case mark name)) refl (λ own row others. refl)

  pub matched_some : (cases : PlainCases) (one : PlainCase) → case_named name cases ≡ Some one → case_matched known cases mark name items ≡ given one
  matched_some cases one found = matched_is cases ∙ ap (λ (o : Option PlainCase). option_map_or given o (Err (no_case mark name))) found

  pub matched_none : (cases : PlainCases) → case_named name cases ≡ None → case_matched known cases mark name items ≡ Err (no_case mark name)
  matched_none cases none = matched_is cases ∙ ap (λ (o : Option PlainCase). option_map_or given o (Err (no_case mark name))) none

-- Resources that are short stay short where texts are changed.
use Rattle.std.proofs.Common.{◌≡◌, ℕ, ◌≤◌, Bool, false, List, [], ◌∷◌, length, map, Option, Some, None, refl, ap, ◌∙◌, arith}
use Rattle.std.specs.Prelude.{nat_lt, if◌then◌else◌, pos}
use Rattle.std.proofs.lemmas.Bool.Decides.{nat_tests}
use Rattle.rz_catalog.proofs.Stocks.{TreesAreDecided}
use Rattle.rz_catalog.specs.Became.{Became, BecameEach}
use Rattle.rz_catalog.specs.Stock.{HasTree}
use Rattle.rz_catalog_text.specs.declared.entry.Entry.{Entry}
use Rattle.rz_core.proofs.Lists.{or_else_none}
use Rattle.rz_core.specs.Decided.{Decided}
use Rattle.rz_core.specs.Lists.{first_of, or_else}
use Rattle.rz_core.specs.declared.facts.Facts.{Facts}
use Rattle.rz_core.specs.declared.fault.Kept.TheVariants.{Number}
use Rattle.rz_core.specs.declared.moment.Moment.{Moment}
use Rattle.rz_core.specs.declared.resource.Resource.{Resource}
use Rattle.rz_tools_output.specs.Base.{too_long}
use Rattle.rz_types.specs.Field.{PlainBody}
use Rattle.rz_types_fields.specs.Spells.{SpellsPlainly}
use Rattle.rz_types_fields.specs.declared.tree.Tree.{Tree}
use Rattle.rz_types_table.specs.Table.{declared_for, Declaration}
use Rattle.rz_unlay.specs.Reading.{facts_of}

abbrev pub SpelledAreFew : Type 0
SpelledAreFew = (known : Facts) (body : PlainBody) (row : List Tree) (bytes : List ℕ) → SpellsPlainly known body row bytes → length bytes ≤ 16777212

few_short : (r : Resource) → length r.bytes ≤ 16777212 → too_long r ≡ None
few_short r few =
    let fits : nat_lt 16777212 (length r.bytes) ≡ false = grind (arith, nat_tests) in
    ap (λ (b : Bool). if b then Some (record { number = 301; mark = None; kept = Number (pos (length r.bytes)) }) else None) fits

module _ (few : SpelledAreFew) (decided : TreesAreDecided) (types : List Declaration) (moment : Moment) (entries : List Entry) where
  one_short : (r n : Resource) → Became types moment entries r n → too_long r ≡ None → too_long n ≡ None
  one_short r n became short = let answer = decided (declared_for types r) (facts_of moment r) r.bytes in by answer.0 answer.1
    where
      by : (tree : Option (List Tree)) → Decided (HasTree types moment r) tree → too_long n ≡ None
      by None none = ap too_long (became.bare none) ∙ short
      by (Some row) has =
          let changed = became.tree row has in
          few_short n (few (facts_of moment n) changed.2.0 changed.0 n.bytes changed.2.1.told.1)

  pub all_short : (list new : List Resource) → BecameEach types moment entries list new → first_of (map too_long list) ≡ None → first_of (map too_long new) ≡ None
  all_short [] [] each short = refl
  all_short [] (n ∷ new) each short = absurd each
  all_short (r ∷ list) [] each short = absurd each
  all_short (r ∷ list) (n ∷ new) each short =
      let parts = or_else_none (too_long r) (first_of (map too_long list)) short in
      let one = one_short r n each.0 parts.0 in
      let rest = all_short list new each.1 parts.1 in
      λ i. or_else (one i) (rest i)

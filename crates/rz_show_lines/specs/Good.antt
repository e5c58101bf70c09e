-- What holds of items whose lines are cut back into the tokens that are meant.
use Rattle.std.specs.Prelude.{◌≡◌, ℕ, Bool, false, List, ◌∷◌}
use Rattle.std.specs.List.{AllByRecursion}
use Rattle.rz_lex.specs.Printed.{AreBytes}
use Rattle.rz_show_lines.specs.Print.{block, named_block, no_prints, pieces, print, single, single_written, Print, Prints}
use Rattle.rz_show_lines.specs.Written.{IsName, IsPut}

abbrev mutual
  -- what is written of the item may be written, and no word of it is a live macro
  pub IsGood : (hidden : List ℕ → Bool) → Print → Type 0
  IsGood hidden (single one) = AllByRecursion (IsPut hidden) (single_written one)
  IsGood hidden (pieces hex first others) = AllByRecursion AreBytes (first ∷ others)
  IsGood hidden (block items) = AreGood hidden items
  IsGood hidden (named_block name items) = IsName name × (hidden name ≡ false) × AreGood hidden items

  pub AreGood : (hidden : List ℕ → Bool) → Prints → Type 0
  AreGood hidden no_prints = Unit {0}
  AreGood hidden (print item others) = IsGood hidden item × AreGood hidden others

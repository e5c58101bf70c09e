-- How many braces of printed items stand in each other. (MPW Rez bounds the depth of brackets.)
use Rattle.std.specs.Prelude.{ℕ, suc, max}
use Rattle.rz_show_lines.specs.Print.{block, in_group, named_block, no_prints, pieces, print, single, Print, Prints, Single}

abbrev pub single_height : Single → ℕ
single_height (in_group numbers) = 1
single_height one = 0

abbrev mutual
  pub height : Print → ℕ
  height (single one) = single_height one
  height (pieces hex first others) = 0
  height (block items) = suc (heights items)
  height (named_block name items) = suc (heights items)

  pub heights : Prints → ℕ
  heights no_prints = 0
  heights (print one others) = max (height one) (heights others)

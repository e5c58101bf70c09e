use Rattle.std.proofs.Common.{◌≡◌, ◌+◌, ◌<◌, ◌++◌, ◌∷◌, [], drop, map}
use Rattle.std.specs.List.{AllByRecursion}
use Rattle.rz_hqx.specs.Letters.{letter}
use Rattle.rz_hqx.specs.Text.{in_lines, lines_of}
use Rattle.rz_hqx.proofs.text.lines_of.Given as goal

abbrev pub invariant-loop-position : goal.invariant-loop-position
invariant-loop-position l = record {
  so_far : l.out ++ in_lines (l.position + 1) (map letter (drop l.position l.numbers) ++ 58 ∷ []) ++ 10 ∷ [] ≡ lines_of l.numbers;
  small : AllByRecursion (λ n. n < 64) (drop l.position l.numbers);
}

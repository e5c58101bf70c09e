use Rattle.std.proofs.Common.{◌≡◌, ℕ, Bool, List, drop}
use Rattle.rz_types_fields.specs.declared.tree.Tree.{Tree}
use Rattle.rz_types.specs.Field.{plain_body}
use Rattle.rz_show.specs.Lines.{IsSound}
use Rattle.rz_show_lines.specs.Print.{Prints}
use Rattle.rz_show.specs.Shown.{row_prints}
use Rattle.rz_show.proofs.open_list.passed.Given as goal

abbrev pub invariant-loop-k : goal.invariant-loop-k
invariant-loop-k l = record {
  same : (hidden : List ℕ → Bool) → (row : List Tree) → (more : Prints) → row_prints hidden (plain_body (drop l.k l.fields)) row more ≡ row_prints hidden (plain_body l.fields) row more;
  sound : IsSound (plain_body l.fields) → IsSound (plain_body (drop l.k l.fields));
}

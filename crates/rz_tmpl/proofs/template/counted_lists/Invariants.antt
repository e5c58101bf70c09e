use Rattle.std.proofs.Common.{◌≡◌, ◌+◌, ◌≤◌, drop}
use Rattle.rz_tmpl.specs.Parts.{starts_in}
use Rattle.rz_tmpl.proofs.template.counted_lists.Given as goal

abbrev pub invariant-loop-entry : goal.invariant-loop-entry
invariant-loop-entry l = (l.lists + starts_in (drop l.entry-index l.entries) ≡ starts_in l.entries) × (l.lists ≤ l.entry-index)

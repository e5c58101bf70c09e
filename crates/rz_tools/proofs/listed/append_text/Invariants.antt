use Rattle.std.proofs.Common.{◌≡◌, ◌++◌, drop}
use Rattle.rz_catalog_text.specs.Text.{entries_text}
use Rattle.rz_tools.proofs.listed.append_text.Given as goal

abbrev pub invariant-loop-entry : goal.invariant-loop-entry
invariant-loop-entry l = l.text ++ entries_text (drop l.entry-index l.entries) ≡ l.fn.text ++ entries_text l.entries

use Rattle.std.proofs.Common.{length}
use Rattle.rz_catalog_text.proofs.Chunks.{AreFirst}
use Rattle.rz_catalog_text.proofs.read.read_entries.Given as goal

abbrev pub invariant-chunks : goal.invariant-chunks
invariant-chunks l = AreFirst l.tokens l.entries l.rest

abbrev pub decreases-chunks : goal.decreases-chunks
decreases-chunks l = length l.rest

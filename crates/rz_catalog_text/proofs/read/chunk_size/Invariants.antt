use Rattle.std.proofs.Common.{◌≡◌, ◌+◌, length}
use Rattle.rz_catalog_text.specs.Read.{chunk_size}
use Rattle.rz_catalog_text.proofs.read.chunk_size.Given as goal

abbrev pub invariant-loop-first : goal.invariant-loop-first
invariant-loop-first l = record {
  size : chunk_size l.tokens ≡ l.size + chunk_size l.rest;
  within : l.size + length l.rest ≡ length l.tokens;
}

abbrev pub decreases-loop-first : goal.decreases-loop-first
decreases-loop-first l = length l.rest

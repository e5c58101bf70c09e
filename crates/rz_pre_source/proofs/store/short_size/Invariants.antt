use Rattle.std.proofs.Common.{◌≡◌, ◌+◌, drop, length}
use Rattle.rz_pre_source.specs.Store.{bytes_of, AreShort}
use Rattle.rz_pre_source.proofs.store.short_size.Given as goal

abbrev pub invariant-loop-token : goal.invariant-loop-token
invariant-loop-token l = record {
  counted : l.size + length (bytes_of (drop l.token-index l.tokens)) ≡ length (bytes_of l.tokens);
  short : AreShort (drop l.token-index l.tokens) → AreShort l.tokens;
}

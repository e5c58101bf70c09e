use Rattle.std.proofs.Common.{◌≡◌, ◌+◌, ◌≤◌, ◌++◌, drop, length}
use Rattle.std.specs.Prelude.{vec_len, vec_capacity}
use Rattle.rz_pre_source.specs.Store.{bytes_of, pieces_of, AreShort}
use Rattle.rz_pre_source.proofs.store.append_reserved.Given as goal

abbrev pub invariant-loop-token : goal.invariant-loop-token
invariant-loop-token l = record {
  pieces : l.pieces.items ++ pieces_of (drop l.token-index l.tokens) ≡ l.initial.pieces.items ++ pieces_of l.tokens;
  bytes : l.bytes.items ++ bytes_of (drop l.token-index l.tokens) ≡ l.initial.bytes.items ++ bytes_of l.tokens;
  short : AreShort (drop l.token-index l.tokens);
  room_for_pieces : vec_len l.pieces + length (drop l.token-index l.tokens) ≤ vec_capacity l.pieces;
  room_for_bytes : vec_len l.bytes + length (bytes_of (drop l.token-index l.tokens)) ≤ vec_capacity l.bytes;
}

use Rattle.std.proofs.Common.{◌≡◌, ◌<◌, ℕ, false, length, get_or}
use Rattle.rz_told.proofs.lists.clear.Given as goal

abbrev pub invariant-loop-id : goal.invariant-loop-id
invariant-loop-id l = record {
  long : length l.marks ≡ 65536;
  clear : (id : ℕ) → id < l.id → get_or l.marks id false ≡ false;
}

use Rattle.std.proofs.Common.{◌≡◌, ◌+◌, ◌*◌, ◌≤◌, drop}
use Rattle.rz_hqx.specs.Held.{decoded_in, read_on, IsSix}
use Rattle.rz_hqx.proofs.Lettered.{made_behind}
use Rattle.rz_hqx.proofs.body.decoded_in.Given as goal

abbrev pub invariant-loop-byte : goal.invariant-loop-byte
invariant-loop-byte l = record {
  so_far : made_behind (λ numbers. read_on l.letters numbers) l.at (drop l.byte-index l.body) ≡ decoded_in l.place l.body;
  at : l.at ≡ l.place + l.byte-index;
  place : l.letters.codes.place ≤ 2 * l.byte-index;
  six : IsSix l.letters.group;
}

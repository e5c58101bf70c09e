use Rattle.std.proofs.Common.{◌≡◌, ◌+◌, ◌≤◌, ◌-◌, drop, length}
use Rattle.rz_lex.specs.Joined.{joined}
use Rattle.rz_lex.proofs.joined.next_byte.Given as goal

abbrev pub invariant-loop-rest : goal.invariant-loop-rest
invariant-loop-rest l = record {
  same : joined l.line l.rest ≡ joined l.fn.place.line l.fn.place.rest.now;
  within : l.line + length l.rest ≤ l.fn.place.line + length l.fn.place.rest.now;
  shorter : length l.rest ≤ length l.fn.place.rest.now;
  suffix : l.rest ≡ drop (length l.fn.place.rest.now - length l.rest) l.fn.place.rest.now;
}

abbrev pub decreases-loop-rest : goal.decreases-loop-rest
decreases-loop-rest l = length l.rest

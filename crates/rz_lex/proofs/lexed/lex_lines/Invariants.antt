use Rattle.std.proofs.Common.{◌+◌, ◌≤◌, ◌^◌, length}
use Rattle.rz_lex.specs.Joined.{ahead, joined}
use Rattle.rz_lex.proofs.LexedTo.{LexedTo}
use Rattle.rz_lex.proofs.lexed.lex_lines.Given as goal

abbrev pub invariant-lines : goal.invariant-lines
invariant-lines l = record {
  lexed : LexedTo l.file (joined 1 l.text) (ahead l.place) l.tokens;
  within : l.place.line + length l.place.rest.now ≤ 2 ^ 32;
}

abbrev pub decreases-lines : goal.decreases-lines
decreases-lines l = length l.place.rest.now

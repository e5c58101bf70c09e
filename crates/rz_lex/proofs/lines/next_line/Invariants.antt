use Rattle.std.proofs.Common.{◌≡◌, ◌<◌, ◌⊎◌, length}
use Rattle.rz_lex.specs.Joined.{ahead, IsOn}
use Rattle.rz_lex.specs.Lines.{mark_of}
use Rattle.rz_lex.proofs.OneLine.{LineSoFar}
use Rattle.rz_lex.proofs.lines.next_line.Given as goal

abbrev pub invariant-loop-byte : goal.invariant-loop-byte
invariant-loop-byte l = record {
  so_far : LineSoFar (ahead l.start) (ahead l.place) l.bytes;
  mark : l.mark ≡ mark_of l.file (ahead l.start);
  on : IsOn l.start l.place;
  moved : (length l.place.rest.now < length l.start.rest.now) ⊎ (ahead l.place ≡ ahead l.start);
}

abbrev pub decreases-loop-byte : goal.decreases-loop-byte
decreases-loop-byte l = length l.place.rest.now

use Rattle.std.proofs.Common.{◌≡◌, ◌++◌, length}
use Rattle.rz_lex.specs.Joined.{ahead, IsOn}
use Rattle.rz_lex.specs.Cover.{after_quote, bytes_of}
use Rattle.rz_lex.proofs.cover.copy_quoted.Given as goal

abbrev pub invariant-loop-behind : goal.invariant-loop-behind
invariant-loop-behind l = record {
  same : after_quote l.quote (ahead l.place) ≡ after_quote l.quote (ahead l.fn.start);
  copied : l.fn.out ++ bytes_of (ahead l.fn.start) ≡ l.out ++ bytes_of (ahead l.place);
  on : IsOn l.fn.start l.place;
}

abbrev pub decreases-loop-behind : goal.decreases-loop-behind
decreases-loop-behind l = length l.place.rest.now

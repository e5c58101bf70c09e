use Rattle.std.proofs.Common.{◌≡◌, length}
use Rattle.rz_lex.specs.Joined.{ahead, IsOn}
use Rattle.rz_lex.specs.Cover.{after_text}
use Rattle.rz_lex.proofs.cover.skip_text.Given as goal

abbrev pub invariant-loop-byte : goal.invariant-loop-byte
invariant-loop-byte l = record { same : after_text (ahead l.place) ≡ after_text (ahead l.fn.start); on : IsOn l.fn.start l.place }

abbrev pub decreases-loop-byte : goal.decreases-loop-byte
decreases-loop-byte l = length l.place.rest.now

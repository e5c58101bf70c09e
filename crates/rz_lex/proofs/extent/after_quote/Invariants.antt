use Rattle.std.proofs.Common.{◌≡◌, length}
use Rattle.rz_lex.specs.Scan.{after_quote}
use Rattle.rz_lex.proofs.extent.after_quote.Given as goal

abbrev pub invariant-loop-byte : goal.invariant-loop-byte
invariant-loop-byte l = after_quote l.quote l.rest ≡ after_quote l.quote l.fn.start

abbrev pub decreases-loop-byte : goal.decreases-loop-byte
decreases-loop-byte l = length l.rest

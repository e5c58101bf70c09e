use Rattle.std.proofs.Common.{◌+◌}
use Rattle.rz_pre_source.proofs.Turned.{Turned}
use Rattle.rz_pre_source.proofs.source.turn_characters.Given as goal

abbrev pub invariant-loop-offset : goal.invariant-loop-offset
invariant-loop-offset l = Turned l.text (3 + l.offset-iterator.at) l.bytes l.offset-iterator.rest.now

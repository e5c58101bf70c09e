use Rattle.std.proofs.Common.{arith}
use Rattle.std.proofs.lemmas.Int.{ints}
use Rattle.rz_layout.proofs.Noted.{note_placed}
use Rattle.rz_layout.proofs.late.note_place.Goals as goal

pub returns-clause-known : goal.returns-clause-known
returns-clause-known c = note_placed c.args.name c.args.notes.now.items c.push.new.self.items _ c.args.at c.in_ok-push.ensures.items (omega (arith, ints))

use Rattle.std.proofs.Common.{◌+◌, ◌%◌, ◌/◌, refl}
use Rattle.rz_bits.proofs.Windows.{number_is}
use Rattle.rz_bits.proofs.bit_view.number_in.Goals as goal

pub returns-clause-number : goal.returns-clause-number
returns-clause-number c =
    number_is c.args.bytes.now c.args.place c.args.width ((c.args.place % 8 + c.args.width + 7) / 8) c.gathered-number.result c.requires.width c.requires.within refl c.gathered-number.ensures.bits

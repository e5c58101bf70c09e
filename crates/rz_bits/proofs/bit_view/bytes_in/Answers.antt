use Rattle.rz_bits.proofs.Windows.{whole}
use Rattle.rz_bits.proofs.bit_view.bytes_in.Goals as goal

pub returns : goal.returns
returns c = whole c.args.bytes.now c.args.first c.args.count c.requires (λ k. (c.type_inv.bytes k).fits)

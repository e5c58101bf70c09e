use Rattle.std.proofs.Common.{◌++◌, ◌∙◌, ap, drop, length, replicate}
use Rattle.rz_bridge.specs.Places.{piece}
use Rattle.rz_bridge.proofs.Padding.{info_is}
use Rattle.rz_bridge.proofs.apple_in.info_of.Goals as goal

pub returns : goal.returns
unfolding piece
returns c =
    ap (λ l. l ++ drop (length c.piece_at-given.result.now) (replicate 32 0)) c.copy_from_slice.ensures.after
    ∙ info_is c.args.bytes.now c.piece_at-given.result.now c.piece_at-given.ensures.piece

use Rattle.std.proofs.Common.{◌≡◌, w32, ap, ◌∙◌, arith}
use Rattle.std.specs.Prelude.{nat_abs}
use Rattle.std.proofs.lemmas.Int.{to_z-of_z}
use Rattle.rz_unlay_pieces.proofs.PieceSteps.{seen_length}
use Rattle.rz_unlay_pieces.proofs.number.read_stored.Goals as goal

pub mark_bits-requires-clause-room : goal.mark_bits-requires-clause-room
mark_bits-requires-clause-room c =
    let width : c.unsigned_abs-bits.result ≡ nat_abs c.args.width = c.unsigned_abs-bits.ensures.value ∙ ap nat_abs (to_z-of_z w32 c.args.width c.ranges.width) in
    let long = seen_length c.args.spot.now.view.now.bytes.now in
    let short = c.args.spot.now.view.now.short in
    let within = c.requires.within in
    omega (arith, width, long, short, within)

pub overflow_add-result : goal.overflow_add-result
overflow_add-result c =
    let width : c.unsigned_abs-bits.result ≡ nat_abs c.args.width = c.unsigned_abs-bits.ensures.value ∙ ap nat_abs (to_z-of_z w32 c.args.width c.ranges.width) in
    let long = seen_length c.args.spot.now.view.now.bytes.now in
    let short = c.args.spot.now.view.now.short in
    let within = c.requires.within in
    record { fits = omega (arith, width, long, short, within) }

use Rattle.std.proofs.Common.{◌++◌, arith}
use Rattle.std.proofs.lemmas.Result.{on_ok_weaker}
use Rattle.rz_catalog_text.specs.Text.{pieces_text}
use Rattle.rz_catalog_text.proofs.Lines.{ends, goes_on}
use Rattle.rz_catalog_text.proofs.write.append_pieces.Goals as goal

pub pieces-preserved : goal.pieces-preserved
pieces-preserved c =
    let cut = c.split_at.ensures in
    goes_on (c.args.into.now ++ pieces_text c.args.text.now) c.pieces.into c.append_piece.new.into c.pieces.rest.now c.split_at.result.0.now c.split_at.result.1.now c.pieces.invariant c.in_ok-append_piece.ensures
    cut.by_index.0 cut.front_len (omega (arith, cut.back_len, c.pieces-test.true))

pub returns : goal.returns
returns c =
    on_ok_weaker c.append_piece-2.result (λ put. ends (c.args.into.now ++ pieces_text c.args.text.now) c.pieces.into c.append_piece-2.new.into c.pieces.rest.now c.pieces.invariant c.pieces-test.false put)
    c.append_piece-2.ensures

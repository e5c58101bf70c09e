use Rattle.std.proofs.Common.{◌∙◌, arith}
use Rattle.rz_show_lines.proofs.Pieces.{first_piece, last_piece}
use Rattle.rz_show_lines.proofs.text.Text.front.Goals as goal

pub returns-then-self-size : goal.returns-then-self-size
returns-then-self-size c = λ depth behind. last_piece depth behind c.args.self.hex c.args.self.bytes.now (omega (arith, c.if-self-size.true, c.piece_size-size.ensures))

pub returns : goal.returns
returns c = λ depth behind.
    let h = c.split_at.ensures in
    first_piece depth behind c.args.self.hex c.args.self.bytes.now c.split_at.result.0.now c.split_at.result.1.now h.by_index.0 (h.front_len ∙ c.piece_size-size.ensures)
    (omega (arith, h.back_len, c.if-self-size.false))

use Rattle.std.proofs.Common.{◌≡◌, length, ap, sym, ◌∙◌}
use Rattle.rz_show_lines.specs.Texts.{behind_piece}
use Rattle.rz_show.specs.Lines.{comma_if, left, level, outside}
use Rattle.rz_show_lines.specs.Print.{comma}
use Rattle.rz_show.proofs.Nested.{last_behind, none_behind, none_or_some, piece_given}
use Rattle.rz_show.proofs.items.Items.piece.Goals as goal
use Rattle.rz_show.proofs.items.Items.piece.Goals.{then-is_none, else-is_none}

pub returns-clause-line : goal.returns-clause-line
returns-clause-line c = λ hidden.
    let items = c.args.self.now in
    let front = c.front-front.result in
    let behind = comma (left hidden items.list) in
    let none = none_or_some front.rest c.is_none.result c.is_none.ensures in
    let second : behind_piece front.rest behind ≡ comma_if c.if-is_none.behind = elim c.if-is_none.branch [
      | then-is_none w ↦ last_behind front.rest behind (sym none ∙ w.if-is_none.true) ∙ w.has_more-behind.ensures hidden ∙ ap comma_if (sym w.behind-is)
      | else-is_none w ↦ none_behind front.rest behind (sym none ∙ w.if-is_none.false) ∙ ap comma_if (sym w.if-is_none.false ∙ sym w.behind-is)
    ] in
    piece_given hidden c.depth.result c.args.text.hex c.args.text.bytes.now front.piece.now front.rest items.list (outside items) c.if-is_none.behind c.piece_line.new.line
    c.depth.ensures (c.front-front.ensures (level (length (outside items))) behind) second c.piece_line.ensures

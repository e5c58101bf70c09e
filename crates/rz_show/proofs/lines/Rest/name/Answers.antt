use Rattle.std.proofs.Common.{◌++◌, ◌∷◌, List, ap, sym, ◌∙◌}
use Rattle.std.specs.Option.{is_none}
use Rattle.rz_show_lines.specs.Cut.{cut}
use Rattle.rz_show.specs.declared.lines.Part.{Part}
use Rattle.rz_show.specs.Head.{head_end}
use Rattle.rz_show.specs.Lines.{end_if, part_left}
use Rattle.rz_show_lines.specs.Print.{margin, piece_written}
use Rattle.rz_show_lines.specs.Written.{as_line, Written}
use Rattle.rz_show.proofs.Heads.{name_front, same_part}
use Rattle.rz_show.proofs.Nested.{none_or_some}
use Rattle.rz_show.proofs.lines.Rest.name.Goals as goal

pub returns-clause-line : goal.returns-clause-line
returns-clause-line c =
    let rest = c.args.self.now in
    let front = c.front-front.result in
    let part = c.part_behind-self.result in
    let attr = rest.facts.now.attr in
    let one : List Written = margin 1 ++ piece_written c.args.text.hex front.piece.now ∷ end_if (is_none front.rest) attr in (
      one,
      name_front rest c.args.text front.piece.now front.rest (c.front-front.ensures 1 (head_end attr))
          ∙ ap (λ (p : Part). one ∷ part_left rest p) (sym c.part_behind-self.ensures)
          ∙ ap (λ (r : List (List Written)). one ∷ r) (sym (same_part rest part part)),
      c.name_line.ensures ∙ (λ i. cut (as_line (margin 1 ++ piece_written c.args.text.hex front.piece.now ∷ end_if (none_or_some front.rest c.is_none.result c.is_none.ensures i) attr))),
    )

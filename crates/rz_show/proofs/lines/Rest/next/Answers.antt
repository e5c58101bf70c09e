use Rattle.std.proofs.Common.{◌∷◌, ◌++◌, List, ap, sym, ◌∙◌}
use Rattle.rz_show_lines.specs.Head.{head_front}
use Rattle.rz_show.specs.Lines.{end_left, named, part_left}
use Rattle.rz_show_lines.specs.Written.{Written}
use Rattle.rz_show.proofs.Heads.{behind_head_is, head_is, same_part}
use Rattle.rz_show.proofs.lines.Rest.next.Goals as goal

pub returns-in-Head-clause-line : goal.returns-in-Head-clause-line
returns-in-Head-clause-line c =
    let rest = c.args.self.now in
    let facts = rest.facts.now in
    let part = c.behind_head-self.result in
    let one : List Written = head_front rest.word.now facts.kind.code facts.id ++ named facts.name facts.attr in (
      one,
      ap (part_left rest) c.in-Head.is
          ∙ ap (λ (r : List (List Written)). r ++ end_left rest) (head_is rest.word.now facts.kind.code facts.id facts.name facts.attr)
          ∙ ap (λ (r : List (List Written)). one ∷ r) (sym (behind_head_is rest part c.behind_head-self.ensures) ∙ sym (same_part rest part part)),
      c.head_line.ensures,
    )

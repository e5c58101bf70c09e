use Rattle.std.proofs.Common.{◌≡◌, ◌++◌, ◌∷◌, List, length, None, option_map, ap, sym, ◌∙◌}
use Rattle.rz_show.specs.declared.entry.Entry.{Entry}
use Rattle.rz_show.specs.Lines.{behind_lines, entry_print, items_left, left, level, open_lines, opening, outside}
use Rattle.rz_show_lines.specs.Print.{comma, margin, print_lines}
use Rattle.rz_show_lines.specs.Written.{Written}
use Rattle.rz_show.proofs.Nested.{block_front}
use Rattle.rz_show.proofs.items.Items.begin.Goals as goal

pub returns-in-Text-clause-line : goal.returns-in-Text-clause-line
returns-in-Text-clause-line c = λ hidden. rw c.in-Text.is (c.piece.ensures.line hidden)

pub returns-in-Block-clause-line : goal.returns-in-Block-clause-line
returns-in-Block-clause-line c = λ hidden.
    let name = option_map (λ n. n.now) c.in-Block.name in
    let list = c.args.self.now.list in
    let outer = outside c.args.self.now in
    let depth = level (length outer) in
    let ends = c.enter.ensures in
    let rest : items_left hidden c.enter.new.self ≡ open_lines hidden None c.in-Block.inner (list ∷ outer) = (λ i. open_lines hidden ((ends.text ∙ c.requires.text) i) (ends.list i) (ends.outer i)) in (
      margin depth ++ opening name,
      ap (λ (entry : Entry). print_lines depth (comma (left hidden list)) (entry_print hidden entry) ++ behind_lines hidden list outer) c.in-Block.is
          ∙ block_front hidden name c.in-Block.inner list outer
          ∙ ap (λ (r : List (List Written)). (margin depth ++ opening name) ∷ r) (sym rest),
      ends.line,
    )

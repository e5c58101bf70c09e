use Rattle.std.proofs.Common.{ℕ, List, ◌∷◌, map, ap, sym, subst, ◌∙◌}
use Rattle.std.specs.List.{AllByRecursion}
use Rattle.rz_show.specs.Lines.{lines_left}
use Rattle.rz_show_lines.specs.Cut.{IsShort}
use Rattle.rz_show_lines.specs.Written.{as_line}
use Rattle.rz_show_lines.proofs.Writes.{cut_short}
use Rattle.rz_show.proofs.lines.ShowLines.next.Goals as goal

pub returns : goal.returns
returns c =
    let gives = c.in_ok-next.ensures.line in
    let short = (subst (AllByRecursion IsShort) gives.1 c.self.invariant.short).0 in
    sym c.self.view_is
    ∙ ap (map as_line) gives.1
    ∙ ap (λ (line : List ℕ). line ∷ map as_line (lines_left c.next.new.self)) (sym (cut_short (as_line gives.0) short) ∙ sym gives.2)

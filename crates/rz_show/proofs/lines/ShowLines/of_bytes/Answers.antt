use Rattle.std.proofs.Common.{map, refl, sym, ap, subst, ◌∙◌}
use Rattle.std.specs.List.{AllByRecursion}
use Rattle.rz_core.specs.declared.facts.Facts.{Facts}
use Rattle.rz_show.specs.Lines.{hidden_in, IsWithout}
use Rattle.rz_show_lines.specs.Cut.{IsShort}
use Rattle.rz_show.specs.Statement.{data_lines}
use Rattle.rz_show_lines.specs.Written.{as_line}
use Rattle.rz_show.proofs.Heads.{data_left, ready_without}
use Rattle.rz_show.proofs.Short.{data_short}
use Rattle.rz_show.proofs.lines.ShowLines.of_bytes.Goals as goal

pub invariant_of-result : goal.invariant_of-result
invariant_of-result c =
    let rest = c.new-rest.result in
    let is = c.new-rest.ensures in
    let without : IsWithout rest.items.list = subst IsWithout (sym is.list) c.default.ensures in
    let fits = data_short c.args.facts.now c.args.bytes.now c.id_fits.ensures in
    record {
      items = ready_without (hidden_in rest) rest.items is.outer without;
      short = subst (AllByRecursion IsShort) (sym (data_left rest _ is.part is.word refl is.text without is.outer ∙ ap (λ (f : Facts). data_lines f c.args.bytes.now) is.facts)) fits;
    }

pub returns : goal.returns
returns c =
    let rest = c.new-rest.result in
    let is = c.new-rest.ensures in
    let without : IsWithout rest.items.list = subst IsWithout (sym is.list) c.default.ensures in
    ap (map as_line) (data_left rest _ is.part is.word refl is.text without is.outer ∙ ap (λ (f : Facts). data_lines f c.args.bytes.now) is.facts)

use Rattle.std.proofs.Common.{◌≡◌, codes, map, option_map, sym, ap, subst, ◌∙◌, arith}
use Rattle.std.specs.List.{AllByRecursion}
use Rattle.rz_core.specs.declared.facts.Facts.{Facts}
use Rattle.rz_types.specs.Field.{plain_body}
use Rattle.rz_types.proofs.Cased.{names_apart}
use Rattle.rz_show.specs.Height.{heights}
use Rattle.rz_show.specs.Hidden.{hides, hides_in}
use Rattle.rz_show.specs.Lines.{hidden_in, left, lines_left, IsOpen}
use Rattle.rz_show_lines.specs.Cut.{IsShort}
use Rattle.rz_show.specs.Statement.{row_items, row_lines, statement_lines}
use Rattle.rz_show_lines.specs.Written.{as_line}
use Rattle.rz_show.proofs.Heads.{ready_first, resource_left, row_fits}
use Rattle.rz_show.proofs.Names.{shaped_names}
use Rattle.rz_show.proofs.Short.{row_short}
use Rattle.rz_show.proofs.Widths.{kept_widths}
use Rattle.rz_show.proofs.lines.ShowLines.of_tree.Goals as goal

pub of_row-list-requires : goal.of_row-list-requires
of_row-list-requires c =
    let body = plain_body c.args.fields.now in
    let kept = c.rules_hold_within.ensures body c.requires.kept in
    (kept_widths body c.requires.shaped kept, shaped_names body c.requires.shaped, names_apart body kept)

-- what the lines are
are : (c : goal.After-new-rest) → lines_left c.new-rest.result ≡ row_lines (hides c.args.hidden.now) c.args.facts.now (plain_body c.args.fields.now) c.args.row.now
are c =
    let rest = c.new-rest.result in
    let is = c.new-rest.ensures in
    let body = plain_body c.args.fields.now in
    let row = c.args.row.now in
    let hidden = hides c.args.hidden.now in
    let list : left (hidden_in rest) rest.items.list ≡ row_items hidden body row =
    (λ i. left (hides_in (option_map (λ h. h.now) (is.hidden i))) (is.list i)) ∙ c.of_row-list.ensures.left hidden in
    resource_left rest (row_items hidden body row) is.part is.word is.text list is.outer
    ∙ ap (λ (f : Facts). statement_lines (codes "resource") f.kind.code f.id f.name f.attr (row_items hidden body row)) is.facts

pub invariant_of-result : goal.invariant_of-result
invariant_of-result c =
    let rest = c.new-rest.result in
    let is = c.new-rest.ensures in
    let body = plain_body c.args.fields.now in
    let row = c.args.row.now in
    let high = ap heights ((λ i. left (hidden_in rest) (is.list i)) ∙ c.of_row-list.ensures.left (hidden_in rest)) in
    let fits = row_fits (hidden_in rest) body row c.requires.shaped in
    record {
      items = ready_first (hidden_in rest) rest.items is.outer (subst IsOpen (sym is.list) c.of_row-list.ensures.settled) (omega (arith, high, fits));
      short = subst (AllByRecursion IsShort) (sym (are c))
          (row_short (hides c.args.hidden.now) c.args.facts.now body row c.id_fits.ensures c.requires.shaped (c.rules_hold_within.ensures body c.requires.kept) c.requires.is);
    }

pub returns : goal.returns
returns c = ap (map as_line) (are c)

use Rattle.std.proofs.Common.{ℕ, Bool, List, ◌++◌, length, Option, option_map, ap, sym, ◌∙◌}
use Rattle.rz_types.specs.Field.{plain_field}
use Rattle.rz_show_lines.specs.declared.text.Text.{Text}
use Rattle.rz_show.specs.Lines.{behind_lines, left, level, open_lines, outside}
use Rattle.rz_show_lines.specs.Print.{comma, print_lines, Print}
use Rattle.rz_show.specs.Shown.{field_print}
use Rattle.rz_show.specs.Hidden.{hides_in}
use Rattle.rz_show.proofs.Nested.{item_front}
use Rattle.rz_show.proofs.items.Items.next.Goals as goal

pub returns-in-Some-clause-line : goal.returns-in-Some-clause-line
returns-in-Some-clause-line c =
    let hidden : List ℕ → Bool = hides_in (option_map (λ h. h.now) c.args.hidden) in
    let items = c.args.self.now in
    let gives = c.piece.ensures.line hidden in
    (gives.0, ap (λ (text : Option Text). open_lines hidden text items.list (outside items)) c.in-Some.is ∙ gives.1, gives.2)

pub returns-in-Some-first-clause-line : goal.returns-in-Some-first-clause-line
returns-in-Some-first-clause-line c =
    let hidden : List ℕ → Bool = hides_in (option_map (λ h. h.now) c.args.hidden) in
    let items = c.args.self.now in
    let outer = outside items in
    let item = c.in-Some-first.item in
    let gives = c.begin.ensures.line hidden in (
      gives.0,
      ap (λ (text : Option Text). open_lines hidden text items.list outer) c.in_default.is
          ∙ item_front hidden (field_print hidden (plain_field item.field.now) (option_map (λ v. v.now) item.value)) items.list item.others outer (c.in-Some-first.ensures.shows hidden)
          ∙ ap (λ (p : Print). print_lines (level (length outer)) (comma (left hidden item.others)) p ++ behind_lines hidden item.others outer) (sym c.entry_of-entry.ensures.print)
          ∙ gives.1,
      gives.2,
    )

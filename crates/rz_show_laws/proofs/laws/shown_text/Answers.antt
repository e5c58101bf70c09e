use Rattle.rz_show_laws.proofs.Shown.{printed_as}
use Rattle.rz_show_laws.proofs.laws.shown_text.Goals as goal

pub returns : goal.returns
returns c = printed_as (record {
  cut = c.printed_line.ensures;
  lines = c.lines_of_page.ensures;
  kept = c.rules_hold_within.ensures;
  rows = c.printed_rows.ensures;
  printed = c.printed_lines.ensures;
  in_front = c.printed_page.ensures;
})

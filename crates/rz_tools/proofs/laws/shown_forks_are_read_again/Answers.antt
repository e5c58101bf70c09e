use Rattle.std.proofs.Common.{[]}
use Rattle.rz_fork.specs.Contents.{FitsFork}
use Rattle.rz_tools_text.specs.Chosen.{chosen}
use Rattle.rz_tools.proofs.Again.{means_again}
use Rattle.rz_tools_text.proofs.Choice.{all_chosen, differ_chosen}
use Rattle.rz_tools.proofs.laws.shown_forks_are_read_again.Goals as goal

pub returns : goal.returns
returns c bytes file fork admits only skip short known spares text shows =
    let fits = c.admitted_forks_fit.ensures bytes file.0 fork admits in
    means_again
    (record {
      rows = c.spelled_rows_are_rows.ensures.plainly;
      plain = c.plain_rows_are_spelled.ensures;
      short = c.spelled_texts.ensures.plain_short;
      bytes = c.spelled_texts.ensures.bytes;
      printed = c.shown_text.ensures;
    })
    known spares (chosen only skip fork.list) text shows (all_chosen only skip FitsFork fork.list fits.1) short
    (differ_chosen only skip [] [] fork.list (λ r none. none) fits.0)

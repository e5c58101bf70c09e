use Rattle.std.proofs.Common.{◌<◌, ◌^◌, ℕ, List, length, ap, sym, subst, ◌∙◌}
use Rattle.rz_bridge.specs.Apple.{apple_content, data_beside}
use Rattle.rz_bridge.proofs.Again.{apple_again, apple_short}
use Rattle.rz_bridge.proofs.apple_out.write_apple.Goals as goal

pub returns-clause-again : goal.returns-clause-again
returns-clause-again c =
    let made = c.in_ok-write_image.ensures in
    let forks = c.in_default.ensures in
    ap (λ (l : List ℕ). apple_content c.args.form l (data_beside c.args.form c.args.file.now)) made.image
    ∙ apple_again c.args.form c.args.file.now made.fields made.dates forks.data_fork forks.res_fork

pub returns-clause-short : goal.returns-clause-short
returns-clause-short c =
    let made = c.in_ok-write_image.ensures in
    let forks = c.in_default.ensures in
    subst (λ (l : List ℕ). length l < 2 ^ 32) (sym made.image) (apple_short c.args.form c.args.file.now made.fields made.dates forks.data_fork forks.res_fork)

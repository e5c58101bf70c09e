use Rattle.std.proofs.Common.{◌<◌, ◌^◌, ℕ, List, length, ap, sym, subst, ◌∙◌}
use Rattle.rz_bridge.specs.MacBinary.{macbin_content}
use Rattle.rz_bridge.proofs.Image.{IsWritable, macbin_again, macbin_short}
use Rattle.rz_bridge.proofs.macbin_out.macbin_write.Goals as goal

pub returns-clause-again : goal.returns-clause-again
returns-clause-again c =
    let made = c.in_ok-write_image.ensures in
    let found = c.in_default.ensures in
    let writable : IsWritable c.args.file.now = record {
      stored = made.fields;
      dates = made.dates;
      check = made.check;
      some = found.some;
      name = found.name;
      data_fork = found.data_fork;
      res_fork = found.res_fork;
    } in
    ap macbin_content made.image ∙ macbin_again c.args.file.now writable

pub returns-clause-short : goal.returns-clause-short
returns-clause-short c =
    let made = c.in_ok-write_image.ensures in
    let found = c.in_default.ensures in
    let writable : IsWritable c.args.file.now = record {
      stored = made.fields;
      dates = made.dates;
      check = made.check;
      some = found.some;
      name = found.name;
      data_fork = found.data_fork;
      res_fork = found.res_fork;
    } in
    subst (λ (l : List ℕ). length l < 2 ^ 32) (sym made.image) (macbin_short c.args.file.now writable)

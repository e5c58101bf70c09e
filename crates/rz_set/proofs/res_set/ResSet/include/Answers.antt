use Rattle.std.proofs.Common.{sym, subst}
use Rattle.std.specs.Option.{option_copied}
use Rattle.rz_set.specs.ResSet.{AreNamed}
use Rattle.rz_set.specs.Wanted.{is_included}
use Rattle.rz_set.proofs.Includes.{named_copies}
use Rattle.rz_set.proofs.res_set.ResSet.include.Goals as goal

pub put_each-requires : goal.put_each-requires
put_each-requires c =
    subst AreNamed (sym c.in-Ok-copy_all.ensures)
    (named_copies (option_copied c.args.head) (is_included c.in-Ok.included) c.as_slice-2.result.now c.requires.head (subst AreNamed (sym c.as_slice-2.ensures) c.requires.named))

use Rattle.std.proofs.Common.{sym, subst}
use Rattle.std.specs.Option.{option_copied}
use Rattle.rz_set.specs.ResSet.{AreNamed}
use Rattle.rz_set.specs.Wanted.{is_included}
use Rattle.rz_set.proofs.Includes.{named_copies}
use Rattle.rz_tools_work.proofs.lent.include_each.Goals as goal

pub put_each-requires : goal.put_each-requires
put_each-requires c =
    subst AreNamed (sym c.in_ok-news.ensures)
    (named_copies (option_copied c.args.head) (is_included c.in-Ok.included) c.args.fork.now.list c.requires.head c.requires.named)

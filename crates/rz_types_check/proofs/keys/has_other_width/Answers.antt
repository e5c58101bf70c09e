use Rattle.std.proofs.Common.{sym}
use Rattle.rz_types.specs.Rules.{has_other_width}
use Rattle.rz_types_check.proofs.KeysAlike.{none_there, width_is}
use Rattle.rz_types_check.proofs.keys.has_other_width.Goals as goal

pub returns-in-Some : goal.returns-in-Some
returns-in-Some c =
    let first = rw c.deref.ensures.value at c.in-Some.ensures.value in
    sym (width_is c.args.key.now c.args.before.now.list.items c.in-Some.first.now c.args.before.now.alike (sym first))

pub returns-in-None : goal.returns-in-None
returns-in-None c =
    let none = rw c.deref.ensures.value at c.in-None.ensures.value in
    sym (none_there (has_other_width c.args.key.now) c.args.before.now.list.items (sym none))

use Rattle.std.proofs.Common.{refl}
use Rattle.rz_set.specs.Wanted.{is_wanted}
use Rattle.rz_set.proofs.Removes.{forbidden_removed, removed}
use Rattle.rz_set.proofs.res_set.ResSet.remove.Goals as goal

pub returns-in-Some : goal.returns-in-Some
returns-in-Some c =
    (forbidden_removed c.args.kind c.args.pick.now c.args.over c.args.self.now (is_wanted c.in-Ok.wanted) c.in-Ok.ensures.chooses c.in-Ok.ensures.there c.in-Some.fault c.in-Some.ensures, refl)

pub returns-in-None : goal.returns-in-None
returns-in-None c =
    removed c.args.kind c.args.pick.now c.args.over c.args.self.now (is_wanted c.in-Ok.wanted) c.in-Ok.ensures.chooses c.in-Ok.ensures.there c.take_out.new.self c.in-None.ensures c.take_out.ensures

use Rattle.std.proofs.Common.{map, sym, ◌∙◌}
use Rattle.rz_types_check.proofs.Firsts.{whole}
use Rattle.rz_types_check.proofs.name_list.NameList.has.Goals as goal

pub returns : goal.returns
returns c =
    let is = rw c.deref.ensures.value at c.stands.ensures in
    is ∙ sym (whole (λ key. key.0.now.bytes) c.args.self.now.firsts (map (λ one. one.now) c.args.self.now.list.items) c.args.self.now.found (record { 0 = c.args.name }))

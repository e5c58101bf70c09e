use Rattle.rz_types_check.proofs.Firsts.{found_cut}
use Rattle.rz_types_check.proofs.name_list.NameList.cut.Goals as goal

pub invariant_of-self : goal.invariant_of-self
invariant_of-self c = record {
  found = found_cut (λ key. key.0.now.bytes) (λ one. one.now) c.args.self.now.firsts c.args.self.now.list.items c.truncate.new.self.items c.args.count
      c.truncate.ensures.items c.args.self.now.found;
}

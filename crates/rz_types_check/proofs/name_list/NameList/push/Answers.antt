use Rattle.std.specs.Prelude.{is_ok}
use Rattle.rz_types_check.proofs.Firsts.{found_pushed}
use Rattle.rz_types_check.proofs.name_list.NameList.push.Goals as goal

pub invariant_of-self-2 : goal.invariant_of-self-2
invariant_of-self-2 c =
    let more = rw c.deref.ensures.value at c.in_ok-note.ensures.ok in record {
      found = found_pushed (λ key. key.0.now.bytes) (λ one. one.now) c.note.new.firsts c.args.self.now.list.items c.push.new.self.items c.args.name (is_ok c.push.result)
          c.push.ensures.items (more c.args.self.now.found);
    }

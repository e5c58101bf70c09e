use Rattle.std.proofs.Common.{◌≡◌, ◌≤◌, length}
use Rattle.std.specs.Vec.Iter.{into_iter_items}
use Rattle.indexmap.specs.IndexMap.{spare}
use Rattle.rz_core.specs.Resources.{put_all}
use Rattle.rz_set.specs.Fates.{all_left}
use Rattle.rz_set.specs.ResSet.{values_of, AreKeyed, AreNamed}
use Rattle.rz_set.proofs.entries.insert_left.Given as goal

abbrev pub invariant-loop-resource : goal.invariant-loop-resource
invariant-loop-resource l = record {
  room : length l.resource-iterator ≤ spare l.map;
  named : AreNamed (all_left (into_iter_items l.in_order) l.resource-iterator);
  keyed : AreKeyed l.map.entries;
  values : put_all (values_of l.map.entries) (all_left (into_iter_items l.in_order) l.resource-iterator)
      ≡ put_all (values_of l.fn.map.entries) (all_left l.fn.fates.items (values_of l.fn.old.entries));
}

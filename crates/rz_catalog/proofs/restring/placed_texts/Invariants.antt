use Rattle.std.proofs.Common.{◌≡◌, ◌++◌, [], ◌∷◌, filter, length}
use Rattle.rz_core.specs.Lists.{with_front}
use Rattle.rz_catalog.specs.Apply.{is_entry_for, placed, text_for}
use Rattle.rz_catalog.specs.Leaves.{leaves}
use Rattle.rz_catalog.proofs.restring.placed_texts.Given as goal

abbrev pub invariant-loop-text : goal.invariant-loop-text
invariant-loop-text l = record {
  leaf : l.leaf ≡ length l.yielded;
  rest : leaves l.fn.row ≡ l.yielded ++ l.text-iterator.rest.items;
  texts : l.texts ++ with_front (λ before own. text_for (filter (is_entry_for l.resource) l.entries) (length before) own ∷ []) l.yielded l.text-iterator.rest.items
      ≡ placed (filter (is_entry_for l.resource) l.entries) (leaves l.fn.row);
}

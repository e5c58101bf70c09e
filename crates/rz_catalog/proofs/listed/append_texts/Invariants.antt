use Rattle.std.proofs.Common.{◌≡◌, ◌++◌, [], ◌∷◌, length}
use Rattle.rz_core.specs.Lists.{each_with_front, with_front}
use Rattle.rz_catalog.specs.Catalogue.{entry_of}
use Rattle.rz_catalog.proofs.listed.append_texts.Given as goal

abbrev pub invariant-loop-text : goal.invariant-loop-text
invariant-loop-text l = record {
  leaf : l.leaf ≡ length l.yielded;
  rest : l.fn.texts ≡ l.yielded ++ l.text-iterator.rest.items;
  into : l.into ++ with_front (λ before text. entry_of l.fn.kind l.fn.id (length before) text ∷ []) l.yielded l.text-iterator.rest.items
      ≡ l.fn.into ++ each_with_front (λ before text. entry_of l.fn.kind l.fn.id (length before) text ∷ []) l.fn.texts;
}

use Rattle.std.proofs.Common.{◌≡◌, ◌++◌, length}
use Rattle.std.specs.List.{AllByRecursion}
use Rattle.rz_layout.specs.Laid.{IsWithin}
use Rattle.rz_layout.specs.Late.{numbers_in}
use Rattle.rz_types_fields.specs.Known.{known}
use Rattle.rz_types_fields.specs.Laid.{fill}
use Rattle.rz_layout.proofs.fill.+fill.Given as goal

abbrev pub invariant-fill-loop-one : goal.invariant-fill-loop-one
invariant-fill-loop-one l = record {
  filled : fill l.facts (known l.notes.items) (numbers_in l.one-iterator.rest.items) l.bits ≡ fill l.facts (known l.fn.notes.items) (numbers_in l.fn.late) l.fn.bits;
  within : AllByRecursion (IsWithin (length l.bits)) (numbers_in l.one-iterator.rest.items);
  rest : l.fn.late ≡ l.yielded ++ l.one-iterator.rest.items;
  notes : l.notes.items ≡ l.fn.notes.items;
  length : length l.bits ≡ length l.fn.bits;
}

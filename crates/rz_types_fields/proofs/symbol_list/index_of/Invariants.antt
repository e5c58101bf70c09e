use Rattle.std.proofs.Common.{take}
use Rattle.rz_types_fields.specs.Symbols.{IsIndexOf}
use Rattle.rz_types_fields.proofs.symbol_list.index_of.Given as goal

abbrev pub invariant-loop-position : goal.invariant-loop-position
invariant-loop-position l = IsIndexOf (take l.position l.symbols) l.index

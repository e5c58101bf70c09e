use Rattle.std.specs.Prelude.{nat_abs}
use Rattle.rz_types_fields.proofs.SymbolWalks.{Looked}
use Rattle.rz_types_fields.proofs.symbol_list.name_among.Given as goal

abbrev pub invariant-loop-symbol : goal.invariant-loop-symbol
invariant-loop-symbol l = Looked l.symbols (nat_abs l.width) l.number l.symbol-index

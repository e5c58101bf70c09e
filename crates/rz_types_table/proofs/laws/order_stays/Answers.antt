use Rattle.std.proofs.Common.{◌∷◌, ◌++◌, [], ap, List}
use Rattle.rz_types_table.specs.Table.{stands_at, Declaration}
use Rattle.rz_types_table.proofs.Found.{without_at, without_none}
use Rattle.rz_types_table.proofs.laws.order_stays.Goals as goal

pub returns-clause-added : goal.returns-clause-added
returns-clause-added c table one none = ap (λ (l : List Declaration). l ++ one ∷ []) (without_none (stands_at one.kind one.scope) table none)

pub returns-clause-again : goal.returns-clause-again
returns-clause-again c front behind old one none stands =
    ap (λ (l : List Declaration). l ++ one ∷ []) (without_at (stands_at one.kind one.scope) front behind old none stands)

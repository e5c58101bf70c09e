use Rattle.std.proofs.Common.{ap}
use Rattle.rz_catalog.specs.Leaves.{blank, leaves}
use Rattle.rz_catalog.proofs.Changed.{own_texts}
use Rattle.rz_catalog.proofs.laws.own_texts_change_nothing.Goals as goal

pub returns : goal.returns
returns c old new = (own_texts old new, λ is. record { same = ap blank is; are = ap leaves is })

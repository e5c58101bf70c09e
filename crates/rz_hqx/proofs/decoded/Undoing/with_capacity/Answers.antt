use Rattle.std.proofs.Common.{List, ℕ, ap, ◌∙◌}
use Rattle.rz_hqx.specs.Held.{unpacked_behind}
use Rattle.rz_hqx.proofs.Reading.{unpacked_is}
use Rattle.rz_hqx.proofs.decoded.Undoing.with_capacity.Goals as goal

pub returns-clause-undone : goal.returns-clause-undone
returns-clause-undone c = λ codes. ap (λ (out : List ℕ). unpacked_behind out 0 codes) c.in_ok-with_capacity.ensures ∙ unpacked_is codes

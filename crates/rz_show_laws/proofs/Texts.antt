-- What is read of the pieces of a text.
use Rattle.std.proofs.Common.{◌≡◌, ℕ, List, [], ◌∷◌, ◌++◌, refl, ap}
use Rattle.std.specs.Prelude.{Ok}
use Rattle.std.specs.List.{flat_map}
use Rattle.std.specs.declared.result.Result.{Result}
use Rattle.rz_core.specs.Stop.{◌>>=◌}
use Rattle.rz_core.specs.declared.facts.Facts.{Facts}
use Rattle.rz_core.specs.declared.fault.Fault.{Fault}
use Rattle.rz_core.specs.declared.fault.Mark.{Mark}
use Rattle.rz_types_fields.specs.Text.{bytes_of}
use Rattle.rz_show_laws.specs.Statement.{text_parts}

pub pieces_read : (mark : Mark) (known : Facts) (pieces : List (List ℕ)) → bytes_of mark known (text_parts pieces) ≡ Ok (flat_map (λ piece. piece) pieces)
pieces_read mark known [] = refl
pieces_read mark known (piece ∷ pieces) = ap (λ (r : Result (List ℕ) Fault). r >>= λ more. Ok (piece ++ more)) (pieces_read mark known pieces)

-- Pieces that stand one after the other at a place of some bytes, and what is read of them.
use Rattle.std.proofs.Common.{◌≡◌, ℕ, ◌+◌, List, [], ◌∷◌, ◌++◌, length, take, refl, ap, subst, ◌∙◌, arith, length-append, ℤ, FitsSigned}
use Rattle.std.proofs.lemmas.Int.{to_z-of_z}
use Rattle.std.proofs.lemmas.List.{take_at}
use Rattle.std.specs.Int.{cast_unsigned, cast_signed, w16}
use Rattle.rz_core.proofs.Placed.{Has, has_left, has_right, number_is, bits_small}
use Rattle.rz_core.specs.Numbers.{be}
use Rattle.rz_bridge.specs.Places.{signed, piece}

-- pieces put after a first one
abbrev pub joined : List ℕ → List (List ℕ) → List ℕ
joined front [] = front
joined front (p ∷ ps) = joined (front ++ p) ps

-- each of the pieces stands after those before it
abbrev pub AreAt : List ℕ → ℕ → List (List ℕ) → Type 0
AreAt bytes place [] = Unit {0}
AreAt bytes place (p ∷ ps) = Has bytes place p × AreAt bytes (place + length p) ps

pub all_at : (bytes : List ℕ) (place : ℕ) (front : List ℕ) (ps : List (List ℕ)) → Has bytes place (joined front ps) → Has bytes place front × AreAt bytes (place + length front) ps
all_at bytes place front [] has = (has, tt)
all_at bytes place front (p ∷ ps) has =
    let rest = all_at bytes place (front ++ p) ps has in (
      has_left bytes place front p rest.0,
      (has_right bytes place (place + length front) front p refl rest.0, subst (λ (n : ℕ). AreAt bytes n ps) (omega (arith, length-append front p)) rest.1),
    )

-- what is read of a piece: itself, a signed number
pub piece_is : (bytes : List ℕ) (place : ℕ) (some : List ℕ) → Has bytes place some → piece bytes place (length some) ≡ some
unfolding piece
piece_is bytes place some has = ap (take (length some)) has.is ∙ take_at some has.rest (length some) refl

pub signed_is : (bytes : List ℕ) (place : ℕ) (z : ℤ) → Has bytes place (be 2 (cast_unsigned w16 z)) → FitsSigned w16 z → signed bytes place ≡ z
signed_is bytes place z has fits =
    ap (cast_signed w16) (number_is bytes 2 place (cast_unsigned w16 z) has (omega (arith, bits_small z fits))) ∙ to_z-of_z w16 z fits

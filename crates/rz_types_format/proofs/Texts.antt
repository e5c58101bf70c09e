-- What texts give.
use Rattle.std.specs.Prelude.{◌≡◌, refl, ℕ, suc, ◌==◌, false, List, [], ◌∷◌, Option, Some, None, length, option_map}
use Rattle.std.specs.List.{list_any}
use Rattle.rz_core.proofs.Tests.{or_false, none_some}
use Rattle.std.proofs.Common.{ap, ◌∙◌}
use Rattle.std.specs.Fmt.{◌++?◌}
use Rattle.std.specs.Option.{option_and_then}
use Rattle.rz_types_format.specs.Format.{conversions, converted, filled, formatted, pieces_of, Piece, Copied, Conversion}
use Rattle.rz_types_format.specs.declared.format.Argument.{Argument}
use Rattle.rz_types_format.proofs.Steps.{copied_first}

-- a text without a percent sign
pub plain_text : (text : List ℕ) → list_any (λ byte. byte == 37) text ≡ false → formatted text [] ≡ Some text
plain_text [] none = refl
plain_text (byte ∷ text) none =
    let parts = or_false (byte == 37) (list_any (λ byte. byte == 37) text) none in
    copied_first byte text [] parts.0 ∙ ap (λ (given : Option (List ℕ)). Some (byte ∷ []) ++? given) (plain_text text parts.1)

-- what stands after a front that is given is given too
behind_front : (front rest : Option (List ℕ)) (bytes : List ℕ) → front ++? rest ≡ Some bytes → (given : List ℕ) × (rest ≡ Some given)
behind_front None rest bytes is = absurd (none_some bytes is)
behind_front (Some front) None bytes is = absurd (none_some bytes is)
behind_front (Some front) (Some rest) bytes is = (rest, refl)

-- pieces that are filled
pub pieces_counted : (pieces : List Piece) (arguments : List Argument) (bytes : List ℕ) → filled pieces arguments ≡ Some bytes
    → conversions pieces ≡ length arguments
pieces_counted [] [] bytes is = refl
pieces_counted [] (argument ∷ arguments) bytes is = absurd (none_some bytes is)
pieces_counted (Copied byte ∷ pieces) arguments bytes is =
    let rest = behind_front (Some (byte ∷ [])) (filled pieces arguments) bytes is in pieces_counted pieces arguments rest.0 rest.1
pieces_counted (Conversion letter ∷ pieces) [] bytes is = absurd (none_some bytes is)
pieces_counted (Conversion letter ∷ pieces) (argument ∷ arguments) bytes is =
    let rest = behind_front (converted letter argument) (filled pieces arguments) bytes is in
    ap (λ (count : ℕ). suc count) (pieces_counted pieces arguments rest.0 rest.1)

counted_in : (pieces : Option (List Piece)) (arguments : List Argument) (bytes : List ℕ)
    → option_and_then (λ pieces. filled pieces arguments) pieces ≡ Some bytes → option_map conversions pieces ≡ Some (length arguments)
counted_in None arguments bytes is = absurd (none_some bytes is)
counted_in (Some pieces) arguments bytes is = ap (λ (count : ℕ). Some count) (pieces_counted pieces arguments bytes is)

pub counted : (text bytes : List ℕ) (arguments : List Argument) → formatted text arguments ≡ Some bytes
    → option_map conversions (pieces_of text) ≡ Some (length arguments)
counted text bytes arguments is = counted_in (pieces_of text) arguments bytes is

-- What a text gives, byte by byte.
use Rattle.std.specs.Prelude.{◌≡◌, refl, ℕ, ◌==◌, false, List, [], ◌∷◌, ◌++◌, Option, Some, None}
use Rattle.std.proofs.Common.{sym, ap, ◌∙◌, append_assoc}
use Rattle.std.specs.Fmt.{◌++?◌}
use Rattle.std.specs.Option.{option_and_then}
use Rattle.rz_types_format.specs.Format.{converted, filled, formatted, pieces_of, with_piece, Piece, Copied, Conversion}
use Rattle.rz_types_format.specs.declared.format.Argument.{Argument}

-- bytes that are given, and then more of them
more : (bytes front : List ℕ) (rest : Option (List ℕ)) → Some bytes ++? (Some front ++? rest) ≡ Some (bytes ++ front) ++? rest
more bytes front None = refl
more bytes front (Some rest) = ap (λ (given : List ℕ). Some given) (sym (append_assoc bytes front rest))

-- what one more piece gives stands in front
piece_first : (piece : Piece) (pieces : Option (List Piece)) (front : Option (List ℕ)) (arguments others : List Argument)
    → ((rest : List Piece) → filled (piece ∷ rest) arguments ≡ front ++? filled rest others)
    → option_and_then (λ pieces. filled pieces arguments) (with_piece piece pieces) ≡ front ++? option_and_then (λ pieces. filled pieces others) pieces
piece_first piece None None arguments others gives = refl
piece_first piece None (Some front) arguments others gives = refl
piece_first piece (Some rest) front arguments others gives = gives rest

pub copied_first : (byte : ℕ) (rest : List ℕ) (arguments : List Argument) → (byte == 37) ≡ false
    → formatted (byte ∷ rest) arguments ≡ Some (byte ∷ []) ++? formatted rest arguments
copied_first byte [] arguments other = rw other refl
copied_first byte (next ∷ rest) arguments other =
    rw other (piece_first (Copied byte) (pieces_of (next ∷ rest)) (Some (byte ∷ [])) arguments arguments (λ rest. refl))

percent_first : (rest : List ℕ) (arguments : List Argument)
    → formatted (37 ∷ 37 ∷ rest) arguments ≡ Some (37 ∷ []) ++? formatted rest arguments
percent_first rest arguments = piece_first (Copied 37) (pieces_of rest) (Some (37 ∷ [])) arguments arguments (λ rest. refl)

conversion_first : (letter : ℕ) (rest : List ℕ) (argument : Argument) (arguments : List Argument) → (letter == 37) ≡ false
    → formatted (37 ∷ letter ∷ rest) (argument ∷ arguments) ≡ converted letter argument ++? formatted rest arguments
conversion_first letter rest argument arguments other =
    rw other (piece_first (Conversion letter) (pieces_of rest) (converted letter argument) (argument ∷ arguments) arguments (λ rest. refl))

-- The steps of the code.

pub copied : (bytes : List ℕ) (byte : ℕ) (rest : List ℕ) (arguments : List Argument) → (byte == 37) ≡ false
    → Some bytes ++? formatted (byte ∷ rest) arguments ≡ Some (bytes ++ byte ∷ []) ++? formatted rest arguments
copied bytes byte rest arguments other =
    ap (λ (given : Option (List ℕ)). Some bytes ++? given) (copied_first byte rest arguments other) ∙ more bytes (byte ∷ []) (formatted rest arguments)

pub percent_sign : (bytes rest : List ℕ) (arguments : List Argument)
    → Some bytes ++? formatted (37 ∷ 37 ∷ rest) arguments ≡ Some (bytes ++ 37 ∷ []) ++? formatted rest arguments
percent_sign bytes rest arguments =
    ap (λ (given : Option (List ℕ)). Some bytes ++? given) (percent_first rest arguments) ∙ more bytes (37 ∷ []) (formatted rest arguments)

pub conversion : (bytes : List ℕ) (letter : ℕ) (rest given : List ℕ) (argument : Argument) (arguments : List Argument)
    → (letter == 37) ≡ false → Some given ≡ converted letter argument
    → Some bytes ++? formatted (37 ∷ letter ∷ rest) (argument ∷ arguments) ≡ Some (bytes ++ given) ++? formatted rest arguments
conversion bytes letter rest given argument arguments other is =
    ap (λ (all : Option (List ℕ)). Some bytes ++? all)
    (conversion_first letter rest argument arguments other ∙ ap (λ (front : Option (List ℕ)). front ++? formatted rest arguments) (sym is))
    ∙ more bytes given (formatted rest arguments)

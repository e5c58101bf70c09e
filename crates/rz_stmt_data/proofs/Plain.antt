-- Text tokens alone are a text, in each place.
use Rattle.std.proofs.Common.{◌≡◌, ℕ, ◌==◌, Bool, true, false, ◌&&◌, ◌||◌, List, [], ◌∷◌, ◌++◌, map, refl, ap, ◌∙◌}
use Rattle.rz_stmt_brackets.specs.Bracket.{opens}
use Rattle.rz_stmt_brackets.specs.Pieces.{divides, has_divider, last}
use Rattle.rz_stmt_brackets.specs.Statements.{is_semicolon, open_behind, open_behind_all}
use Rattle.rz_stmt_brackets.specs.declared.bracket.Bracket.TheVariants.{Curly}
use Rattle.rz_stmt_brackets.specs.declared.pieces.Divider.{Divider}
use Rattle.rz_stmt_brackets.specs.declared.pieces.Divider.TheVariants.{CloseBrace, Semicolon}
use Rattle.rz_types_fields.specs.Place.{may_stand}
use Rattle.rz_types_fields.specs.Text.{Plain, PlainPart}
use Rattle.rz_types_fields.specs.declared.place.TextPlace.{TextPlace}
use Rattle.rz_types_fields.specs.declared.place.TextPlace.TheVariants.{Data}
use Rattle.rz_lex.specs.declared.sign.Sign.TheVariants as signs
use Rattle.rz_lex.specs.declared.token.Shape.{Shape}
use Rattle.rz_lex.specs.declared.token.Shape.TheVariants as shapes
use Rattle.rz_lex.specs.declared.token.Token.{Token}
use Rattle.rz_stmt_data.proofs.OneText.{parts_begin}
use Rattle.rz_stmt_data.specs.Frame.{IsBody}
use Rattle.rz_stmt_data.specs.Raw.{IsInside, IsMaybeText}
use Rattle.rz_stmt_data.specs.Texts.{alone, begins_text, no_part, one_part, part_in, AreParts, IsText}

-- the tokens are texts with these bytes
abbrev pub AreTextTokens : List Token → List (List ℕ) → Type 0
AreTextTokens tokens pieces = map (λ token. token.shape) tokens ≡ map (λ piece. shapes.Text piece) pieces

abbrev pub plain_texts : List (List ℕ) → List PlainPart
plain_texts pieces = map (λ piece. Plain piece) pieces

-- the first, and the others
first_is : (piece : List ℕ) (pieces : List (List ℕ)) (token : Token) (tokens : List Token) → AreTextTokens (token ∷ tokens) (piece ∷ pieces) → token.shape ≡ shapes.Text piece
first_is piece pieces token tokens is = heads token.shape (shapes.Text piece) (map (λ token. token.shape) tokens) (map (λ piece. shapes.Text piece) pieces) is
  where
    heads : (x y : Shape) (xs ys : List Shape) → x ∷ xs ≡ y ∷ ys → x ≡ y
    heads x y xs ys e = cc e

others_are : (piece : List ℕ) (pieces : List (List ℕ)) (token : Token) (tokens : List Token) → AreTextTokens (token ∷ tokens) (piece ∷ pieces) → AreTextTokens tokens pieces
others_are piece pieces token tokens is = tails token.shape (shapes.Text piece) (map (λ token. token.shape) tokens) (map (λ piece. shapes.Text piece) pieces) is
  where
    tails : (x y : Shape) (xs ys : List Shape) → x ∷ xs ≡ y ∷ ys → xs ≡ ys
    tails x y xs ys e = cc e

-- Texts.

plain_parts : (pieces : List (List ℕ)) (tokens : List Token) → AreTextTokens tokens pieces → AreParts tokens (plain_texts pieces)
plain_parts [] [] are = no_part
plain_parts [] (token ∷ tokens) are = absurd (cc are)
plain_parts (piece ∷ pieces) [] are = absurd (cc are)
plain_parts (piece ∷ pieces) (token ∷ tokens) are =
    one_part (token ∷ tokens) tokens (Plain piece) (plain_texts pieces)
    (alone token tokens (Plain piece) (ap part_in (first_is piece pieces token tokens are))) (plain_parts pieces tokens (others_are piece pieces token tokens are))

plain_may : (place : TextPlace) (pieces : List (List ℕ)) → may_stand place (plain_texts pieces) ≡ true
plain_may place [] = refl
plain_may place (piece ∷ pieces) = plain_may place pieces

-- some text tokens are a text
pub plain_text : (place : TextPlace) (piece : List ℕ) (pieces : List (List ℕ)) (tokens : List Token) → AreTextTokens tokens (piece ∷ pieces)
    → IsText place tokens (plain_texts (piece ∷ pieces))
plain_text place piece pieces tokens are =
    record { are = plain_parts (piece ∷ pieces) tokens are; some = λ none. cc none; may = plain_may place (piece ∷ pieces) }

-- and a text begins there
pub plain_begins : (piece : List ℕ) (pieces : List (List ℕ)) (tokens : List Token) → AreTextTokens tokens (piece ∷ pieces) → begins_text tokens ≡ true
plain_begins piece pieces tokens are = parts_begin tokens (plain_texts (piece ∷ pieces)) (plain_parts (piece ∷ pieces) tokens are) (λ none. cc none)

-- `data` statements.

-- no sign divides them, and no bracket is open after them
none_divides : (divider : Divider) → ((bytes : List ℕ) → divides divider (shapes.Text bytes) ≡ false) → (pieces : List (List ℕ)) (tokens : List Token) → AreTextTokens tokens pieces
    → has_divider divider 0 tokens ≡ false
none_divides divider none [] [] are = refl
none_divides divider none [] (token ∷ tokens) are = absurd (cc are)
none_divides divider none (piece ∷ pieces) [] are = absurd (cc are)
none_divides divider none (piece ∷ pieces) (token ∷ tokens) are =
    ap (λ (shape : Shape). (divides divider shape && (0 == 0)) || has_divider divider (open_behind shape 0) tokens) (first_is piece pieces token tokens are)
    ∙ ap (λ (b : Bool). (b && (0 == 0)) || has_divider divider 0 tokens) (none piece)
    ∙ none_divides divider none pieces tokens (others_are piece pieces token tokens are)

none_open : (pieces : List (List ℕ)) (tokens : List Token) → AreTextTokens tokens pieces → (count : ℕ) → open_behind_all tokens count ≡ count
none_open [] [] are count = refl
none_open [] (token ∷ tokens) are count = absurd (cc are)
none_open (piece ∷ pieces) [] are count = absurd (cc are)
none_open (piece ∷ pieces) (token ∷ tokens) are count =
    ap (λ (shape : Shape). open_behind_all tokens (open_behind shape count)) (first_is piece pieces token tokens are)
    ∙ none_open pieces tokens (others_are piece pieces token tokens are) count

maybe_plain : (pieces : List (List ℕ)) (tokens : List Token) → AreTextTokens tokens pieces → IsMaybeText tokens (plain_texts pieces)
maybe_plain [] [] are = refl
maybe_plain [] (token ∷ tokens) are = absurd (cc are)
maybe_plain (piece ∷ pieces) [] are = absurd (cc are)
maybe_plain (piece ∷ pieces) (token ∷ tokens) are = plain_text Data piece pieces (token ∷ tokens) are

-- text tokens alone are a text that stands in braces
pub plain_inside : (pieces : List (List ℕ)) (texts : List Token) → AreTextTokens texts pieces → IsInside texts (plain_texts pieces)
plain_inside pieces texts are = (texts ∷ [], last texts (none_divides Semicolon (λ bytes. refl) pieces texts are), maybe_plain pieces texts are)

-- text tokens in braces, and the end of a statement
pub plain_body : (pieces : List (List ℕ)) (texts : List Token) (brace end semicolon : Token) → brace.shape ≡ shapes.Sign signs.OpenBrace → AreTextTokens texts pieces
    → end.shape ≡ shapes.Sign signs.CloseBrace → semicolon.shape ≡ shapes.Sign signs.Semicolon → IsBody (brace ∷ (texts ++ end ∷ semicolon ∷ [])) texts
plain_body pieces texts brace end semicolon brace_is texts_are end_is semicolon_is = (
  record { front = texts; behind = semicolon ∷ [] },
  record {
    opener = brace;
    rest = texts ++ end ∷ semicolon ∷ [];
    are = refl;
    opens = ap (opens Curly) brace_is;
    closes = record {
      sign = end;
      are = refl;
      first = none_divides CloseBrace (λ bytes. refl) pieces texts texts_are;
      divides = ap (λ (shape : Shape). divides CloseBrace shape && (open_behind_all texts 0 == 0)) end_is
          ∙ ap (λ (n : ℕ). true && (n == 0)) (none_open pieces texts texts_are 0);
    };
  },
  ap is_semicolon semicolon_is,
  refl,
)

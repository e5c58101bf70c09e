-- Pieces are no longer than the tokens, and what stands in brackets and after them is shorter.
use Rattle.std.proofs.Common.{ℕ, ◌+◌, ◌≤◌, List, [], ◌∷◌, length, length-append, ap, ◌∙◌, arith}
use Rattle.std.specs.List.{AllByRecursion}
use Rattle.rz_stmt_brackets.specs.Bracket.{IsBracketed}
use Rattle.rz_stmt_brackets.specs.Pieces.{last, more, AreCut, Parted}
use Rattle.rz_stmt_brackets.specs.declared.bracket.Bracket.{Bracket}
use Rattle.rz_stmt_brackets.specs.declared.pieces.Divider.{Divider}
use Rattle.rz_lex.specs.declared.token.Token.{Token}

abbrev pub AreShort : ℕ → List (List Token) → Type 0
AreShort size pieces = AllByRecursion (λ piece. length piece ≤ size) pieces

pub no_longer : (small size : ℕ) (pieces : List (List Token)) → small ≤ size → AreShort small pieces → AreShort size pieces
no_longer small size [] le are = tt
no_longer small size (piece ∷ pieces) le are = (omega (arith, le, are.0), no_longer small size pieces le are.1)

pub cut_short : (divider : Divider) (tokens : List Token) (pieces : List (List Token)) → AreCut divider tokens pieces → AreShort (length tokens) pieces
cut_short divider tokens pieces (last piece none) = (omega arith, tt)
cut_short divider tokens pieces (more whole parted rest is cut) =
    let size = ap (λ (ts : List Token). length ts) is.are ∙ length-append parted.front (is.sign ∷ parted.behind) in
    (omega (arith, size), no_longer (length parted.behind) (length tokens) rest (omega (arith, size)) (cut_short divider parted.behind rest cut))

-- the brackets themselves are two tokens
pub bracket_sizes : (bracket : Bracket) (tokens : List Token) (parted : Parted) → IsBracketed bracket tokens parted
    → length parted.front + length parted.behind + 2 ≤ length tokens
bracket_sizes bracket tokens parted is =
    omega (arith, ap (λ (ts : List Token). length ts) is.are, ap (λ (ts : List Token). length ts) is.closes.are, length-append parted.front (is.closes.sign ∷ parted.behind))

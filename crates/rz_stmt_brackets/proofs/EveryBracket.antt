-- Of all tokens it is decided where they part, and what stands in brackets at their front.
use Rattle.std.proofs.Common.{◌≡◌, false, true, List, [], ◌∷◌, Option, Some, None, refl, sym, ap, ◌∙◌}
use Rattle.rz_core.proofs.Tests.{by_test, true_false}
use Rattle.rz_core.specs.Decided.{Decided}
use Rattle.rz_lex.specs.declared.token.Token.{Token}
use Rattle.rz_stmt_brackets.specs.Bracket.{closer, opens, IsBracketed}
use Rattle.rz_stmt_brackets.specs.Pieces.{IsParted, Parted}
use Rattle.rz_stmt_brackets.specs.declared.bracket.Bracket.{Bracket}
use Rattle.rz_stmt_brackets.specs.declared.pieces.Divider.{Divider}
use Rattle.rz_stmt_brackets.proofs.OneBracket.{same_rest}
use Rattle.rz_stmt_brackets.proofs.OneCut.{first_sign, found, never_parted, nowhere, FirstSign}

pub every_parting : (divider : Divider) (tokens : List Token) → (answer : Option Parted) × Decided (IsParted divider tokens) answer
every_parting divider tokens = by (first_sign divider 0 tokens)
  where
    by : FirstSign divider 0 tokens → (answer : Option Parted) × Decided (IsParted divider tokens) answer
    by (found front behind sign are none here) =
        (Some (record { front = front; behind = behind }), record { sign = sign; are = are; first = none; divides = here })
    by (nowhere none) = (None, λ parted is. never_parted divider tokens parted none is)

pub every_bracket : (bracket : Bracket) (tokens : List Token) → (answer : Option Parted) × Decided (IsBracketed bracket tokens) answer
every_bracket bracket [] = (None, λ parted is. nothing is.opener is.rest is.are)
  where
    nothing : (opener : Token) (rest : List Token) → [] ≡ opener ∷ rest → ⊥
    nothing opener rest is = cc is
every_bracket bracket (token ∷ rest) =
    by_test ((answer : Option Parted) × Decided (IsBracketed bracket (token ∷ rest)) answer) (opens bracket token.shape)
    (λ on. within on (every_parting (closer bracket) rest)) (λ off. (None, λ parted is. closed off is.opener is.rest is.are is.opens))
  where
    within : opens bracket token.shape ≡ true → (answer : Option Parted) × Decided (IsParted (closer bracket) rest) answer
        → (answer : Option Parted) × Decided (IsBracketed bracket (token ∷ rest)) answer
    within on (Some parted, closes) = (Some parted, record { opener = token; rest = rest; are = refl; opens = on; closes = closes })
    within on (None, never) = (None, λ parted is. never parted (same_rest bracket (token ∷ rest) rest token parted refl is))

    closed : opens bracket token.shape ≡ false → (opener : Token) (others : List Token) → token ∷ rest ≡ opener ∷ others → opens bracket opener.shape ≡ true → ⊥
    closed off opener others is on =
        let same : opener ≡ token = cc in
        true_false (sym on ∙ ap (λ (t : Token). opens bracket t.shape) same ∙ off)

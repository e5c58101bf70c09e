-- Brackets that may be left out.
use Rattle.std.proofs.Common.{◌≡◌, true, false, List, Option, Some, None, sym, ap, ◌∙◌}
use Rattle.rz_core.proofs.Tests.{none_some, true_false}
use Rattle.rz_stmt_brackets.proofs.OneBracket.{one_bracketed}
use Rattle.rz_stmt_brackets.specs.Bracket.{begins, IsBracketed}
use Rattle.rz_stmt_brackets.specs.Pieces.{Parted}
use Rattle.rz_stmt_brackets.specs.declared.bracket.Bracket.TheVariants.{Round}
use Rattle.rz_lex.specs.declared.token.Token.{Token}
use Rattle.rz_stmt_lists.specs.Brackets.{given, left_out, IsMaybe}
use Rattle.rz_stmt_lists.specs.Steps.{IsMaybePair}

abbrev pub MaybePair : Type 0
MaybePair = Option (List Token) × List Token

bracket_begins : (tokens : List Token) (parted : Parted) → IsBracketed Round tokens parted → begins Round tokens ≡ true
bracket_begins tokens parted is = ap (begins Round) is.are ∙ is.opens

-- no bracket opens
pub left_so : (tokens : List Token) → begins Round tokens ≡ false → (pair : MaybePair) → IsMaybePair tokens pair → ◌≡◌ {A = Option MaybePair} (Some (None, tokens)) (Some pair)
left_so tokens off pair (left_out same none rest) = λ i. Some (sym none i, sym rest i)
left_so tokens off pair (given parted is front rest) = absurd (true_false (sym (bracket_begins tokens parted is) ∙ off))

-- one opens
pub given_so : (tokens : List Token) (split : Parted) → begins Round tokens ≡ true
    → ((parted : Parted) → IsBracketed Round tokens parted → ◌≡◌ {A = Option Parted} (Some split) (Some parted))
    → (pair : MaybePair) → IsMaybePair tokens pair → ◌≡◌ {A = Option MaybePair} (Some (Some split.front, split.behind)) (Some pair)
given_so tokens split begin every pair (left_out off none rest) = absurd (true_false (sym begin ∙ off))
given_so tokens split begin every pair (given parted is front rest) =
    let same = same_parted (every parted is) in
    λ i. Some ((ap (λ (p : Parted). Some p.front) same ∙ sym front) i, (ap (λ (p : Parted). p.behind) same ∙ sym rest) i)
  where
    same_parted : {a b : Parted} → ◌≡◌ {A = Option Parted} (Some a) (Some b) → a ≡ b
    same_parted e = cc e

pub open_so : (tokens : List Token) → begins Round tokens ≡ true
    → ((parted : Parted) → IsBracketed Round tokens parted → ◌≡◌ {A = Option Parted} None (Some parted))
    → (pair : MaybePair) → IsMaybePair tokens pair → ◌≡◌ {A = Option MaybePair} None (Some pair)
open_so tokens begin every pair (left_out off none rest) = absurd (true_false (sym begin ∙ off))
open_so tokens begin every pair (given parted is front rest) = absurd (none_some parted (every parted is))

-- What may stand in brackets is one thing.
pub one_maybe : (tokens : List Token) (a b : Option (List Token)) (xs ys : List Token) → IsMaybe tokens a xs → IsMaybe tokens b ys → (a ≡ b) × (xs ≡ ys)
one_maybe tokens a b xs ys (left_out off none rest) (left_out same nothing all) = (none ∙ sym nothing, rest ∙ sym all)
one_maybe tokens a b xs ys (left_out off none rest) (given other also front behind) = absurd (true_false (sym (bracket_begins tokens other also) ∙ off))
one_maybe tokens a b xs ys (given parted is front rest) (left_out off nothing all) = absurd (true_false (sym (bracket_begins tokens parted is) ∙ off))
one_maybe tokens a b xs ys (given parted is front rest) (given other also fore behind) =
    let same = one_bracketed Round tokens parted other is also in
    (front ∙ ap (λ (p : Parted). Some p.front) same ∙ sym fore, rest ∙ ap (λ (p : Parted). p.behind) same ∙ sym behind)

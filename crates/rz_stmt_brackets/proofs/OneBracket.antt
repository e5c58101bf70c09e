-- What stands in brackets is one thing.
use Rattle.std.proofs.Common.{◌≡◌, List, ◌∷◌, Option, Some, None, sym, subst, ◌∙◌}
use Rattle.rz_core.proofs.Tests.{none_some}
use Rattle.rz_lex.specs.declared.token.Token.{Token}
use Rattle.rz_stmt_brackets.specs.Bracket.{closer, IsBracketed}
use Rattle.rz_stmt_brackets.specs.Pieces.{IsParted, Parted}
use Rattle.rz_stmt_brackets.specs.declared.bracket.Bracket.{Bracket}
use Rattle.rz_stmt_brackets.proofs.OneCut.{one_parting}

pub same_rest : (bracket : Bracket) (tokens rest : List Token) (first : Token) (parted : Parted) → tokens ≡ first ∷ rest → IsBracketed bracket tokens parted
    → IsParted (closer bracket) rest parted
same_rest bracket tokens rest first parted are is = subst (λ (ts : List Token). IsParted (closer bracket) ts parted) (tails (sym is.are ∙ are)) is.closes
  where
    tails : is.opener ∷ is.rest ≡ first ∷ rest → is.rest ≡ rest
    tails e = cc e

pub one_bracketed : (bracket : Bracket) (tokens : List Token) (parted other : Parted) → IsBracketed bracket tokens parted → IsBracketed bracket tokens other → parted ≡ other
one_bracketed bracket tokens parted other is also =
    one_parting (closer bracket) is.rest parted other is.closes (same_rest bracket tokens is.rest is.opener other is.are also)

-- What stands in brackets, as the code has it.

pub never_within : (bracket : Bracket) (tokens : List Token) → ((parted : Parted) → IsBracketed bracket tokens parted → ◌≡◌ {A = Option Parted} None (Some parted))
    → (parted : Parted) → IsBracketed bracket tokens parted → ⊥
never_within bracket tokens every parted is = none_some parted (every parted is)

pub same_within : (bracket : Bracket) (tokens : List Token) (split : Parted)
    → ((parted : Parted) → IsBracketed bracket tokens parted → ◌≡◌ {A = Option Parted} (Some split) (Some parted))
    → (parted : Parted) → IsBracketed bracket tokens parted → split ≡ parted
same_within bracket tokens split every parted is = same (every parted is)
  where
    same : ◌≡◌ {A = Option Parted} (Some split) (Some parted) → split ≡ parted
    same e = cc e

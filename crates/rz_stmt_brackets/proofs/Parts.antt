-- What holds of each of some tokens holds of each of those in a part of them.
use Rattle.std.proofs.Common.{List, [], ◌∷◌, ◌++◌, subst}
use Rattle.std.specs.List.{AllByRecursion}
use Rattle.rz_lex.specs.declared.token.Token.{Token}
use Rattle.rz_stmt_brackets.specs.Bracket.{closer, IsBracketed}
use Rattle.rz_stmt_brackets.specs.Pieces.{last, more, AreCut, IsParted, Parted}
use Rattle.rz_stmt_brackets.specs.declared.bracket.Bracket.{Bracket}
use Rattle.rz_stmt_brackets.specs.declared.pieces.Divider.{Divider}

module _ (P : Token → Type 0) where
  front_each : (xs ys : List Token) → AllByRecursion P (xs ++ ys) → AllByRecursion P xs
  front_each [] ys are = tt
  front_each (x ∷ xs) ys are = (are.0, front_each xs ys are.1)

  pub behind_each : (xs ys : List Token) → AllByRecursion P (xs ++ ys) → AllByRecursion P ys
  behind_each [] ys are = are
  behind_each (x ∷ xs) ys are = behind_each xs ys are.1

  parted_front : (divider : Divider) (tokens : List Token) (parted : Parted) → IsParted divider tokens parted → AllByRecursion P tokens → AllByRecursion P parted.front
  parted_front divider tokens parted is are = front_each parted.front (is.sign ∷ parted.behind) (subst (AllByRecursion P) is.are are)

  parted_behind : (divider : Divider) (tokens : List Token) (parted : Parted) → IsParted divider tokens parted → AllByRecursion P tokens → AllByRecursion P parted.behind
  parted_behind divider tokens parted is are = (behind_each parted.front (is.sign ∷ parted.behind) (subst (AllByRecursion P) is.are are)).1

  -- in brackets, and after them
  pub within_each : (bracket : Bracket) (tokens : List Token) (parted : Parted) → IsBracketed bracket tokens parted → AllByRecursion P tokens → AllByRecursion P parted.front
  within_each bracket tokens parted is are = parted_front (closer bracket) is.rest parted is.closes (subst (AllByRecursion P) is.are are).1

  pub after_each : (bracket : Bracket) (tokens : List Token) (parted : Parted) → IsBracketed bracket tokens parted → AllByRecursion P tokens → AllByRecursion P parted.behind
  after_each bracket tokens parted is are = parted_behind (closer bracket) is.rest parted is.closes (subst (AllByRecursion P) is.are are).1

  -- in each piece
  pub cut_each : (divider : Divider) (tokens : List Token) (pieces : List (List Token)) → AreCut divider tokens pieces → AllByRecursion P tokens
      → AllByRecursion (λ piece. AllByRecursion P piece) pieces
  cut_each divider tokens pieces (last piece none) are = (are, tt)
  cut_each divider tokens pieces (more whole parted rest is cut) are =
      (parted_front divider tokens parted is are, cut_each divider parted.behind rest cut (parted_behind divider tokens parted is are))

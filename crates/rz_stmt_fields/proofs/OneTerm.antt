-- What is known of pieces: there are one list of them, and one thing in brackets, at most.
use Rattle.std.proofs.Common.{◌≡◌, List}
use Rattle.rz_stmt_brackets.specs.Bracket.{IsBracketed}
use Rattle.rz_stmt_brackets.specs.Pieces.{AreCut, Parted}
use Rattle.rz_stmt_brackets.specs.declared.bracket.Bracket.{Bracket}
use Rattle.rz_stmt_brackets.specs.declared.pieces.Divider.{Divider}
use Rattle.rz_lex.specs.declared.token.Token.{Token}

abbrev pub OneCut : Type 0
OneCut = (divider : Divider) (tokens : List Token) (pieces others : List (List Token)) → AreCut divider tokens pieces → AreCut divider tokens others → pieces ≡ others

abbrev pub OneWithin : Type 0
OneWithin = (bracket : Bracket) (tokens : List Token) (parted other : Parted) → IsBracketed bracket tokens parted → IsBracketed bracket tokens other → parted ≡ other

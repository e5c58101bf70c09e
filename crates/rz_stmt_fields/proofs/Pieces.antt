-- Parts of tokens that lines can be cut into are such tokens.
use Rattle.std.proofs.Common.{◌≡◌, true, List, ◌++◌}
use Rattle.std.specs.List.{AllByRecursion}
use Rattle.rz_lex.specs.Lexeme.{AreLexed, is_lexed}
use Rattle.rz_lex.specs.declared.token.Token.{Token}
use Rattle.rz_stmt_brackets.specs.Bracket.{IsBracketed}
use Rattle.rz_stmt_brackets.specs.Pieces.{AreCut, Parted}
use Rattle.rz_stmt_brackets.specs.declared.bracket.Bracket.{Bracket}
use Rattle.rz_stmt_brackets.specs.declared.pieces.Divider.{Divider}
use Rattle.rz_stmt_brackets.proofs.Parts.{after_each, behind_each, cut_each, within_each}

abbrev IsLexed : Token → Type 0
IsLexed token = is_lexed token.shape ≡ true

pub lexed_behind : (xs ys : List Token) → AreLexed (xs ++ ys) → AreLexed ys
lexed_behind = behind_each IsLexed

pub within_lexed : (bracket : Bracket) (tokens : List Token) (parted : Parted) → IsBracketed bracket tokens parted → AreLexed tokens → AreLexed parted.front
within_lexed = within_each IsLexed

pub after_lexed : (bracket : Bracket) (tokens : List Token) (parted : Parted) → IsBracketed bracket tokens parted → AreLexed tokens → AreLexed parted.behind
after_lexed = after_each IsLexed

-- each piece
abbrev pub AreAllLexed : List (List Token) → Type 0
AreAllLexed pieces = AllByRecursion AreLexed pieces

pub cut_lexed : (divider : Divider) (tokens : List Token) (pieces : List (List Token)) → AreCut divider tokens pieces → AreLexed tokens → AreAllLexed pieces
cut_lexed = cut_each IsLexed

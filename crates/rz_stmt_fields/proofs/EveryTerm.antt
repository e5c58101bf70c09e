-- What is known of pieces: all tokens are some, and of all it is decided what stands in brackets at their front.
use Rattle.std.proofs.Common.{List, Option}
use Rattle.rz_core.proofs.EveryCut.{known_of, known_with}
use Rattle.rz_core.specs.Decided.{Decided}
use Rattle.rz_expr.specs.Grammar.{IsExpression}
use Rattle.rz_expr.specs.Term.{Term}
use Rattle.rz_stmt_brackets.specs.Bracket.{IsBracketed}
use Rattle.rz_stmt_brackets.specs.Pieces.{AreCut, Parted}
use Rattle.rz_stmt_brackets.specs.declared.bracket.Bracket.{Bracket}
use Rattle.rz_stmt_brackets.specs.declared.pieces.Divider.{Divider}
use Rattle.rz_lex.specs.declared.token.Token.{Token}
use Rattle.rz_stmt_fields.proofs.OneTerm.{OneCut, OneWithin}

abbrev pub EveryExpression : Type 0
EveryExpression = (tokens : List Token) → (answer : Option Term) × Decided (IsExpression tokens) answer

abbrev pub SomePieces : Type 0
SomePieces = (divider : Divider) (tokens : List Token) → (pieces : List (List Token)) × AreCut divider tokens pieces

abbrev pub EveryWithin : Type 0
EveryWithin = (bracket : Bracket) (tokens : List Token) → (answer : Option Parted) × Decided (IsBracketed bracket tokens) answer

-- Where more is decided of each, it is decided whether it holds of those that there are.

pub cut_with : OneCut → SomePieces → (divider : Divider) (tokens : List Token) (Q : List (List Token) → Type 0) → ((pieces : List (List Token)) → Dec (Q pieces))
    → Dec ((pieces : List (List Token)) × AreCut divider tokens pieces × Q pieces)
cut_with cut some divider tokens Q each = known_with (AreCut divider tokens) Q (cut divider tokens) (yes (some divider tokens)) (λ pieces are. each pieces)

pub within_with : OneWithin → EveryWithin → (bracket : Bracket) (tokens : List Token) (Q : Parted → Type 0) → ((parted : Parted) → Dec (Q parted))
    → Dec ((parted : Parted) × IsBracketed bracket tokens parted × Q parted)
within_with within every bracket tokens Q each =
    known_with (IsBracketed bracket tokens) Q (within bracket tokens) (known_of (IsBracketed bracket tokens) (every bracket tokens)) (λ parted is. each parted)

-- The frame of a statement that makes a resource: a word, a type, a head in brackets, and braces, with `;` after them.
-- (MPW Rez.)
use Rattle.std.specs.Prelude.{◌≡◌, ℕ, true, List}
use Rattle.rz_words.specs.declared.keyword.Keyword.{Keyword}
use Rattle.rz_lex.specs.declared.token.Token.{Token}
use Rattle.rz_stmt_brackets.specs.Bracket.{IsBracketed}
use Rattle.rz_stmt_brackets.specs.Pieces.{AreCut, Parted}
use Rattle.rz_stmt_brackets.specs.Statements.{is_empty}
use Rattle.rz_stmt_brackets.specs.declared.bracket.Bracket.TheVariants.{Curly, Round}
use Rattle.rz_stmt_brackets.specs.declared.pieces.Divider.TheVariants.{Comma}
use Rattle.rz_stmt_data.specs.Head.{head_of, Head, IsHead}
use Rattle.rz_stmt_data.specs.Typed.{IsTyped}
use Rattle.rz_stmt_data.specs.declared.frame.Framed.{Framed}

-- the type, the head, and what stands in the braces
pub record Frame : Type 0 where
  pub kind : ℕ
  pub head : Head
  pub inside : List Token

abbrev pub frame_of : Framed → Frame
frame_of framed = record { kind = framed.kind.code; head = head_of framed.head; inside = framed.inside.now }

-- braces with this in them, and the `;` after them
abbrev pub IsBody : List Token → List Token → Type 0
IsBody tokens inside = (braces : Parted) × IsBracketed Curly tokens braces × (is_empty braces.behind ≡ true) × (braces.front ≡ inside)

-- the tokens are this frame, and its word is the keyword
pub record IsFrame (keyword : Keyword) (tokens : List Token) (frame : Frame) : Type 0 where
  pub behind : List Token
  pub brackets : Parted
  pub pieces : List (List Token)
  pub typed : IsTyped keyword tokens (record { kind = frame.kind; behind = behind })
  pub in_brackets : IsBracketed Round behind brackets
  pub are_cut : AreCut Comma brackets.front pieces
  pub has_head : IsHead pieces frame.head
  pub has_body : IsBody brackets.behind frame.inside

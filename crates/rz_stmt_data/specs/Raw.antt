-- A `data` statement: `data`, a type, a head, and in braces a text, or nothing, with at most one `;` after it. (MPW
-- Rez.)
use Rattle.std.specs.Prelude.{◌≡◌, ℕ, List, [], ◌∷◌}
use Rattle.rz_words.specs.declared.keyword.Keyword.TheVariants as keywords
use Rattle.rz_lex.specs.declared.token.Token.{Token}
use Rattle.rz_stmt_brackets.specs.Pieces.{AreCut}
use Rattle.rz_stmt_brackets.specs.declared.pieces.Divider.TheVariants.{Semicolon}
use Rattle.rz_types_fields.specs.Text.{plain_parts, PlainPart}
use Rattle.rz_types_fields.specs.declared.place.TextPlace.TheVariants.{Data}
use Rattle.rz_stmt_data.specs.Frame.{IsFrame}
use Rattle.rz_stmt_data.specs.Head.{head_of, Head}
use Rattle.rz_stmt_data.specs.Texts.{IsText}
use Rattle.rz_stmt_data.specs.declared.raw.DataStmt.{DataStmt}

pub record Raw : Type 0 where
  pub kind : ℕ
  pub head : Head
  pub texts : List PlainPart

abbrev pub raw_of : DataStmt → Raw
raw_of raw = record { kind = raw.kind.code; head = head_of raw.head; texts = plain_parts raw.texts }

-- a text, or nothing
abbrev pub IsMaybeText : List Token → List PlainPart → Type 0
IsMaybeText [] texts = texts ≡ []
IsMaybeText (token ∷ tokens) texts = IsText Data (token ∷ tokens) texts

-- such a piece alone, or with a `;` and nothing more after it
abbrev pub AreTexts : List (List Token) → List PlainPart → Type 0
AreTexts (piece ∷ []) texts = IsMaybeText piece texts
AreTexts (piece ∷ [] ∷ []) texts = IsMaybeText piece texts
AreTexts pieces texts = ⊥

-- what stands in the braces
abbrev pub IsInside : List Token → List PlainPart → Type 0
IsInside tokens texts = (pieces : List (List Token)) × AreCut Semicolon tokens pieces × AreTexts pieces texts

-- the tokens are this statement: the frame of a resource, and the texts in its braces
pub record IsRaw (tokens : List Token) (raw : Raw) : Type 0 where
  pub inside : List Token
  pub frame : IsFrame keywords.Data tokens (record { kind = raw.kind; head = raw.head; inside = inside })
  pub texts : IsInside inside raw.texts

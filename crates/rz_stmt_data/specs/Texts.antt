-- Texts as they are written: text tokens, words, and functions with what they are of in brackets. (MPW Rez.)
use Rattle.std.specs.Prelude.{◌≡◌, ◌≢◌, ℕ, Bool, true, false, List, [], ◌∷◌, Option, Some, None}
use Rattle.rz_stmt_brackets.specs.Bracket.{IsBracketed}
use Rattle.rz_stmt_brackets.specs.Kind.{kind_in}
use Rattle.rz_stmt_brackets.specs.Pieces.{AreCut, Parted}
use Rattle.rz_stmt_brackets.specs.declared.bracket.Bracket.TheVariants.{Round}
use Rattle.rz_stmt_brackets.specs.declared.pieces.Divider.TheVariants.{Comma}
use Rattle.rz_expr.specs.Grammar.{IsExpression}
use Rattle.rz_expr.specs.Term.{Term}
use Rattle.rz_words.specs.Words.{role_of}
use Rattle.rz_words.specs.declared.words.Role.{Role}
use Rattle.rz_words.specs.declared.words.Role.TheVariants as roles
use Rattle.rz_words.specs.declared.words.TextWord.TheVariants as words
use Rattle.rz_types_fields.specs.Place.{may_stand}
use Rattle.rz_types_fields.specs.Text.{arguments_of, parts_of, ById, ByName, DateFact, FileBytes, FileResource, NameFact, Number, Plain, PlainArgument, PlainKey, PlainPart, Text, TimeFact, VersionFact}
use Rattle.rz_types_fields.specs.Text as plain
use Rattle.rz_types_fields.specs.declared.place.TextPlace.{TextPlace}
use Rattle.rz_lex.specs.declared.token.Shape.{Shape}
use Rattle.rz_lex.specs.declared.token.Shape.TheVariants as shapes
use Rattle.rz_lex.specs.declared.token.Token.{Token}
use Rattle.rz_stmt_data.specs.Files.{text_of, IsFile}
use Rattle.rz_stmt_data.specs.declared.texts.TextCall.{TextCall}
use Rattle.rz_stmt_data.specs.declared.texts.TextCall.TheVariants.{Format, Read, Resource}

-- What a token is where a part of a text may begin.

-- the part that a word is by itself
abbrev pub word_part : Role → Option PlainPart
word_part (roles.Text words.Name) = Some NameFact
word_part (roles.Text words.Date) = Some DateFact
word_part (roles.Text words.Time) = Some TimeFact
word_part (roles.Text words.Version) = Some VersionFact
word_part role = None

abbrev pub part_in : Shape → Option PlainPart
part_in (shapes.Text bytes) = Some (Plain bytes)
part_in (shapes.Word word) = word_part (role_of word.bytes)
part_in shape = None

-- the function that a word is
abbrev pub word_call : Role → Option TextCall
word_call (roles.Text words.Read) = Some Read
word_call (roles.Text words.Resource) = Some Resource
word_call (roles.Text words.Format) = Some Format
word_call role = None

abbrev pub call_in : Shape → Option TextCall
call_in (shapes.Word word) = word_call (role_of word.bytes)
call_in shape = None

-- a text begins with such a token, and no expression does
abbrev pub is_text_word : Role → Bool
is_text_word (roles.Text word) = true
is_text_word role = false

abbrev pub starts_text : Shape → Bool
starts_text (shapes.Text bytes) = true
starts_text (shapes.Word word) = is_text_word (role_of word.bytes)
starts_text shape = false

abbrev pub begins_text : List Token → Bool
begins_text [] = false
begins_text (token ∷ tokens) = starts_text token.shape

-- What stands in brackets.

-- the text that a piece is by one token
abbrev pub text_alone : List Token → Option (List ℕ)
text_alone (token ∷ []) = text_of token.shape
text_alone tokens = None

-- the type that a piece is by one token
abbrev pub kind_alone : List Token → Option ℕ
kind_alone (token ∷ []) = kind_in token.shape
kind_alone tokens = None

-- a number asks for an id, and a text for a name
abbrev pub key_by : PlainArgument → PlainKey
key_by (Number term) = ById term
key_by (Text parts) = ByName parts

mutual
  -- the tokens are these parts, one after the other
  pub data AreParts : List Token → List PlainPart → Type 0 where
    no_part : AreParts [] []
    one_part : (tokens behind : List Token) (part : PlainPart) (parts : List PlainPart)
        → IsFront tokens part behind → AreParts behind parts → AreParts tokens (part ∷ parts)

  -- this part stands at the front of the tokens, and these stand after it
  pub data IsFront : List Token → PlainPart → List Token → Type 0 where
    alone : (token : Token) (behind : List Token) (part : PlainPart) → part_in token.shape ≡ Some part → IsFront (token ∷ behind) part behind
    called : (word : Token) (rest : List Token) (call : TextCall) (parted : Parted) (part : PlainPart)
        → call_in word.shape ≡ Some call → IsBracketed Round rest parted → IsCall call parted.front part → IsFront (word ∷ rest) part parted.behind

  -- a function with these tokens in its brackets is this part
  pub data IsCall : TextCall → List Token → PlainPart → Type 0 where
    -- a file
    reads : (tokens : List Token) (file : List ℕ) → IsFile tokens file → IsCall Read tokens (FileBytes file)
    -- a file, a type, and an id or a name
    asks : (tokens file kind asked : List Token) (name : List ℕ) (code : ℕ) (key : PlainArgument)
        → AreCut Comma tokens (file ∷ kind ∷ asked ∷ []) → IsFile file name → kind_alone kind ≡ Some code → IsArgument asked key
        → IsCall Resource tokens (FileResource name (record { code = code }) (key_by key))
    -- a text, and its arguments
    formats : (tokens text : List Token) (others : List (List Token)) (bytes : List ℕ) (arguments : List PlainArgument)
        → AreCut Comma tokens (text ∷ others) → text_alone text ≡ Some bytes → AreArguments others arguments
        → IsCall Format tokens (plain.Format bytes (arguments_of arguments))

  -- each piece is an argument
  pub data AreArguments : List (List Token) → List PlainArgument → Type 0 where
    no_argument : AreArguments [] []
    one_argument : (piece : List Token) (pieces : List (List Token)) (argument : PlainArgument) (arguments : List PlainArgument)
        → IsArgument piece argument → AreArguments pieces arguments → AreArguments (piece ∷ pieces) (argument ∷ arguments)

  -- a text where one begins there, and else an expression
  pub data IsArgument : List Token → PlainArgument → Type 0 where
    by_number : (tokens : List Token) (term : Term) → begins_text tokens ≡ false → IsExpression tokens term → IsArgument tokens (Number term)
    by_text : (tokens : List Token) (parts : List PlainPart) → begins_text tokens ≡ true → AreParts tokens parts → IsArgument tokens (Text (parts_of parts))

-- the tokens are this text, of one part or more, and it may stand in such a place
pub record IsText (place : TextPlace) (tokens : List Token) (parts : List PlainPart) : Type 0 where
  pub are : AreParts tokens parts
  pub some : parts ≢ []
  pub may : may_stand place parts ≡ true

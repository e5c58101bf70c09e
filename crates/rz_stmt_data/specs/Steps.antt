-- What the parts of the readers look for. The other definitions say the same in the words of the language.
use Rattle.std.specs.Prelude.{◌≡◌, ℕ, true, List, map, Option, Some, option_map}
use Rattle.rz_stmt_brackets.specs.Bracket.{IsBracketed}
use Rattle.rz_stmt_brackets.specs.Pieces.{Parted}
use Rattle.rz_stmt_brackets.specs.declared.bracket.Bracket.TheVariants.{Round}
use Rattle.rz_types_fields.specs.Text.{arguments_of, plain_part, plain_parts, FileResource, Format, PlainArgument, PlainPart}
use Rattle.rz_types_fields.specs.declared.text.TextPart.{TextPart}
use Rattle.rz_lex.specs.declared.token.Token.{Token}
use Rattle.rz_stmt_data.specs.Files.{IsFile}
use Rattle.rz_stmt_data.specs.Head.{attribute_of, Attribute, IsRestBy}
use Rattle.rz_stmt_data.specs.Texts.{key_by, kind_alone, text_alone, AreArguments, IsArgument, IsCall, IsFront}
use Rattle.rz_stmt_data.specs.declared.head.AttrPart.{AttrPart}
use Rattle.rz_stmt_data.specs.declared.head.Subject.{Subject}
use Rattle.rz_stmt_data.specs.declared.texts.Front.{Front}
use Rattle.rz_stmt_data.specs.declared.texts.TextCall.{TextCall}

-- Texts.

-- a part at the front, and what stands after it
abbrev pub held_front : Front → PlainPart × List Token
held_front front = (plain_part front.part, front.behind.now)

abbrev pub IsFrontPair : List Token → PlainPart × List Token → Type 0
IsFrontPair tokens pair = IsFront tokens pair.0 pair.1

-- the brackets of a function, and what stands after them
abbrev pub IsCalledPair : TextCall → List Token → PlainPart × List Token → Type 0
IsCalledPair call tokens pair = (parted : Parted) × IsBracketed Round tokens parted × IsCall call parted.front pair.0 × (pair.1 ≡ parted.behind)

-- what a `$$Resource` asks for: a file, a type, and an id or a name
abbrev pub IsAsked : List Token → List Token → List Token → PlainPart → Type 0
IsAsked file kind asked part =
    (name : List ℕ) × (code : ℕ) × (key : PlainArgument) × IsFile file name × (kind_alone kind ≡ Some code) × IsArgument asked key
    × (part ≡ FileResource name (record { code = code }) (key_by key))

-- a text with its arguments
abbrev pub IsFormatted : List Token → List (List Token) → PlainPart → Type 0
IsFormatted text others part =
    (bytes : List ℕ) × (arguments : List PlainArgument) × (text_alone text ≡ Some bytes) × AreArguments others arguments × (part ≡ Format bytes (arguments_of arguments))

-- Heads.

-- a name, and attributes after it
abbrev pub IsNamedRest : Subject → List Token → List (List Token) → Option (List PlainPart) × List Attribute → Type 0
IsNamedRest subject piece others rest = IsRestBy subject true piece others rest.0 rest.1

abbrev pub rest_of : Option (List TextPart) × List AttrPart → Option (List PlainPart) × List Attribute
rest_of rest = (option_map plain_parts rest.0, map attribute_of rest.1)

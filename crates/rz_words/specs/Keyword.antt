-- The reserved words of the language that name nothing. Case doesn't matter. (MPW Rez.)
use Rattle.std.specs.Prelude.{ℕ, if◌then◌else◌, List, [], ◌∷◌, Option, Some, None, codes}
use Rattle.std.specs.Str.{str_eq_ignore_ascii_case}
use Rattle.rz_words.specs.declared.keyword.Keyword.{Keyword}
use Rattle.rz_words.specs.declared.keyword.Keyword.TheVariants as keywords

-- how each is written, in lower case
abbrev pub spelling : Keyword → List ℕ
spelling keywords.Kind = codes "type"
spelling keywords.Resource = codes "resource"
spelling keywords.Data = codes "data"
spelling keywords.Include = codes "include"
spelling keywords.Read = codes "read"
spelling keywords.Change = codes "change"
spelling keywords.Delete = codes "delete"
spelling keywords.As = codes "as"
spelling keywords.To = codes "to"
spelling keywords.Not = codes "not"
spelling keywords.Array = codes "array"
spelling keywords.Wide = codes "wide"
spelling keywords.Switch = codes "switch"
spelling keywords.Case = codes "case"
spelling keywords.Key = codes "key"
spelling keywords.Fill = codes "fill"
spelling keywords.Align = codes "align"
spelling keywords.Bit = codes "bit"
spelling keywords.Nibble = codes "nibble"
spelling keywords.Byte = codes "byte"
spelling keywords.Word = codes "word"
spelling keywords.Long = codes "long"
spelling keywords.Integer = codes "integer"
spelling keywords.Longint = codes "longint"
spelling keywords.Bitstring = codes "bitstring"
spelling keywords.Boolean = codes "boolean"
spelling keywords.Char = codes "char"
spelling keywords.String = codes "string"
spelling keywords.Pstring = codes "pstring"
spelling keywords.Wstring = codes "wstring"
spelling keywords.Cstring = codes "cstring"
spelling keywords.Point = codes "point"
spelling keywords.Rect = codes "rect"
spelling keywords.Hex = codes "hex"
spelling keywords.Decimal = codes "decimal"
spelling keywords.Octal = codes "octal"
spelling keywords.Binary = codes "binary"
spelling keywords.Literal = codes "literal"
spelling keywords.Unsigned = codes "unsigned"
spelling keywords.Defined = codes "defined"
spelling keywords.Rez = codes "rez"
spelling keywords.DeRez = codes "derez"

-- all of them
abbrev pub every_keyword : List Keyword
every_keyword =
    keywords.Kind ∷ keywords.Resource ∷ keywords.Data ∷ keywords.Include ∷ keywords.Read ∷ keywords.Change ∷
    keywords.Delete ∷ keywords.As ∷ keywords.To ∷ keywords.Not ∷ keywords.Array ∷ keywords.Wide ∷ keywords.Switch ∷
    keywords.Case ∷ keywords.Key ∷ keywords.Fill ∷ keywords.Align ∷ keywords.Bit ∷ keywords.Nibble ∷ keywords.Byte ∷
    keywords.Word ∷ keywords.Long ∷ keywords.Integer ∷ keywords.Longint ∷ keywords.Bitstring ∷ keywords.Boolean ∷
    keywords.Char ∷ keywords.String ∷ keywords.Pstring ∷ keywords.Wstring ∷ keywords.Cstring ∷ keywords.Point ∷
    keywords.Rect ∷ keywords.Hex ∷ keywords.Decimal ∷ keywords.Octal ∷ keywords.Binary ∷ keywords.Literal ∷
    keywords.Unsigned ∷ keywords.Defined ∷ keywords.Rez ∷ keywords.DeRez ∷ []

-- the first of them that is written so, in whatever case
abbrev pub spelled_among : List Keyword → List ℕ → Option Keyword
spelled_among [] name = None
spelled_among (keyword ∷ others) name = if str_eq_ignore_ascii_case name (spelling keyword) then Some keyword else spelled_among others name

-- the keyword that a name is
unfoldable pub keyword_of : List ℕ → Option Keyword
keyword_of name = spelled_among every_keyword name

-- Tokens that are reserved words. Case doesn't matter. (MPW Rez.)
use Rattle.std.specs.Prelude.{Bool, false, Option, None}
use Rattle.std.specs.Str.{str_eq_ignore_ascii_case}
use Rattle.rz_lex.specs.declared.token.Shape.{Shape}
use Rattle.rz_lex.specs.declared.token.Shape.TheVariants as shapes
use Rattle.rz_words.specs.Keyword.{keyword_of, spelling}
use Rattle.rz_words.specs.declared.keyword.Keyword.{Keyword}

-- the keyword that a token is
abbrev pub keyword_in : Shape → Option Keyword
keyword_in (shapes.Word word) = keyword_of word.bytes
keyword_in shape = None

-- the token is this keyword
abbrev pub is_keyword : Keyword → Shape → Bool
is_keyword keyword (shapes.Word word) = str_eq_ignore_ascii_case word.bytes (spelling keyword)
is_keyword keyword shape = false

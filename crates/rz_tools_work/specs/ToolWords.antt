-- The words `rez` and `derez` of a program. (MPW Rez.)
use Rattle.std.specs.Prelude.{ℕ, if◌then◌else◌, Option, Some, None, option_map}
use Rattle.rz_expr.specs.Keyword.{is_keyword}
use Rattle.rz_words.specs.declared.keyword.Keyword.TheVariants as keywords
use Rattle.rz_lex.specs.declared.token.Shape.{Shape}
use Rattle.rz_lex.specs.declared.token.Shape.TheVariants as shapes
use Rattle.rz_lex.specs.declared.token.Token.{Token}
use Rattle.rz_pre.specs.declared.condition.Tool.{Tool}
use Rattle.rz_pre.specs.declared.condition.Tool.TheVariants.{Rez, DeRez}

-- the tool that a token names
abbrev pub tool_in : Shape → Option Tool
tool_in shape = if is_keyword keywords.Rez shape then Some Rez else if is_keyword keywords.DeRez shape then Some DeRez else None

-- 1 where a tool is the one that reads the source, else 0
abbrev pub number_for : Tool → Tool → ℕ
number_for Rez Rez = 1
number_for DeRez DeRez = 1
number_for tool named = 0

-- the number that a token stands for, where it is such a word
abbrev pub number_in : Tool → Shape → Option ℕ
number_in tool shape = option_map (number_for tool) (tool_in shape)

abbrev pub shape_or : Shape → Option ℕ → Shape
shape_or shape None = shape
shape_or shape (Some number) = shapes.Number number

-- the token with the number in place of such a word, on the same line
abbrev pub numbered : Tool → Token → Token
numbered tool token = record token { shape = shape_or token.shape (number_in tool token.shape) }

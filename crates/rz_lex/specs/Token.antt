-- Which sign a token is. (MPW Rez.)
use Rattle.std.specs.Prelude.{Bool, false}
use Rattle.std.specs.Str.{bytes_eq}
use Rattle.rz_lex.specs.Sign.{sign_text}
use Rattle.rz_lex.specs.declared.sign.Sign.{Sign}
use Rattle.rz_lex.specs.declared.token.Shape.{Shape}
use Rattle.rz_lex.specs.declared.token.Shape.TheVariants as shapes

-- this sign, as it is written
abbrev pub is_the_sign : Sign → Shape → Bool
is_the_sign sign (shapes.Sign other) = bytes_eq (sign_text other) (sign_text sign)
is_the_sign sign shape = false

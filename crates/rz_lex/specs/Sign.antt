-- The signs of the language and how they are written. (MPW Rez.)
use Rattle.std.specs.Prelude.{ℕ, Bool, ◌==◌, if◌then◌else◌, List, [], ◌∷◌, Option, Some, None}
use Rattle.std.specs.Option.{is_some}
use Rattle.rz_lex.specs.declared.sign.Sign.{Sign}
use Rattle.rz_lex.specs.declared.sign.Sign.TheVariants.{OpenBrace, CloseBrace, OpenParen, CloseParen, OpenBracket, CloseBracket, Comma, Semicolon, Colon, Equals, Plus, Minus, Star, Slash, Percent, ShiftLeft, ShiftRight, Less, LessEqual, Greater, GreaterEqual, EqualEqual, NotEqual, And, AndAnd, Or, OrOr, Caret, Tilde, Bang}

-- a sign as it is written
abbrev pub sign_text : Sign → List ℕ
sign_text OpenBrace = 123 ∷ []
sign_text CloseBrace = 125 ∷ []
sign_text OpenParen = 40 ∷ []
sign_text CloseParen = 41 ∷ []
sign_text OpenBracket = 91 ∷ []
sign_text CloseBracket = 93 ∷ []
sign_text Comma = 44 ∷ []
sign_text Semicolon = 59 ∷ []
sign_text Colon = 58 ∷ []
sign_text Equals = 61 ∷ []
sign_text Plus = 43 ∷ []
sign_text Minus = 45 ∷ []
sign_text Star = 42 ∷ []
sign_text Slash = 47 ∷ []
sign_text Percent = 37 ∷ []
sign_text ShiftLeft = 60 ∷ 60 ∷ []
sign_text ShiftRight = 62 ∷ 62 ∷ []
sign_text Less = 60 ∷ []
sign_text LessEqual = 60 ∷ 61 ∷ []
sign_text Greater = 62 ∷ []
sign_text GreaterEqual = 62 ∷ 61 ∷ []
sign_text EqualEqual = 61 ∷ 61 ∷ []
sign_text NotEqual = 33 ∷ 61 ∷ []
sign_text And = 38 ∷ []
sign_text AndAnd = 38 ∷ 38 ∷ []
sign_text Or = 124 ∷ []
sign_text OrOr = 124 ∷ 124 ∷ []
sign_text Caret = 94 ∷ []
sign_text Tilde = 126 ∷ []
sign_text Bang = 33 ∷ []

-- the sign that one byte is
abbrev pub sign_of_one : ℕ → Option Sign
sign_of_one byte =
    if byte == 123 then Some OpenBrace
    else if byte == 125 then Some CloseBrace
    else if byte == 40 then Some OpenParen
    else if byte == 41 then Some CloseParen
    else if byte == 91 then Some OpenBracket
    else if byte == 93 then Some CloseBracket
    else if byte == 44 then Some Comma
    else if byte == 59 then Some Semicolon
    else if byte == 58 then Some Colon
    else if byte == 61 then Some Equals
    else if byte == 43 then Some Plus
    else if byte == 45 then Some Minus
    else if byte == 42 then Some Star
    else if byte == 47 then Some Slash
    else if byte == 37 then Some Percent
    else if byte == 60 then Some Less
    else if byte == 62 then Some Greater
    else if byte == 38 then Some And
    else if byte == 124 then Some Or
    else if byte == 94 then Some Caret
    else if byte == 126 then Some Tilde
    else if byte == 33 then Some Bang
    else None

-- the sign that two bytes are: one of four with `=` after it, or one of four twice
abbrev pub sign_of_two : ℕ → ℕ → Option Sign
sign_of_two first second =
    if second == 61 then (
    if first == 60 then Some LessEqual
    else if first == 62 then Some GreaterEqual
    else if first == 61 then Some EqualEqual
    else if first == 33 then Some NotEqual
    else None)
    else if first == second then (
    if first == 60 then Some ShiftLeft
    else if first == 62 then Some ShiftRight
    else if first == 38 then Some AndAnd
    else if first == 124 then Some OrOr
    else None)
    else None

-- the sign that these bytes are
abbrev pub sign_of : List ℕ → Option Sign
sign_of [] = None
sign_of (a ∷ []) = sign_of_one a
sign_of (a ∷ b ∷ []) = sign_of_two a b
sign_of (a ∷ b ∷ c ∷ bs) = None

abbrev pub is_sign : List ℕ → Bool
is_sign bs = is_some (sign_of bs)

-- Constants: expressions that stand for themselves. (MPW Rez.)
use Rattle.std.specs.Prelude.{◌≡◌, ℤ, pos, Bool, true, if◌then◌else◌, List, Option, None}
use Rattle.std.specs.List.{list_all}
use Rattle.std.specs.Result.{result_ok}
use Rattle.rz_expr.specs.Environment.{place_of, predefined, Key, Sight}
use Rattle.rz_expr.specs.Grammar.{IsExpression}
use Rattle.rz_expr.specs.Mention.{is_true_or_false, mentions}
use Rattle.rz_expr.specs.Term.{Term}
use Rattle.rz_expr.specs.Value.{value_of}
use Rattle.rz_lex.specs.declared.token.Token.{Token}

-- no names but `true` and `false`, and no `$$` functions
abbrev pub is_constant : Term → Bool
is_constant term = list_all is_true_or_false (mentions term)

-- the tokens are this expression, and it is a constant
abbrev pub IsConstant : List Token → Term → Type 0
IsConstant tokens term = IsExpression tokens term × (is_constant term ≡ true)

-- what such an expression sees: nothing but `true` and `false` has a value
abbrev pub predefined_key : Key → Option ℤ
predefined_key (place_of name) = predefined name
predefined_key key = None

abbrev pub constant_sight : Sight
constant_sight = record { names = record { give = predefined_key }; bits = λ first width. None; fact = λ which. pos 0 }

-- the value of a constant that has one
abbrev pub constant_of : Term → Option ℤ
constant_of term = if is_constant term then result_ok (value_of term constant_sight) else None

-- How far the first statement reaches.
use Rattle.std.specs.Prelude.{ℕ, zero, suc, if◌then◌else◌, List, [], ◌∷◌}
use Rattle.rz_lex.specs.declared.token.Token.{Token}
use Rattle.rz_stmt_brackets.specs.Statements.{is_end, open_behind}

-- how many tokens the first statement has, where so many brackets are open
abbrev pub size_of : ℕ → List Token → ℕ
size_of count [] = zero
size_of count (token ∷ tokens) = if is_end token.shape count then 1 else suc (size_of (open_behind token.shape count) tokens)

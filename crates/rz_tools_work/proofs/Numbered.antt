-- Numbers in place of the words `rez` and `derez`.
use Rattle.std.proofs.Common.{◌≡◌, ℕ, true, List, [], ◌∷◌, map, Some, None, refl, sym, subst}
use Rattle.std.specs.Prelude.{option_map}
use Rattle.std.specs.declared.option.Option.{Option}
use Rattle.rz_lex.specs.Within.{AreWithin}
use Rattle.rz_lex.specs.Lexeme.{is_lexed, AreLexed}
use Rattle.rz_lex.specs.declared.token.Shape.{Shape}
use Rattle.rz_lex.specs.declared.token.Shape.TheVariants as shapes
use Rattle.rz_lex.specs.declared.token.Token.{Token}
use Rattle.rz_pre.specs.declared.condition.Tool.{Tool}
use Rattle.rz_pre.specs.declared.condition.Tool.TheVariants as tools
use Rattle.rz_tools_work.specs.ToolWords.{number_for, numbered, shape_or, tool_in}

-- numbers in place of words leave the tokens where they are
within : (tool : Tool) (files : ℕ) (tokens : List Token) → AreWithin files tokens → AreWithin files (map (numbered tool) tokens)
within tool files [] all = tt
within tool files (token ∷ tokens) all = (all.0, within tool files tokens all.1)

pub still_within : (tool : Tool) (files : ℕ) (tokens numbers : List Token) → numbers ≡ map (numbered tool) tokens → AreWithin files tokens → AreWithin files numbers
still_within tool files tokens numbers are all = subst (AreWithin files) (sym are) (within tool files tokens all)

-- and tokens that lines can be cut into
number_lexed : (tool named : Tool) → is_lexed (shapes.Number (number_for tool named)) ≡ true
number_lexed tools.Rez tools.Rez = refl
number_lexed tools.Rez tools.DeRez = refl
number_lexed tools.DeRez tools.Rez = refl
number_lexed tools.DeRez tools.DeRez = refl

shape_lexed : (tool : Tool) (shape : Shape) (named : Option Tool) → is_lexed shape ≡ true → is_lexed (shape_or shape (option_map (number_for tool) named)) ≡ true
shape_lexed tool shape None is = is
shape_lexed tool shape (Some named) is = number_lexed tool named

lexed : (tool : Tool) (tokens : List Token) → AreLexed tokens → AreLexed (map (numbered tool) tokens)
lexed tool [] all = tt
lexed tool (token ∷ tokens) all = (shape_lexed tool token.shape (tool_in token.shape) all.0, lexed tool tokens all.1)

pub still_lexed : (tool : Tool) (tokens numbers : List Token) → numbers ≡ map (numbered tool) tokens → AreLexed tokens → AreLexed numbers
still_lexed tool tokens numbers are all = subst AreLexed (sym are) (lexed tool tokens all)

-- How a line is cut into tokens. (MPW Rez.)
use Rattle.std.specs.Prelude.{◌≡◌, ◌≢◌, ℕ, if◌then◌else◌, List, [], ◌∷◌, Ok, Err, ◌⊎◌}
use Rattle.rz_core.specs.declared.fault.Mark.{Mark}
use Rattle.rz_core.specs.declared.fault.Fault.{Fault}
use Rattle.rz_lex.specs.Classes.{is_blank}
use Rattle.rz_lex.specs.Extent.{is_lexeme, Longest, NoFront}
use Rattle.rz_lex.specs.Shape.{shape_of, no_lexeme_fault}
use Rattle.rz_lex.specs.declared.token.Token.{Token}

-- what follows the blanks at the front
abbrev pub after_blanks : List ℕ → List ℕ
after_blanks [] = []
after_blanks (b ∷ bs) = if is_blank b then after_blanks bs else b ∷ bs

-- after blanks stands the longest lexeme, which is this token, and then what is left after it
pub record Next (mark : Mark) (line : List ℕ) (token : Token) (after : List ℕ) : Type 0 where
  pub lexeme : List ℕ
  pub longest : Longest is_lexeme (after_blanks line) lexeme after
  pub shape : shape_of mark lexeme ≡ Ok token.shape
  pub place : token.mark ≡ mark

-- the line is these tokens with blanks before each, and then the rest
abbrev pub Leads : Mark → List ℕ → List Token → List ℕ → Type 0
Leads mark line [] rest = line ≡ rest
Leads mark line (token ∷ tokens) rest = (after : List ℕ) × Next mark line token after × Leads mark after tokens rest

-- these are the tokens of the line: after them stand only blanks
abbrev pub Cuts : Mark → List ℕ → List Token → Type 0
Cuts mark line tokens = (rest : List ℕ) × Leads mark line tokens rest × (after_blanks rest ≡ [])

-- the fault of what stands here: no front is a lexeme, or the longest that is one has it
abbrev pub IsBad : Mark → List ℕ → Fault → Type 0
IsBad mark rest fault =
    (NoFront is_lexeme rest × (fault ≡ no_lexeme_fault mark rest))
    ⊎ ((lexeme : List ℕ) × (after : List ℕ) × Longest is_lexeme rest lexeme after × (shape_of mark lexeme ≡ Err fault))

-- this is the first fault of the line: some tokens and blanks, and then what has it
pub record Refuses (mark : Mark) (line : List ℕ) (fault : Fault) : Type 0 where
  pub tokens : List Token
  pub rest : List ℕ
  pub leads : Leads mark line tokens rest
  pub some : after_blanks rest ≢ []
  pub bad : IsBad mark (after_blanks rest) fault

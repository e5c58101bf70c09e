-- What a step of an expansion does.
use Rattle.std.specs.Prelude.{◌≡◌, ◌⊎◌, ℕ, Bool, true, false, ◌==◌, if◌then◌else◌, List, [], ◌∷◌, ◌++◌, Option, Some, None}
use Rattle.rz_core.specs.declared.fault.Mark.{Mark}
use Rattle.rz_lex.specs.Printed.{token_of}
use Rattle.rz_lex.specs.declared.token.Token.{Token}
use Rattle.rz_pre.specs.Live.{token_row, Row}

-- the position of a macro that is being replaced, and of its next token
abbrev pub Frame : Type 0
Frame = ℕ × ℕ

-- the macro is being replaced
abbrev pub is_inside : ℕ → List Frame → Bool
is_inside k [] = false
is_inside k (f ∷ fs) = if k == f.0 then true else is_inside k fs

-- it is a live macro that isn't being replaced
abbrev pub is_opened : Option ℕ → List Frame → Bool
is_opened None frames = false
is_opened (Some k) frames = if is_inside k frames then false else true

-- the token is put out at a place
pub record Keeps (rows : List Row) (token : Token) (mark : Mark) (frames after : List Frame) (done new : List Token) : Type 0 where
  pub plain : is_opened (token_row rows token.shape) frames ≡ false
  pub same : after ≡ frames
  pub put : new ≡ done ++ token_of mark token.shape ∷ []

-- the token is replaced next
pub record Replaces (rows : List Row) (token : Token) (frames after : List Frame) (done new : List Token) : Type 0 where
  pub row : ℕ
  pub found : token_row rows token.shape ≡ Some row
  pub fresh : is_inside row frames ≡ false
  pub opened : after ≡ frames ++ (row, 0) ∷ []
  pub same : new ≡ done

abbrev pub Handles : List Row → Token → Mark → List Frame → List Frame → List Token → List Token → Type 0
Handles rows token mark frames after done new = Keeps rows token mark frames after done new ⊎ Replaces rows token frames after done new

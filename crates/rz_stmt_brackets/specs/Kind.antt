-- A resource type as it is written. (MPW Rez.)
use Rattle.std.specs.Prelude.{ℕ, [], ◌∷◌, Option, Some, None}
use Rattle.std.specs.Int.{from_be_bytes, w32}
use Rattle.rz_lex.specs.declared.token.Shape.{Shape}
use Rattle.rz_lex.specs.declared.token.Shape.TheVariants as shapes

-- a literal of four bytes as a number, the first byte highest
abbrev pub kind_in : Shape → Option ℕ
kind_in (shapes.Literal (a ∷ b ∷ c ∷ d ∷ [])) = Some (from_be_bytes w32 (a ∷ b ∷ c ∷ d ∷ []))
kind_in shape = None

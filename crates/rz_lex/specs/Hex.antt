-- What the bytes between the quote marks of a hex text stand for. (MPW Rez.)
use Rattle.std.specs.Prelude.{ℕ, ◌+◌, ◌*◌, nat_lt, if◌then◌else◌, List, [], ◌∷◌, Option, Some, None}
use Rattle.rz_lex.specs.Classes.{is_blank}
use Rattle.rz_lex.specs.Digits.{digit_value}
use Rattle.rz_lex.specs.Escape.{before}

abbrev mutual
  -- the bytes that pairs of hex digits spell, with blanks anywhere; none where a digit is left over or another byte
  -- stands
  pub hex_value : List ℕ → Option (List ℕ)
  hex_value [] = Some []
  hex_value (b ∷ bs) =
      if is_blank b then hex_value bs
      else if nat_lt (digit_value b) 16 then hex_behind (digit_value b) bs
      else None

  -- the same, after the first digit of a pair
  pub hex_behind : ℕ → List ℕ → Option (List ℕ)
  hex_behind high [] = None
  hex_behind high (b ∷ bs) =
      if is_blank b then hex_behind high bs
      else if nat_lt (digit_value b) 16 then before ((16 * high + digit_value b) ∷ []) (hex_value bs)
      else None

-- the same, after a first digit or after none
abbrev pub hex_from : Option ℕ → List ℕ → Option (List ℕ)
hex_from None bs = hex_value bs
hex_from (Some high) bs = hex_behind high bs

-- The value of an expression: whole numbers, each result reduced once to 32 bits with a sign. (MPW Rez.)
use Rattle.std.specs.Prelude.{ℕ, zero, suc, ◌^◌, ℤ, pos, negsuc, ◌+ℤ◌, ◌-ℤ◌, ◌*ℤ◌, neg_ℤ, Bool, true, false, ◌&&◌, ◌||◌, not, if◌then◌else◌, nat_lt, List, Option, Some, None, Ok, Err, int_div, int_rem, int_lt, int_le}
use Rattle.std.specs.Int.{w32, int_wrap, int_shr, int_bit_and, int_bit_or, int_bit_xor, int_bit_not}
use Rattle.std.specs.declared.result.Result.{Result}
use Rattle.rz_core.specs.Stop.{◌>>=◌}
use Rattle.rz_expr.specs.declared.expr.UnaryOp.{UnaryOp}
use Rattle.rz_expr.specs.declared.expr.UnaryOp.TheVariants as one
use Rattle.rz_expr.specs.declared.expr.BinaryOp.{BinaryOp}
use Rattle.rz_expr.specs.declared.expr.BinaryOp.TheVariants as two
use Rattle.rz_expr.specs.declared.value.EvalFault.{EvalFault}
use Rattle.rz_expr.specs.declared.value.EvalFault.TheVariants.{ZeroDivisor, UnknownName, BadIndex, LaterData, DataWidth, BadShift}
use Rattle.rz_expr.specs.Term.{Term, Constant, Named, Indexed, RowsOf, RowNumber, BitsAt, FactOf, OfOne, OfTwo}
use Rattle.rz_expr.specs.Environment.{Environment, Sight, place_key, count_key, rows_key, place_in_key, row_key}

-- reduced to 32 bits with a sign
abbrev pub reduced : ℤ → ℤ
reduced number = int_wrap w32 number

-- 1 or 0
abbrev pub truth : Bool → ℤ
truth holds = if holds then pos 1 else pos 0

abbrev pub is_zero : ℤ → Bool
is_zero (pos zero) = true
is_zero (pos (suc n)) = false
is_zero (negsuc n) = false

-- the same number
abbrev pub is_same : ℤ → ℤ → Bool
is_same left right = int_le left right && int_le right left

-- where the divisor isn't 0
abbrev pub divided : (ℤ → ℤ → ℤ) → ℤ → ℤ → Result ℤ EvalFault
divided quotient left right = if is_zero right then Err ZeroDivisor else Ok (reduced (quotient left right))

-- by a count from 0 to 31
abbrev pub shifted : (ℤ → ℕ → ℤ) → ℤ → ℤ → Result ℤ EvalFault
shifted shift left (pos count) = if nat_lt count 32 then Ok (reduced (shift left count)) else Err (BadShift (pos count))
shifted shift left (negsuc n) = Err (BadShift (negsuc n))

-- an operator and its operand
abbrev pub operate_one : UnaryOp → ℤ → ℤ
operate_one one.Minus operand = reduced (neg_ℤ operand)
operate_one one.Complement operand = int_bit_not w32 operand
operate_one one.Not operand = truth (is_zero operand)

-- an operator between its operands
abbrev pub operate : BinaryOp → ℤ → ℤ → Result ℤ EvalFault
operate two.Times left right = Ok (reduced (left *ℤ right))
operate two.Divide left right = divided int_div left right
operate two.Remainder left right = divided int_rem left right
operate two.Plus left right = Ok (reduced (left +ℤ right))
operate two.Minus left right = Ok (reduced (left -ℤ right))
operate two.ShiftLeft left right = shifted (λ number count. number *ℤ pos (2 ^ count)) left right
operate two.ShiftRight left right = shifted int_shr left right
operate two.Greater left right = Ok (truth (int_lt right left))
operate two.GreaterEqual left right = Ok (truth (int_le right left))
operate two.Less left right = Ok (truth (int_lt left right))
operate two.LessEqual left right = Ok (truth (int_le left right))
operate two.Equal left right = Ok (truth (is_same left right))
operate two.NotEqual left right = Ok (truth (not (is_same left right)))
operate two.BitAnd left right = Ok (int_bit_and w32 left right)
operate two.BitXor left right = Ok (int_bit_xor w32 left right)
operate two.BitOr left right = Ok (int_bit_or w32 left right)
operate two.And left right = Ok (truth (not (is_zero left) && not (is_zero right)))
operate two.Or left right = Ok (truth (not (is_zero left) || not (is_zero right)))

-- the value of a name, where it has one
abbrev pub known_value : List ℕ → Option ℤ → Result ℤ EvalFault
known_value name (Some value) = Ok (reduced value)
known_value name None = Err (UnknownName (record { bytes = name }))

-- the place of a label in the row of this number, where its array has so many rows
abbrev pub place_in_row : List ℕ → Environment → ℤ → Option ℤ → Result ℤ EvalFault
place_in_row name names number None = Err (UnknownName (record { bytes = name }))
place_in_row name names number (Some rows) =
    if int_lt number (pos 1) || int_lt rows number then Err (BadIndex number) else known_value name (names.give (place_in_key name number))

-- the number in so many bits, 1 to 32, from a bit on, where they are there
abbrev pub known_bits : ℤ → ℤ → Option ℤ → Result ℤ EvalFault
known_bits first width (Some number) = Ok (reduced number)
known_bits first width None = Err (LaterData first (first +ℤ width))

abbrev pub number_at : Sight → ℤ → ℤ → Result ℤ EvalFault
number_at sight first width =
    if int_lt width (pos 1) || int_lt (pos 32) width then Err (DataWidth width) else known_bits first width (sight.bits first width)

-- a fault that stays one whatever else comes to be seen: of a name or of bits that are seen, but for none
abbrev pub stays : EvalFault → Bool
stays ZeroDivisor = true
stays (UnknownName name) = false
stays (BadIndex number) = true
stays (LaterData first end) = false
stays (DataWidth width) = true
stays (BadShift count) = true

-- the fault that keeps a name
abbrev pub IsUnknown : Result ℤ EvalFault → Type 0
IsUnknown (Err (UnknownName name)) = Unit {0}
IsUnknown other = ⊥

-- the value, or the first fault: the left operand's, else the right operand's, else the operator's; of bits the name's,
-- else the start's, else the width's, else that of bits that aren't there; of an indexed label the index's, else that
-- of a label whose rows aren't known, else that of an index that is none of them
abbrev pub value_of : Term → Sight → Result ℤ EvalFault
value_of (Constant number) sight = Ok number
value_of (Named name) sight = known_value name (sight.names.give (place_key name))
value_of (Indexed name index) sight = value_of index sight >>= λ number. place_in_row name sight.names number (sight.names.give (rows_key name))
value_of (RowsOf name) sight = known_value name (sight.names.give (count_key name))
value_of (RowNumber name) sight = known_value name (sight.names.give (row_key name))
value_of (BitsAt name start width) sight =
    known_value name (sight.names.give (place_key name))
    >>= λ place. value_of start sight
    >>= λ behind. value_of width sight
    >>= λ size. number_at sight (place +ℤ behind) size
value_of (FactOf which) sight = Ok (reduced (sight.fact which))
value_of (OfOne op operand) sight = value_of operand sight >>= λ value. Ok (operate_one op value)
value_of (OfTwo op left right) sight = value_of left sight >>= λ one. value_of right sight >>= λ other. operate op one other

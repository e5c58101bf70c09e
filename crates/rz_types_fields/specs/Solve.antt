-- Which value a name has where the value of an expression is known: the operators undone, from the outside in. (MPW Rez.)
use Rattle.std.specs.Prelude.{◌≡◌, ℕ, ◌==◌, ◌%◌, ◌^◌, ℤ, pos, negsuc, ◌+ℤ◌, ◌-ℤ◌, ◌*ℤ◌, neg_ℤ, int_div, int_rem, int_le, nat_lt, Bool, true, false, ◌&&◌, not, if◌then◌else◌, List, [], ◌∷◌, Option, Some, None, option_and_then, option_map}
use Rattle.std.specs.Int.{cast_unsigned, w64}
use Rattle.std.specs.List.{flat_map, list_any, AllByRecursion}
use Rattle.std.specs.Ordering.{int_eq}
use Rattle.std.specs.Result.{result_ok}
use Rattle.rz_expr.specs.Environment.{count_key, count_of, place_in, place_key, place_of, row_in, rows_of, Environment, Key, Sight}
use Rattle.rz_expr.specs.Mention.{alone, counted, mentions, with_bits, Mention}
use Rattle.rz_expr.specs.Term.{BitsAt, Constant, FactOf, Indexed, Named, OfOne, OfTwo, RowNumber, RowsOf, Term}
use Rattle.rz_expr.specs.Value.{is_zero, value_of}
use Rattle.rz_expr.specs.declared.expr.UnaryOp.{UnaryOp}
use Rattle.rz_expr.specs.declared.expr.UnaryOp.TheVariants as one
use Rattle.rz_expr.specs.declared.expr.BinaryOp.{BinaryOp}
use Rattle.rz_expr.specs.declared.expr.BinaryOp.TheVariants as two

-- Names in expressions.

-- the same name of the same kind; keys have their names in lower case
abbrev pub is_same_name : List ℕ → List ℕ → Bool
is_same_name [] [] = true
is_same_name (byte ∷ bytes) (other ∷ others) = (byte == other) && is_same_name bytes others
is_same_name bytes others = false

abbrev pub is_same_key : Key → Key → Bool
is_same_key (place_of name) (place_of other) = is_same_name name other
is_same_key (count_of name) (count_of other) = is_same_name name other
is_same_key (rows_of name) (rows_of other) = is_same_name name other
is_same_key (place_in name row) (place_in other number) = is_same_name name other && int_eq row number
is_same_key (row_in name) (row_in other) = is_same_name name other
is_same_key key other = false

-- the keys whose value a number can tell: those of labels and arrays; those of the rows of an indexed label and of the row
-- around can't be told
abbrev pub tellable : Mention → List Key
tellable (alone name) = place_key name ∷ []
tellable (counted name) = count_key name ∷ []
tellable (with_bits name) = place_key name ∷ []
tellable other = []

-- those in an expression, in order
abbrev pub keys_in : Term → List Key
keys_in term = flat_map tellable (mentions term)

-- the expression has this name in it
abbrev pub has_key : Key → Term → Bool
has_key key term = list_any (is_same_key key) (keys_in term)

-- Operators.

-- the operand of which an operator made this number
abbrev pub undo_one : UnaryOp → ℤ → Option ℤ
undo_one one.Minus number = Some (neg_ℤ number)
undo_one op number = None

-- the quotient, where the division leaves nothing
abbrev pub exact : ℤ → ℤ → Option ℤ
exact divisor number = if is_zero divisor then None else if is_zero (int_rem number divisor) then Some (int_div number divisor) else None

abbrev pub product : ℤ → ℤ → Option ℤ
product factor number = Some (number *ℤ factor)

-- by a power of two with an exponent from 0 to 31
abbrev pub by_power : (ℤ → ℤ → Option ℤ) → ℤ → ℤ → Option ℤ
by_power undo (pos count) number = if nat_lt count 32 then undo (pos (2 ^ count)) number else None
by_power undo (negsuc n) number = None

-- the left operand, where the right one is known
abbrev pub undo_left : BinaryOp → ℤ → ℤ → Option ℤ
undo_left two.Plus right number = Some (number -ℤ right)
undo_left two.Minus right number = Some (number +ℤ right)
undo_left two.Times right number = exact right number
undo_left two.Divide right number = product right number
undo_left two.ShiftLeft right number = by_power exact right number
undo_left two.ShiftRight right number = by_power product right number
undo_left op right number = None

-- the right operand, where the left one is known
abbrev pub undo_right : BinaryOp → ℤ → ℤ → Option ℤ
undo_right two.Plus left number = Some (number -ℤ left)
undo_right two.Minus left number = Some (left -ℤ number)
undo_right two.Times left number = exact left number
undo_right op left number = None

-- a whole number of 64 bits with a sign
abbrev pub in_64_bits : ℤ → Option ℤ
in_64_bits number = if int_le (negsuc 9223372036854775807) number && int_le number (pos 9223372036854775807) then Some number else None

-- Solving.

abbrev pub found_if : Bool → ℤ → Option ℤ
found_if holds number = if holds then Some number else None

-- the value that the name has for the expression to come to this number; what stands beside it is known
abbrev pub solve : Key → Sight → Term → ℤ → Option ℤ
solve key sight (Constant other) number = None
solve key sight (Named name) number = found_if (is_same_key key (place_key name)) number
solve key sight (Indexed name index) number = None
solve key sight (RowsOf name) number = found_if (is_same_key key (count_key name)) number
solve key sight (RowNumber name) number = None
solve key sight (BitsAt name start width) number = None
solve key sight (FactOf which) number = None
solve key sight (OfOne op operand) number = option_and_then (solve key sight operand) (option_and_then in_64_bits (undo_one op number))
solve key sight (OfTwo op left right) number =
    if has_key key left
    then option_and_then (λ side. option_and_then (solve key sight left) (option_and_then in_64_bits (undo_left op side number))) (result_ok (value_of right sight))
    else option_and_then (λ side. option_and_then (solve key sight right) (option_and_then in_64_bits (undo_right op side number))) (result_ok (value_of left sight))

-- a number of rows from 0 to below 2 to the power of the width
abbrev pub solved_count : ℕ → Key → Sight → Term → ℕ → Option ℤ
solved_count width key sight term stored = option_map (λ count. pos (cast_unsigned w64 count % 2 ^ width)) (solve key sight term (pos stored))

-- the value of a name where an expression is stored so: a number of rows, or a place
abbrev pub solved_value : ℕ → Key → Sight → Term → ℕ → Option ℤ
solved_value width (place_of name) sight term stored = solve (place_of name) sight term (pos stored)
solved_value width key sight term stored = solved_count width key sight term stored

-- Which names can be solved.

abbrev pub undoes_one : UnaryOp → Bool
undoes_one one.Minus = true
undoes_one op = false

abbrev pub undoes_left : BinaryOp → Bool
undoes_left two.Plus = true
undoes_left two.Minus = true
undoes_left two.Times = true
undoes_left two.Divide = true
undoes_left two.ShiftLeft = true
undoes_left two.ShiftRight = true
undoes_left op = false

abbrev pub undoes_right : BinaryOp → Bool
undoes_right two.Plus = true
undoes_right two.Minus = true
undoes_right two.Times = true
undoes_right op = false

-- the name stands in the expression once, and above it are operators that can be undone alone
abbrev pub can_solve : Key → Term → Bool
can_solve key (Constant number) = false
can_solve key (Named name) = is_same_key key (place_key name)
can_solve key (Indexed name index) = false
can_solve key (RowsOf name) = is_same_key key (count_key name)
can_solve key (RowNumber name) = false
can_solve key (BitsAt name start width) = false
can_solve key (FactOf which) = false
can_solve key (OfOne op operand) = undoes_one op && can_solve key operand
can_solve key (OfTwo op left right) =
    if has_key key left then undoes_left op && not (has_key key right) && can_solve key left else undoes_right op && can_solve key right

-- Solving back.

-- a name that isn't known is solved to the value that it has
abbrev pub IsSolvedTo : Bool → Option ℤ → Option ℤ → Type 0
IsSolvedTo true solved value = Unit {0}
IsSolvedTo false solved value = solved ≡ value

-- so is each of the names in an expression
abbrev pub AreSolved : (known : Key → Bool) → (solved : Key → Option ℤ) → Environment → Term → Type 0
AreSolved known solved names term = AllByRecursion (λ key. IsSolvedTo (known key) (solved key) (names.give key)) (keys_in term)

-- what a number stores tells the values of the names of its expression that weren't known before it
abbrev pub SolvesBack : (known : Key → Bool) → ℕ → Sight → Term → ℕ → Type 0
SolvesBack known width sight term stored = AreSolved known (λ key. solved_value width key sight term stored) sight.names term

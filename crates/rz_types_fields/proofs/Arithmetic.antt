-- An expression of a field has a value, a divisor of 0 or a bad shift.
use Rattle.std.proofs.Common.{◌≡◌, ℕ, ℤ, pos, negsuc, Bool, true, false, List, [], Option, Some, None, Result, Ok, Err, refl, sym, ◌∙◌}
use Rattle.std.specs.Prelude.{◌*ℤ◌, ◌^◌, if◌then◌else◌, int_div, int_rem, nat_lt}
use Rattle.std.specs.Int.{int_shr}
use Rattle.std.specs.Option.{is_some}
use Rattle.rz_core.proofs.Tests.{both}
use Rattle.rz_core.specs.Stop.{◌>>=◌, Gives, OnFault}
use Rattle.rz_core.specs.declared.facts.Facts.{Facts}
use Rattle.rz_core.specs.declared.fault.Fault.{Fault}
use Rattle.rz_core.specs.declared.fault.Mark.{Mark}
use Rattle.rz_core.specs.declared.stop.Stop.{Stop}
use Rattle.rz_core.specs.declared.stop.Stop.TheVariants.{NoMemory, Refused}
use Rattle.rz_expr.specs.Constant.{constant_sight, is_constant}
use Rattle.rz_expr.specs.Environment.{place_key, predefined, Environment, Sight}
use Rattle.rz_expr.specs.Mention.{alone, around, counted, fact, indexed, is_true_or_false, mentions, with_bits, Mention}
use Rattle.rz_expr.specs.Term.{BitsAt, Constant, FactOf, Indexed, Named, OfOne, OfTwo, RowNumber, RowsOf, Term}
use Rattle.rz_expr.specs.Value.{divided, is_zero, known_value, operate, operate_one, reduced, shifted, value_of}
use Rattle.rz_expr.specs.declared.expr.BinaryOp.{BinaryOp}
use Rattle.rz_expr.specs.declared.expr.BinaryOp.TheVariants as two
use Rattle.rz_expr.specs.declared.value.EvalFault.{EvalFault}
use Rattle.rz_expr.specs.declared.value.EvalFault.TheVariants.{BadShift, ZeroDivisor}
use Rattle.rz_expr.proofs.Cases.{same_value}
use Rattle.rz_expr.proofs.Items.{all_more, all_two}
use Rattle.rz_types_fields.specs.Value.{constant_value, field_sight, in_head, is_field_expression, number_of, with_fault, IsArithmetic, IsArithmeticFault}

chained : (first : Result ℤ EvalFault) (next : ℤ → Result ℤ EvalFault) → IsArithmetic first → ((x : ℤ) → IsArithmetic (next x)) → IsArithmetic (first >>= next)
chained (Ok x) next one rest = rest x
chained (Err fault) next one rest = one

either : (test : Bool) (fault : EvalFault) (x : ℤ) → IsArithmetic (Err fault) → IsArithmetic (if test then Err fault else Ok x)
either true fault x one = one
either false fault x one = tt

or_fault : (test : Bool) (fault : EvalFault) (x : ℤ) → IsArithmetic (Err fault) → IsArithmetic (if test then Ok x else Err fault)
or_fault true fault x one = tt
or_fault false fault x one = one

divided_sound : (quotient : ℤ → ℤ → ℤ) (left right : ℤ) → IsArithmetic (divided quotient left right)
divided_sound quotient left right = either (is_zero right) ZeroDivisor (reduced (quotient left right)) tt

shifted_sound : (shift : ℤ → ℕ → ℤ) (left right : ℤ) → IsArithmetic (shifted shift left right)
shifted_sound shift left (pos count) = or_fault (nat_lt count 32) (BadShift (pos count)) (reduced (shift left count)) tt
shifted_sound shift left (negsuc n) = tt

pub operate_sound : (op : BinaryOp) (left right : ℤ) → IsArithmetic (operate op left right)
operate_sound two.Times left right = tt
operate_sound two.Divide left right = divided_sound int_div left right
operate_sound two.Remainder left right = divided_sound int_rem left right
operate_sound two.Plus left right = tt
operate_sound two.Minus left right = tt
operate_sound two.ShiftLeft left right = shifted_sound (λ number count. number *ℤ pos (2 ^ count)) left right
operate_sound two.ShiftRight left right = shifted_sound int_shr left right
operate_sound two.Greater left right = tt
operate_sound two.GreaterEqual left right = tt
operate_sound two.Less left right = tt
operate_sound two.LessEqual left right = tt
operate_sound two.Equal left right = tt
operate_sound two.NotEqual left right = tt
operate_sound two.BitAnd left right = tt
operate_sound two.BitXor left right = tt
operate_sound two.BitOr left right = tt
operate_sound two.And left right = tt
operate_sound two.Or left right = tt

given_sound : (name : List ℕ) (given : Option ℤ) (value : ℤ) → given ≡ Some value → IsArithmetic (known_value name given)
given_sound name (Some own) value is = tt
given_sound name None value is = absurd cc

something : (given : Option ℤ) → is_some given ≡ true → (value : ℤ) × (given ≡ Some value)
something (Some value) is = (value, refl)
something None is = absurd cc

-- `true` and `false` have values
abbrev pub KnowsWords : Environment → Type 0
KnowsWords names = (name : List ℕ) (value : ℤ) → predefined name ≡ Some value → (given : ℤ) × (names.give (place_key name) ≡ Some given)

pub sound : (sight : Sight) → KnowsWords sight.names → (term : Term) → is_field_expression term ≡ true → IsArithmetic (value_of term sight)
sound sight gives (Constant number) is = tt
sound sight gives (Named name) is =
    let own = something (predefined name) (both (in_head (alone name)) true is).0 in
    let given = gives name own.0 own.1 in
    given_sound name (sight.names.give (place_key name)) given.0 given.1
sound sight gives (Indexed name index) is = absurd cc
sound sight gives (RowsOf name) is = absurd cc
sound sight gives (RowNumber name) is = absurd cc
sound sight gives (BitsAt name start width) is = absurd cc
sound sight gives (FactOf which) is = tt
sound sight gives (OfOne op operand) is = chained (value_of operand sight) (λ value. Ok (operate_one op value)) (sound sight gives operand is) (λ x. tt)
sound sight gives (OfTwo op left right) is =
    let each = all_two in_head (mentions left) (mentions right) is in
    chained (value_of left sight) (λ one. value_of right sight >>= λ other. operate op one other) (sound sight gives left each.0)
    (λ one. chained (value_of right sight) (λ other. operate op one other) (sound sight gives right each.1) (λ other. operate_sound op one other))

facts_see : (known : Facts) → KnowsWords (field_sight known []).names
facts_see known = λ name value is. (value, sym (same_value name) ∙ is)

constants_see : KnowsWords constant_sight.names
constants_see = λ name value is. (value, sym (same_value name) ∙ is)

constant_one : (one : Mention) → is_true_or_false one ≡ true → in_head one ≡ true
constant_one (alone name) is = is
constant_one (indexed name) is = absurd cc
constant_one (counted name) is = absurd cc
constant_one (around name) is = absurd cc
constant_one (with_bits name) is = absurd cc
constant_one (fact which) is = refl

pub constant_stands : (term : Term) → is_constant term ≡ true → is_field_expression term ≡ true
constant_stands term is = all_more is_true_or_false in_head constant_one (mentions term) is

pub field_sound : (known : Facts) (term : Term) → is_field_expression term ≡ true → IsArithmetic (value_of term (field_sight known []))
field_sound known term is = sound (field_sight known []) (facts_see known) term is

-- the call gave a value or such a fault
valued_sound : (mark : Mark) (value : Result ℤ EvalFault) (answer : Result ℤ (Stop Fault)) → IsArithmetic value
    → Gives (with_fault mark value) answer → OnFault answer (IsArithmeticFault mark)
valued_sound mark value (Ok number) is gives = tt
valued_sound mark value (Err NoMemory) is gives = tt
valued_sound mark (Ok number) (Err (Refused fault)) is gives = absurd cc
valued_sound mark (Err cause) (Err (Refused fault)) is gives = (cause, is, sym (cc gives))

pub number_sound : (mark : Mark) (known : Facts) (term : Term) (answer : Result ℤ (Stop Fault)) → is_field_expression term ≡ true
    → Gives (number_of mark known term) answer → OnFault answer (IsArithmeticFault mark)
number_sound mark known term answer is gives = valued_sound mark (value_of term (field_sight known [])) answer (field_sound known term is) gives

pub constant_sound : (mark : Mark) (term : Term) (answer : Result ℤ (Stop Fault)) → is_constant term ≡ true
    → Gives (constant_value mark term) answer → OnFault answer (IsArithmeticFault mark)
constant_sound mark term answer is gives =
    valued_sound mark (value_of term constant_sight) answer (sound constant_sight constants_see term (constant_stands term is)) gives

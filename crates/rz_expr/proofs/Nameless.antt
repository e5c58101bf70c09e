-- An expression without names never lacks the value of a name.
use Rattle.std.proofs.Common.{◌≡◌, ℕ, ℤ, pos, negsuc, Bool, true, false, Result, Ok, Err, sym, subst}
use Rattle.std.specs.Prelude.{◌*ℤ◌, ◌^◌, if◌then◌else◌, int_div, int_rem, nat_lt}
use Rattle.std.specs.Int.{int_shr}
use Rattle.rz_core.specs.Stop.{◌>>=◌}
use Rattle.rz_core.specs.declared.stop.Stop.{Stop}
use Rattle.rz_core.specs.declared.stop.Stop.TheVariants.{NoMemory}
use Rattle.rz_expr.proofs.Items.{none_two}
use Rattle.rz_expr.specs.Unvalued.{IsCopyOf}
use Rattle.rz_expr.specs.Environment.{Sight}
use Rattle.rz_expr.specs.Mention.{has_names, is_name, mentions}
use Rattle.rz_expr.specs.Term.{Term, Constant, Named, Indexed, RowsOf, RowNumber, BitsAt, FactOf, OfOne, OfTwo}
use Rattle.rz_expr.specs.Value.{divided, is_zero, operate, operate_one, reduced, shifted, value_of, IsUnknown}
use Rattle.rz_expr.specs.declared.expr.BinaryOp.{BinaryOp}
use Rattle.rz_expr.specs.declared.expr.BinaryOp.TheVariants as two
use Rattle.rz_expr.specs.declared.value.EvalFault.{EvalFault}
use Rattle.rz_expr.specs.declared.value.EvalFault.TheVariants.{BadShift, ZeroDivisor}

chained : (first : Result ℤ EvalFault) (next : ℤ → Result ℤ EvalFault) → (IsUnknown first → ⊥) → ((x : ℤ) → IsUnknown (next x) → ⊥) → IsUnknown (first >>= next) → ⊥
chained (Ok x) next known goes_on is = goes_on x is
chained (Err fault) next known goes_on is = known is

either : (test : Bool) (fault : EvalFault) (x : ℤ) → (IsUnknown (Err fault) → ⊥) → IsUnknown (if test then Err fault else Ok x) → ⊥
either true fault x never is = never is
either false fault x never is = is

or_fault : (test : Bool) (fault : EvalFault) (x : ℤ) → (IsUnknown (Err fault) → ⊥) → IsUnknown (if test then Ok x else Err fault) → ⊥
or_fault true fault x never is = is
or_fault false fault x never is = never is

divided_known : (quotient : ℤ → ℤ → ℤ) (left right : ℤ) → IsUnknown (divided quotient left right) → ⊥
divided_known quotient left right is = either (is_zero right) ZeroDivisor (reduced (quotient left right)) (λ never. never) is

shifted_known : (shift : ℤ → ℕ → ℤ) (left right : ℤ) → IsUnknown (shifted shift left right) → ⊥
shifted_known shift left (pos count) is = or_fault (nat_lt count 32) (BadShift (pos count)) (reduced (shift left count)) (λ never. never) is
shifted_known shift left (negsuc n) is = is

operate_known : (op : BinaryOp) (left right : ℤ) → IsUnknown (operate op left right) → ⊥
operate_known two.Times left right is = is
operate_known two.Divide left right is = divided_known int_div left right is
operate_known two.Remainder left right is = divided_known int_rem left right is
operate_known two.Plus left right is = is
operate_known two.Minus left right is = is
operate_known two.ShiftLeft left right is = shifted_known (λ number count. number *ℤ pos (2 ^ count)) left right is
operate_known two.ShiftRight left right is = shifted_known int_shr left right is
operate_known two.Greater left right is = is
operate_known two.GreaterEqual left right is = is
operate_known two.Less left right is = is
operate_known two.LessEqual left right is = is
operate_known two.Equal left right is = is
operate_known two.NotEqual left right is = is
operate_known two.BitAnd left right is = is
operate_known two.BitXor left right is = is
operate_known two.BitOr left right is = is
operate_known two.And left right is = is
operate_known two.Or left right is = is

pub nameless : (term : Term) (sight : Sight) → has_names term ≡ false → IsUnknown (value_of term sight) → ⊥
nameless (Constant number) sight is known = known
nameless (Named name) sight is known = cc
nameless (Indexed name index) sight is known = cc
nameless (RowsOf name) sight is known = cc
nameless (RowNumber name) sight is known = cc
nameless (BitsAt name start width) sight is known = cc
nameless (FactOf which) sight is known = known
nameless (OfOne op operand) sight is known = chained (value_of operand sight) (λ value. Ok (operate_one op value)) (nameless operand sight is) (λ x later. later) known
nameless (OfTwo op left right) sight is known =
    let each = none_two is_name (mentions left) (mentions right) is in
    chained (value_of left sight) (λ one. value_of right sight >>= λ other. operate op one other) (nameless left sight each.0)
    (λ one. chained (value_of right sight) (λ other. operate op one other) (nameless right sight each.1) (λ other. operate_known op one other)) known

-- so such an expression's fault is copied without memory
pub copied_nameless : (fault : EvalFault) (answer : Stop EvalFault) (term : Term) (sight : Sight) → value_of term sight ≡ Err fault → IsCopyOf fault answer
    → has_names term ≡ false → answer ≡ NoMemory → ⊥
copied_nameless fault answer term sight is copy none stopped = nameless term sight none (subst IsUnknown (sym is) (subst (IsCopyOf fault) stopped copy))

pub same_stop : (one other : Stop EvalFault) → ◌≡◌ {A = Result ℤ (Stop EvalFault)} (Err one) (Err other) → one ≡ other
same_stop one other same = cc

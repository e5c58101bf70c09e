-- What is seen of bits before a place, of which some are late, and values that are late.
use Rattle.std.proofs.Common.{◌≡◌, ℕ, ◌+◌, ◌≤◌, ◌<◌, Bool, true, false, not, ◌||◌, ℤ, pos, negsuc, ◌+ℤ◌, ◌≤ℤ◌, List, length, get_or, drop, map, Option, Some, None, Result, Ok, Err, Bor, refl, sym, ap, ◌∙◌, arith}
use Rattle.std.specs.Prelude.{if◌then◌else◌, nat_abs, option_map}
use Rattle.std.specs.Result.{is_ok, result_ok}
use Rattle.std.proofs.lemmas.Int.{ints}
use Rattle.std.proofs.lemmas.List.{drop_all, drop_more}
use Rattle.rz_bits.specs.View.{number_at}
use Rattle.rz_expr.specs.Environment.{IsSeenIn, Sight}
use Rattle.rz_expr.specs.Term.{term_of, Term}
use Rattle.rz_expr.specs.Value.{value_of}
use Rattle.rz_expr.specs.declared.expr.Expr.{Expr}
use Rattle.rz_expr.specs.declared.value.EvalFault.{EvalFault}
use Rattle.rz_expr.proofs.Grows.{value_grows}
use Rattle.rz_types_fields.specs.Passed.{Names}
use Rattle.rz_types_fields.specs.Sees.{beside, bits_before, hit, is_late, marked, names_later, Late}
use Rattle.rz_types_fields.specs.Spells.{is_one_late}
use Rattle.rz_types_fields.proofs.Marks.{beside_marked, cut_number}

-- Bits.

-- a number that ends before a place is seen there
pub before_number : (bits : List Bool) (at : ℕ) (first : ℤ) (width : ℕ) (number : Option ℕ) → number ≡ number_at bits (nat_abs first) width
    → pos 0 ≤ℤ first → (first +ℤ pos width) ≤ℤ pos at → option_map (λ n. pos n) number ≡ bits_before bits at first (pos width)
before_number bits at (pos first) width number is low most = ap (option_map (λ n. pos n)) (is ∙ cut_number bits at first width (omega (arith, ints, most)))
before_number bits at (negsuc first) width number is low most = absurd (omega (arith, ints, low))

-- Values.

-- what is seen without the late bits is seen
hidden_seen : (marks : List Bool) (sight : Sight) → IsSeenIn (beside marks sight) sight
hidden_seen marks sight = record {
  names = record { give = λ key value is. is };
  bits = λ first width value is. shown (hit marks first width) (sight.bits first width) value is;
  fact = λ which. refl;
}
  where
    shown : (late : Bool) (seen : Option ℤ) (value : ℤ) → (if late then None else seen) ≡ Some value → seen ≡ Some value
    shown true seen value is = absurd cc
    shown false seen value is = is

-- a value without the late bits is the value
pub value_beside : (marks : List Bool) (sight : Sight) (term : Term) (value : ℤ) → Ok value ≡ value_of term (beside marks sight) → Some value ≡ result_ok (value_of term sight)
value_beside marks sight term value is = ap result_ok (sym (value_grows (beside marks sight) sight (hidden_seen marks sight) term value (sym is)))

abbrev late_value : Names → Term → Result ℤ EvalFault → Bool
late_value met term value = names_later met term || not (is_ok value)

-- then a number with it is late where it names a label after it
pub late_named : (met : Names) (marks : List Bool) (at : ℕ) (sight : Sight) (term : Term) (value : ℤ) (later : Bool) → Ok value ≡ value_of term (beside marks sight) → later ≡ names_later met term
    → later ≡ is_late met (marked at marks) term sight
late_named met marks at sight term value later is named =
    named ∙ or_no (names_later met term) ∙ ap (late_value met term) (is ∙ ap (value_of term) (beside_marked marks at sight))
  where
    or_no : (test : Bool) → test ≡ (test || false)
    or_no true = refl
    or_no false = refl

-- and else it is late
pub late_unvalued : (met : Names) (marks : List Bool) (at : ℕ) (sight : Sight) (term : Term) (fault : EvalFault) → Err fault ≡ value_of term (beside marks sight) → true ≡ is_late met (marked at marks) term sight
late_unvalued met marks at sight term fault is = or_yes (names_later met term) ∙ ap (late_value met term) (is ∙ ap (value_of term) (beside_marked marks at sight))
  where
    or_yes : (test : Bool) → true ≡ (test || true)
    or_yes true = refl
    or_yes false = refl

-- Several expressions.

module _ (met : Names) (late : Late) (sight : Sight) (exprs : List (Bor Expr)) (i : ℕ) (expr : Bor Expr) (less : i < length exprs) (item : expr ≡ get_or exprs i expr) (total : Bool)
    (so : is_one_late met late (map (λ one. term_of one.now) (drop i exprs)) sight ≡ total) where
  abbrev late_rest : Bool
  late_rest = is_one_late met late (map (λ one. term_of one.now) (drop (i + 1) exprs)) sight

  late_is : (is_late met late (term_of expr.now) sight || late_rest) ≡ total
  late_is =
      ap (λ (one : Bor Expr). is_late met late (term_of one.now) sight || late_rest) item
      ∙ ap (λ (all : List (Bor Expr)). is_one_late met late (map (λ one. term_of one.now) all) sight) (sym (drop_more exprs i expr less))
      ∙ so

  pub one_late : true ≡ is_late met late (term_of expr.now) sight → true ≡ total
  one_late is = ap (λ (b : Bool). b || late_rest) is ∙ late_is

  pub later_late : false ≡ is_late met late (term_of expr.now) sight → late_rest ≡ total
  later_late is = ap (λ (b : Bool). b || late_rest) is ∙ late_is

pub none_late : (met : Names) (late : Late) (sight : Sight) (exprs : List (Bor Expr)) (i : ℕ) (total : Bool) → length exprs ≤ i
    → is_one_late met late (map (λ one. term_of one.now) (drop i exprs)) sight ≡ total → false ≡ total
none_late met late sight exprs i total past so =
    ap (λ (all : List (Bor Expr)). is_one_late met late (map (λ one. term_of one.now) all) sight) (sym (drop_all i exprs past)) ∙ so

-- A condition has at most one value or one fault.
use Rattle.std.proofs.Common.{◌≡◌, ℤ, inl, inr, List, Ok, sym, subst, ◌∙◌}
use Rattle.std.specs.Prelude.{◌⊎◌}
use Rattle.std.specs.declared.result.Result.{Result}
use Rattle.rz_core.specs.declared.fault.Fault.{Fault}
use Rattle.rz_core.specs.declared.fault.Mark.{Mark}
use Rattle.rz_lex.specs.declared.token.Token.{Token}
use Rattle.rz_expr.specs.Grammar.{IsExpression}
use Rattle.rz_expr.specs.Term.{Term}
use Rattle.rz_expr.specs.Value.{value_of}
use Rattle.rz_expr.specs.declared.value.EvalFault.{EvalFault}
use Rattle.rz_pre.specs.Condition.{bad_condition, nothing_seen, numbered, Computes, ConditionFails, HasValue, IsCondition, Tells}
use Rattle.rz_pre.specs.Expanded.{ExpandInto, FirstTooLong}
use Rattle.rz_pre.specs.Live.{Live}
use Rattle.rz_pre.specs.declared.condition.Tool.{Tool}
use Rattle.rz_pre.proofs.Asking.{one_telling}
use Rattle.rz_pre.proofs.Computing.{one_numbers}
use Rattle.rz_pre.proofs.Replaced.{line_or_fault, one_fault, one_line}

-- the law of the expressions
abbrev pub OneTerm : Type 0
OneTerm = (tokens : List Token) (term other : Term) → IsExpression tokens term → IsExpression tokens other → term ≡ other

one_ok : (r : Result ℤ EvalFault) (one other : ℤ) → r ≡ Ok one → r ≡ Ok other → one ≡ other
one_ok r one other is also = cc

one_value : OneTerm → (tokens : List Token) (one other : ℤ) → HasValue tokens one → HasValue tokens other → one ≡ other
one_value law tokens one other h k =
    one_ok (value_of k.term nothing_seen) one other
    (subst (λ (term : Term). value_of term nothing_seen ≡ Ok one) (law tokens h.term k.term h.expression k.expression) h.gives) k.gives

one_computed : OneTerm → (tool : Tool) (tokens : List Token) (one other : ℤ) → Computes tool tokens one → Computes tool tokens other → one ≡ other
one_computed law tool tokens one other h k =
    one_value law k.numbers one other
    (subst (λ (ts : List Token). HasValue ts one) (one_numbers (numbered tool tokens) h.numbers k.numbers h.numbered k.numbered) h.has) k.has

module _ (live : Live) (tool : Tool) (tokens : List Token) where
  same_told : (told other : List Token) → Tells live tokens told → Tells live tokens other → (out : List Token) → ExpandInto live told out → ExpandInto live other out
  same_told told other t u out x = subst (λ (ts : List Token). ExpandInto live ts out) (one_telling t u) x

  pub one_condition : OneTerm → (one other : ℤ) → IsCondition live tool tokens one → IsCondition live tool tokens other → one ≡ other
  one_condition law one other x y =
      let same = one_line live y.0 x.1 y.1 (same_told x.0 y.0 x.2 y.2 x.1 x.3) y.3 in
      one_computed law tool y.1 one other (subst (λ (ts : List Token). Computes tool ts one) same x.4) y.4

  or_fault : (fault : Fault) (mark : Mark) (value : ℤ) (told out : List Token) → ExpandInto live told out → Computes tool out value
      → (FirstTooLong live told fault ⊎ ((left : List Token) × ExpandInto live told left × ((other : ℤ) → Computes tool left other → ⊥) × (fault ≡ bad_condition mark))) → ⊥
  or_fault fault mark value told out x c (inl long) = line_or_fault live told out fault x long
  or_fault fault mark value told out x c (inr y) = y.2 value (subst (λ (ts : List Token). Computes tool ts value) (one_line live told out y.0 x y.1) c)

  pub condition_or_fault : (mark : Mark) (value : ℤ) (fault : Fault) → IsCondition live tool tokens value → ConditionFails live tool mark tokens fault → ⊥
  condition_or_fault mark value fault x y = or_fault fault mark value y.0 x.1 (same_told x.0 y.0 x.2 y.1 x.1 x.3) x.4 y.2

  abbrev Fails : Mark → List Token → Fault → Type 0
  Fails mark told fault = FirstTooLong live told fault ⊎ ((left : List Token) × ExpandInto live told left × ((other : ℤ) → Computes tool left other → ⊥) × (fault ≡ bad_condition mark))

  two_faults : (mark : Mark) (told : List Token) (one other : Fault) → Fails mark told one → Fails mark told other → one ≡ other
  two_faults mark told one other (inl x) (inl y) = one_fault live told one other x y
  two_faults mark told one other (inl x) (inr y) = absurd (line_or_fault live told y.0 one y.1 x)
  two_faults mark told one other (inr x) (inl y) = absurd (line_or_fault live told x.0 other x.1 y)
  two_faults mark told one other (inr x) (inr y) = x.3 ∙ sym y.3

  pub one_condition_fault : (mark : Mark) (one other : Fault) → ConditionFails live tool mark tokens one → ConditionFails live tool mark tokens other → one ≡ other
  one_condition_fault mark one other x y = two_faults mark y.0 one other (subst (λ (ts : List Token). Fails mark ts one) (one_telling x.1 y.1) x.2) y.2

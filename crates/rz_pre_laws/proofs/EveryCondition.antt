-- Each condition has a value or a fault.
use Rattle.std.proofs.Common.{◌≡◌, inl, inr, ℕ, zero, suc, ℤ, ◌≤◌, Bool, true, false, if◌then◌else◌, List, [], ◌∷◌, length, Option, Some, None, Ok, Err, refl, sym, subst, ◌∙◌, arith}
use Rattle.std.specs.Prelude.{nat_le, option_map}
use Rattle.std.specs.declared.result.Result.{Result}
use Rattle.std.proofs.lemmas.Bool.{leb-false, leb-true}
use Rattle.rz_core.proofs.Has.{Has}
use Rattle.rz_core.proofs.Once.{ok_or_err}
use Rattle.rz_core.proofs.Tests.{by_test, none_some}
use Rattle.rz_core.specs.Decided.{Decided}
use Rattle.rz_core.specs.declared.fault.Mark.{Mark}
use Rattle.rz_lex.specs.Printed.{token_of}
use Rattle.rz_lex.specs.declared.token.Shape.TheVariants as shapes
use Rattle.rz_lex.specs.declared.token.Token.{Token}
use Rattle.rz_expr.specs.Grammar.{IsExpression}
use Rattle.rz_expr.specs.Term.{Term}
use Rattle.rz_expr.specs.Value.{value_of}
use Rattle.rz_expr.specs.declared.value.EvalFault.{EvalFault}
use Rattle.rz_pre.specs.Condition.{answer, asked, asked_name, bad_condition, behind_defined, closes, in_brackets, is_defined, most, nothing, nothing_seen, numbered, opens, question, stays, word_name, Asked, Computes, HasValue, Tells}
use Rattle.rz_pre.specs.Expanded.{ExpandInto}
use Rattle.rz_pre.specs.Line.{IsComputed, IsReplaced}
use Rattle.rz_pre.specs.Live.{live_in, Live, Row}
use Rattle.rz_pre.specs.declared.condition.Tool.{Tool}
use Rattle.rz_pre.proofs.Computing.{computes}
use Rattle.rz_pre_laws.proofs.EveryExpansion.{every_line_expands}
use Rattle.rz_pre.proofs.OneCondition.{OneTerm}

-- After a question there are fewer tokens.

abbrev LeavesFew : ℕ → Asked → Type 0
LeavesFew n None = Unit {0}
LeavesFew n (Some found) = length found.1 ≤ n

brackets_few : (n : ℕ) (tokens : List Token) → length tokens ≤ n → LeavesFew n (in_brackets tokens)
brackets_few n [] few = tt
brackets_few n (name ∷ []) few = tt
brackets_few n (name ∷ close ∷ rest) few = by (closes close.shape) (word_name name.shape)
  where
    by : (b : Bool) (o : Option (List ℕ)) → LeavesFew n (if b then option_map (λ word. (word, rest)) o else None)
    by true (Some word) = omega (arith, few)
    by true None = tt
    by false o = tt

named_few : (n : ℕ) (o : Option (List ℕ)) (b : Bool) (tokens : List Token) → length tokens ≤ n → LeavesFew n (asked_name o b tokens)
named_few n (Some word) b tokens few = few
named_few n None true tokens few = brackets_few n tokens few
named_few n None false tokens few = tt

behind_few : (n : ℕ) (tokens : List Token) → length tokens ≤ n → LeavesFew n (behind_defined tokens)
behind_few n [] few = tt
behind_few n (next ∷ rest) few = named_few n (word_name next.shape) (opens next.shape) rest (omega (arith, few))

asked_few : (first : Token) (rest : List Token) → LeavesFew (length rest) (asked (first ∷ rest))
asked_few first rest = by (is_defined first.shape) (behind_few (length rest) rest (omega arith))
  where
    by : (b : Bool) → LeavesFew (length rest) (behind_defined rest) → LeavesFew (length rest) (if b then behind_defined rest else None)
    by true few = few
    by false few = tt

-- So all tokens are told.

module _ (live : Live) where
  abbrev AreTold : List Token → Type 0
  AreTold tokens = (told : List Token) × Tells live tokens told

  told_by : (first : Token) (rest : List Token) (o : Asked) → asked (first ∷ rest) ≡ o → LeavesFew (length rest) o
      → ((behind : List Token) → length behind ≤ length rest → AreTold behind) → AreTold (first ∷ rest)
  told_by first rest None none few each =
      let back = each rest (omega arith) in
      (first ∷ back.0, stays back.0 none back.1 refl)
  told_by first rest (Some (name, behind)) asks few each =
      let back = each behind few in
      (token_of first.mark (shapes.Number (answer live name)) ∷ back.0, question name behind back.0 asks back.1 refl)

  are_told : (n : ℕ) (tokens : List Token) → length tokens ≤ n → AreTold tokens
  are_told n [] few = ([], nothing refl)
  are_told zero (first ∷ rest) few = absurd (omega (arith, few))
  are_told (suc n) (first ∷ rest) few =
      told_by first rest (asked (first ∷ rest)) refl (asked_few first rest) (λ behind fewer. are_told n behind (omega (arith, few, fewer)))

-- And what is left has a value, or none.

module _ (one : OneTerm) (expression : (tokens : List Token) → (answer : Option Term) × Decided (IsExpression tokens) answer) where
  every_value : (tokens : List Token) → (answer : Option ℤ) × Decided (HasValue tokens) answer
  every_value tokens = by (expression tokens)
    where
      gives_by : (term : Term) → IsExpression tokens term → (given : Result ℤ EvalFault) → value_of term nothing_seen ≡ given
          → (answer : Option ℤ) × Decided (HasValue tokens) answer
      gives_by term is (Ok value) gives = (Some value, record { term = term; expression = is; gives = gives })
      gives_by term is (Err fault) gives = (
        None,
        λ value h. ok_or_err value fault
            (sym (subst (λ (t : Term). value_of t nothing_seen ≡ Ok value) (one tokens h.term term h.expression is) h.gives) ∙ gives),
      )

      by : (answer : Option Term) × Decided (IsExpression tokens) answer → (answer : Option ℤ) × Decided (HasValue tokens) answer
      by (Some term, is) = gives_by term is (value_of term nothing_seen) refl
      by (None, never) = (None, λ value h. never h.term h.expression)

  module _ (tool : Tool) where
    every_computed : (tokens : List Token) → (answer : Option ℤ) × Decided (Computes tool tokens) answer
    every_computed tokens = by_test ((answer : Option ℤ) × Decided (Computes tool tokens) answer) (nat_le (length tokens) most)
        (λ few. numbers_by (leb-true (length tokens) most few) (numbered tool tokens) refl)
        (λ more. (let many = leb-false (length tokens) most more in (None, λ value c. (let few = c.few in omega (arith, many, few)))))
      where
        numbers_by : length tokens ≤ most → (o : Option (List Token)) → numbered tool tokens ≡ o → (answer : Option ℤ) × Decided (Computes tool tokens) answer
        numbers_by few None none = (None, λ value c. none_some c.numbers (sym none ∙ c.numbered))
        numbers_by few (Some numbers) is = (let value = every_value numbers in (value.0, computes tool tokens numbers value.0 few (sym is) value.1))

    pub every_condition : (rows : List Row) (mark : Mark) (tokens : List Token) → Has (IsComputed (live_in rows) tool mark tokens)
    every_condition rows mark tokens =
        let all = are_told (live_in rows) (length tokens) tokens (omega arith) in
        by all.0 all.1 (every_line_expands rows all.0)
      where
        computed_by : (told out : List Token) → Tells (live_in rows) tokens told → ExpandInto (live_in rows) told out
            → (answer : Option ℤ) × Decided (Computes tool out) answer → Has (IsComputed (live_in rows) tool mark tokens)
        computed_by told out tells into (Some value, c) = (Ok value, (told, out, tells, into, c))
        computed_by told out tells into (None, never) = (Err (bad_condition mark), (told, tells, inr (out, into, never, refl)))

        by : (told : List Token) → Tells (live_in rows) tokens told → Has (IsReplaced (live_in rows) told) → Has (IsComputed (live_in rows) tool mark tokens)
        by told tells (Ok out, into) = computed_by told out tells into (every_computed out)
        by told tells (Err fault, long) = (Err fault, (told, tells, inl long))

-- The value of a condition.
use Rattle.std.proofs.Common.{◌≡◌, ℕ, ℤ, ◌-◌, ◌<◌, ◌≤◌, List, [], ◌∷◌, ◌++◌, length, drop, Option, Some, None, Ok, Err, refl, sym, ap, subst, ◌∙◌, arith}
use Rattle.std.specs.Prelude.{IfOk, MatchOption}
use Rattle.std.specs.declared.result.Result.{Result}
use Rattle.std.proofs.lemmas.List.{append-nil, length-drop}
use Rattle.rz_lex.specs.declared.token.Token.{Token}
use Rattle.rz_expr.specs.Grammar.{IsExpression, LongestExpression, NoExpression}
use Rattle.rz_expr.specs.Term.{Term}
use Rattle.rz_expr.specs.Value.{value_of}
use Rattle.rz_expr.specs.declared.value.EvalFault.{EvalFault}
use Rattle.rz_pre.specs.Condition.{most, nothing_seen, numbered, Computes, HasValue}
use Rattle.rz_pre.specs.declared.condition.Tool.{Tool}

none_left : {X : Type 0} (more left : List X) → [] ≡ more ++ left → more ≡ []
none_left [] left is = refl
none_left (x ∷ more) left is = absurd cc

-- tokens that are one expression are the longest at their front
pub all_longest : (tokens : List Token) (term : Term) → IsExpression tokens term → LongestExpression tokens [] term
all_longest tokens term is = record {
  front = tokens;
  whole = sym (append-nil tokens);
  is = is;
  longest = λ more left other split some x. some (none_left more left split);
}

pub longest_is_all : (tokens : List Token) (term : Term) → LongestExpression tokens [] term → IsExpression tokens term
longest_is_all tokens term l = subst (λ (ts : List Token). IsExpression ts term) (sym (append-nil l.front) ∙ sym l.whole) l.is

pub none_no_value : (tokens : List Token) → NoExpression tokens → (value : ℤ) → HasValue tokens value → ⊥
none_no_value tokens none value h = none tokens [] h.term (sym (append-nil tokens)) h.expression

no_fault : (r : Result ℤ EvalFault) (value : ℤ) (fault : EvalFault) → r ≡ Ok value → r ≡ Err fault → ⊥
no_fault r value fault is also = cc

-- what was read is all that is the longest
abbrev pub IsAllThatIs : List Token → ℕ → Term → Type 0
IsAllThatIs tokens end read = (rest : List Token) (term : Term) → LongestExpression tokens rest term → (drop end tokens ≡ rest) × (read ≡ term)

pub behind_end : (tokens : List Token) (end : ℕ) (read : Term) → IsAllThatIs tokens end read → end < length tokens → (value : ℤ) → HasValue tokens value → ⊥
behind_end tokens end read every small value h =
    let none : drop end tokens ≡ [] = (every [] h.term (all_longest tokens h.term h.expression)).0 in
    let size : length tokens - end ≡ 0 = sym (length-drop end tokens) ∙ ap (λ (ts : List Token). length ts) none in
    omega (arith, small, size)

pub faulty : (tokens : List Token) (end : ℕ) (read : Term) (fault : EvalFault) → IsAllThatIs tokens end read → value_of read nothing_seen ≡ Err fault → (value : ℤ) → HasValue tokens value → ⊥
faulty tokens end read fault every is value h =
    no_fault (value_of h.term nothing_seen) value fault h.gives
    (subst (λ (term : Term). value_of term nothing_seen ≡ Err fault) (every [] h.term (all_longest tokens h.term h.expression)).1 is)

pub one_numbers : (o : Option (List Token)) (one other : List Token) → o ≡ Some one → o ≡ Some other → one ≡ other
one_numbers o one other is also = cc

pub computes : (tool : Tool) (tokens numbers : List Token) (o : Option ℤ) → length tokens ≤ most → Some numbers ≡ numbered tool tokens
    → MatchOption o ((value : ℤ) → HasValue numbers value → ⊥) (HasValue numbers)
    → MatchOption o ((value : ℤ) → Computes tool tokens value → ⊥) (Computes tool tokens)
computes tool tokens numbers None few is none =
    λ value c. none value (subst (λ (ts : List Token). HasValue ts value) (one_numbers (numbered tool tokens) c.numbers numbers c.numbered (sym is)) c.has)
computes tool tokens numbers (Some value) few is h = record { few = few; numbers = numbers; numbered = sym is; has = h }

pub if_ok_so : {X E : Type 0} (P Q : X → Type 0) → ((x : X) → P x → Q x) → (result : Result X E) → IfOk result P → IfOk result Q
if_ok_so P Q so (Ok x) is = so x is
if_ok_so P Q so (Err e) is = tt

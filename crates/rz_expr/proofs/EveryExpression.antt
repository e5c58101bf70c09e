-- Of all tokens it is decided which expression they are, and which front of them is the longest that is one.
use Rattle.std.proofs.Common.{◌≡◌, ◌⊎◌, inl, inr, ℕ, zero, suc, pos, ◌≤◌, List, [], ◌∷◌, ◌++◌, length, Option, Some, None, refl, sym, ap, subst, ◌∙◌, arith}
use Rattle.std.proofs.Math.Decide.{map_dec, ℕ_discrete}
use Rattle.std.proofs.lemmas.Bool.{false≢true}
use Rattle.std.specs.Prelude.{MatchOption}
use Rattle.rz_core.specs.Decided.{Decided}
use Rattle.rz_core.specs.declared.resource.Word.{Word}
use Rattle.rz_lex.specs.declared.token.Token.{Token}
use Rattle.rz_expr.specs.declared.expr.BinaryOp.{BinaryOp}
use Rattle.rz_words.specs.declared.words.Function.{Function}
use Rattle.rz_words.specs.declared.words.Function.TheVariants.{CountOf, ArrayIndex, BitField, Data}
use Rattle.rz_expr.specs.Term.{Term, Constant, Named, Indexed, RowsOf, RowNumber, BitsAt, OfOne, OfTwo}
use Rattle.rz_expr.specs.Grammar.{Start, Operand, Label, Prefix, Bracket, Calls, NoStart, After, Operates, Closes, Separates, Indexes, EndsIndex, start_of, after_of, level_of, loosest, argument, Derives, operand, labelled, indexed, prefixed, grouped, counted, numbered, data_at, bits_at, tighter, binary, IsExpression, LongestExpression, NoExpression}
use Rattle.rz_core.proofs.EveryCut.{all_three, both, head, tail, one_of, is_nothing, answer_of, one_answer, LongestCut, NoCut, Split, longest_cut, some_of, some_split, parts_few}
use Rattle.rz_expr.proofs.OneExpression.{one_expression}
use Rattle.rz_expr.proofs.Scanning.{complete}

-- the tokens are an expression of a level
record Derived (level : ℕ) (tokens : List Token) : Type 0 where
  term : Term
  is : Derives level tokens term

derived : {level : ℕ} {tokens : List Token} (term : Term) → Derives level tokens term → Derived level tokens
derived term is = record { term = term; is = is }

-- Tokens alone.

-- an operator of a level
record Operator (level : ℕ) (after : After) : Type 0 where
  op : BinaryOp
  operates : after ≡ Operates op
  has_level : level_of op ≡ level

one_operator : (op other : BinaryOp) → Operates op ≡ Operates other → op ≡ other
one_operator op other is = cc

is_operator : (level : ℕ) (after : After) → Dec (Operator level after)
is_operator level (Operates op) = map_dec to from (ℕ_discrete (level_of op) level)
  where
    to : level_of op ≡ level → Operator level (Operates op)
    to same = record { op = op; operates = refl; has_level = same }

    from : Operator level (Operates op) → level_of op ≡ level
    from o = ap level_of (one_operator op o.op o.operates) ∙ o.has_level
is_operator level other = no (λ o. let is = o.operates in cc is)

is_close : (after : After) → Dec (after ≡ Closes)
is_close Closes = yes refl
is_close other = no (λ is. cc is)

is_comma : (after : After) → Dec (after ≡ Separates)
is_comma Separates = yes refl
is_comma other = no (λ is. cc is)

is_index_begin : (after : After) → Dec (after ≡ Indexes)
is_index_begin Indexes = yes refl
is_index_begin other = no (λ is. cc is)

is_index_end : (after : After) → Dec (after ≡ EndsIndex)
is_index_end EndsIndex = yes refl
is_index_end other = no (λ is. cc is)

-- the name of a function's brackets
abbrev HasName : Function → Token → Token → Token → Type 0
HasName function a b c = (word : Word) × (argument function (a ∷ b ∷ c ∷ []) ≡ Some word)

has_name : (function : Function) (a b c : Token) → Dec (HasName function a b c)
has_name function a b c = some_of (argument function (a ∷ b ∷ c ∷ []))

-- What stands after the first token of an operand.

-- an expression, and the bracket that closes it as the last token
abbrev Closed : After → List Token → Token → List Token → Type 0
Closed end front close back = (back ≡ []) × Derived loosest front × (after_of close.shape ≡ end)

-- an expression, a comma, and then such
abbrev Started : List Token → Token → List Token → Type 0
Started front comma back = (after_of comma.shape ≡ Separates) × Derived loosest front × Split (Closed Closes) back

abbrev AreArguments : Function → List Token → Type 0
AreArguments CountOf ts = ts ≡ []
AreArguments ArrayIndex ts = ts ≡ []
AreArguments (Data width) ts = ts ≡ []
AreArguments BitField ts = Split Started ts

abbrev AreCalled : Function → List Token → Type 0
AreCalled function [] = ⊥
AreCalled function (a ∷ []) = ⊥
AreCalled function (a ∷ b ∷ []) = ⊥
AreCalled function (a ∷ b ∷ c ∷ ts) = HasName function a b c × AreArguments function ts

-- nothing, or an index
abbrev AreIndexed : List Token → Type 0
AreIndexed [] = Unit {0}
AreIndexed (b ∷ ts) = (after_of b.shape ≡ Indexes) × Split (Closed EndsIndex) ts

abbrev AreBehind : Start → List Token → Type 0
AreBehind (Operand e) ts = ts ≡ []
AreBehind (Label name) ts = AreIndexed ts
AreBehind (Prefix op) ts = Derived 0 ts
AreBehind Bracket ts = Split (Closed Closes) ts
AreBehind (Calls function) ts = AreCalled function ts
AreBehind NoStart ts = ⊥

-- so the tokens are an operand

called_of : (t : Token) (ts : List Token) (function : Function) → start_of t.shape ≡ Calls function → AreCalled function ts → Derived 0 (t ∷ ts)
called_of t [] function is never = absurd never
called_of t (a ∷ []) function is never = absurd never
called_of t (a ∷ b ∷ []) function is never = absurd never
called_of t (a ∷ b ∷ c ∷ ts) CountOf is (name, none) =
    let term = RowsOf name.0.bytes in
    derived term (subst (λ (us : List Token). Derives 0 (t ∷ a ∷ b ∷ c ∷ us) term) (sym none) (counted is name.1))
called_of t (a ∷ b ∷ c ∷ ts) ArrayIndex is (name, none) =
    let term = RowNumber name.0.bytes in
    derived term (subst (λ (us : List Token). Derives 0 (t ∷ a ∷ b ∷ c ∷ us) term) (sym none) (numbered is name.1))
called_of t (a ∷ b ∷ c ∷ ts) (Data width) is (name, none) =
    let term = BitsAt name.0.bytes (Constant (pos 0)) (Constant (pos width)) in
    derived term (subst (λ (us : List Token). Derives 0 (t ∷ a ∷ b ∷ c ∷ us) term) (sym none) (data_at is name.1))
called_of t (a ∷ b ∷ c ∷ ts) BitField is (name, s) =
    let back = s.is.2 in
    let are : ts ≡ s.front ++ s.item ∷ (back.front ++ back.item ∷ []) =
    s.are ∙ ap (λ (us : List Token). s.front ++ s.item ∷ us) (back.are ∙ ap (λ (us : List Token). back.front ++ back.item ∷ us) back.is.0) in
    let term = BitsAt name.0.bytes s.is.1.term back.is.1.term in
    derived term (subst (λ (us : List Token). Derives 0 (t ∷ a ∷ b ∷ c ∷ us) term) (sym are)
    (bits_at s.item back.item is name.1 s.is.1.is s.is.0 back.is.1.is back.is.2))

label_of : (t : Token) (ts : List Token) (name : List ℕ) → start_of t.shape ≡ Label name → AreIndexed ts → Derived 0 (t ∷ ts)
label_of t [] name is none = derived (Named name) (labelled is)
label_of t (b ∷ ts) name is (begins, s) =
    let term = Indexed name s.is.1.term in
    let are : ts ≡ s.front ++ s.item ∷ [] = s.are ∙ ap (λ (us : List Token). s.front ++ s.item ∷ us) s.is.0 in
    derived term (subst (λ (us : List Token). Derives 0 (t ∷ b ∷ us) term) (sym are) (indexed b s.item is begins s.is.1.is s.is.2))

operand_of : (t : Token) (ts : List Token) (start : Start) → start_of t.shape ≡ start → AreBehind start ts → Derived 0 (t ∷ ts)
operand_of t ts (Operand e) is none = derived e (subst (λ (us : List Token). Derives 0 (t ∷ us) e) (sym none) (operand is))
operand_of t ts (Label name) is are = label_of t ts name is are
operand_of t ts (Prefix op) is d = derived (OfOne op d.term) (prefixed is d.is)
operand_of t ts Bracket is s =
    let are : ts ≡ s.front ++ s.item ∷ [] = s.are ∙ ap (λ (us : List Token). s.front ++ s.item ∷ us) s.is.0 in
    derived s.is.1.term (subst (λ (us : List Token). Derives 0 (t ∷ us) s.is.1.term) (sym are) (grouped s.item is s.is.1.is s.is.2))
operand_of t ts (Calls function) is called = called_of t ts function is called
operand_of t ts NoStart is never = absurd never

-- and an operand is so

record Begun (ts : List Token) : Type 0 where
  first : Token
  rest : List Token
  are : ts ≡ first ∷ rest
  behind : AreBehind (start_of first.shape) rest

begun_by : (t : Token) (ts : List Token) (start : Start) → start_of t.shape ≡ start → AreBehind start ts → Begun (t ∷ ts)
begun_by t ts start is behind = record { first = t; rest = ts; are = refl; behind = subst (λ (s : Start). AreBehind s ts) (sym is) behind }

closed : (end : After) (front : List Token) (close : Token) (term : Term) → Derives loosest front term → after_of close.shape ≡ end → Split (Closed end) (front ++ close ∷ [])
closed end front close term is closes = record { front = front; item = close; back = []; are = refl; is = (refl, derived term is, closes) }

begun : {ts : List Token} {term : Term} → Derives 0 ts term → Begun ts
begun (operand {t} {e} is) = begun_by t [] (Operand e) is refl
begun (labelled {t} {name} is) = begun_by t [] (Label name) is tt
begun (indexed {t} {name} {ts} {e} bracket close is begins more closes) = begun_by t (bracket ∷ (ts ++ close ∷ [])) (Label name) is (begins, closed EndsIndex ts close e more closes)
begun (prefixed {t} {ts} {op} {e} is more) = begun_by t ts (Prefix op) is (derived e more)
begun (grouped {t} {ts} {e} close is more closes) = begun_by t (ts ++ close ∷ []) Bracket is (closed Closes ts close e more closes)
begun (counted {t} {a} {b} {c} {word} is name) = begun_by t (a ∷ b ∷ c ∷ []) (Calls CountOf) is ((word, name), refl)
begun (numbered {t} {a} {b} {c} {word} is name) = begun_by t (a ∷ b ∷ c ∷ []) (Calls ArrayIndex) is ((word, name), refl)
begun (data_at {t} {a} {b} {c} {word} {width} is name) = begun_by t (a ∷ b ∷ c ∷ []) (Calls (Data width)) is ((word, name), refl)
begun (bits_at {t} {a} {b} {c} {word} {xs} {ys} {start} {width} comma close is name left separates right closes) =
    begun_by t (a ∷ b ∷ c ∷ (xs ++ comma ∷ (ys ++ close ∷ []))) (Calls BitField) is
    ((word, name), record { front = xs; item = comma; back = ys ++ close ∷ []; are = refl; is = (separates, derived start left, closed Closes ys close width right closes) })

behind_of : (t : Token) (ts : List Token) → Derived 0 (t ∷ ts) → AreBehind (start_of t.shape) ts
behind_of t ts d = by (begun d.is)
  where
    by : Begun (t ∷ ts) → AreBehind (start_of t.shape) ts
    by b =
        subst (λ (us : List Token). AreBehind (start_of t.shape) us) (sym (tail t b.first ts b.rest b.are))
        (subst (λ (x : Token). AreBehind (start_of x.shape) b.rest) (sym (head t b.first ts b.rest b.are)) b.behind)

nothing : (level : ℕ) → Derived level [] → ⊥
nothing level d = false≢true (complete d.is)

-- Looser expressions.

-- an operator of the level, and what stands on both sides
abbrev Joined : ℕ → List Token → Token → List Token → Type 0
Joined level front t back = Operator (suc level) (after_of t.shape) × Derived (suc level) front × Derived level back

joined_of : (level : ℕ) (ts : List Token) → Derived level ts ⊎ Split (Joined level) ts → Derived (suc level) ts
joined_of level ts (inl d) = derived d.term (tighter d.is)
joined_of level ts (inr s) =
    let op = s.is.0 in
    let term = OfTwo op.op s.is.1.term s.is.2.term in
    derived term (subst (λ (us : List Token). Derives (suc level) us term) (sym s.are)
    (binary s.front s.back s.item op.operates op.has_level s.is.1.is s.is.2.is))

outermost : {level : ℕ} {ts : List Token} {term : Term} → Derives (suc level) ts term → Derived level ts ⊎ Split (Joined level) ts
outermost (tighter {e = e} d) = inl (derived e d)
outermost (binary {op = op} {left = l} {right = r} xs ys t is at left right) =
    inr (record { front = xs; item = t; back = ys; are = refl; is = (record { op = op; operates = is; has_level = at }, derived l left, derived r right) })

parts_of : (level : ℕ) (ts : List Token) → Derived (suc level) ts → Derived level ts ⊎ Split (Joined level) ts
parts_of level ts d = outermost d.is

-- Fewer tokens first, and of as many the tighter levels.

module _ (n : ℕ) (fewer : (ts : List Token) → length ts ≤ n → (level : ℕ) → Dec (Derived level ts)) where
  is_closed : (end : After) → ((after : After) → Dec (after ≡ end)) → (ts : List Token) → length ts ≤ n → Dec (Split (Closed end) ts)
  is_closed end is_end ts few = some_split (Closed end) ts at
    where
      at : (front : List Token) (close : Token) (back : List Token) → ts ≡ front ++ close ∷ back → Dec (Closed end front close back)
      at front close back are =
          let short = parts_few n ts front close back are (omega (arith, few)) in
          all_three (is_nothing back) (fewer front short.0 loosest) (is_end (after_of close.shape))

  is_started : (ts : List Token) → length ts ≤ n → Dec (Split Started ts)
  is_started ts few = some_split Started ts at
    where
      at : (front : List Token) (comma : Token) (back : List Token) → ts ≡ front ++ comma ∷ back → Dec (Started front comma back)
      at front comma back are =
          let short = parts_few n ts front comma back are (omega (arith, few)) in
          all_three (is_comma (after_of comma.shape)) (fewer front short.0 loosest) (is_closed Closes is_close back short.1)

  are_arguments : (function : Function) (ts : List Token) → length ts ≤ n → Dec (AreArguments function ts)
  are_arguments CountOf ts few = is_nothing ts
  are_arguments ArrayIndex ts few = is_nothing ts
  are_arguments (Data width) ts few = is_nothing ts
  are_arguments BitField ts few = is_started ts few

  are_called : (function : Function) (ts : List Token) → length ts ≤ n → Dec (AreCalled function ts)
  are_called function [] few = no (λ never. never)
  are_called function (a ∷ []) few = no (λ never. never)
  are_called function (a ∷ b ∷ []) few = no (λ never. never)
  are_called function (a ∷ b ∷ c ∷ ts) few = both (has_name function a b c) (are_arguments function ts (omega (arith, few)))

  are_indexed : (ts : List Token) → length ts ≤ n → Dec (AreIndexed ts)
  are_indexed [] few = yes tt
  are_indexed (b ∷ ts) few = both (is_index_begin (after_of b.shape)) (is_closed EndsIndex is_index_end ts (omega (arith, few)))

  are_behind : (start : Start) (ts : List Token) → length ts ≤ n → Dec (AreBehind start ts)
  are_behind (Operand e) ts few = is_nothing ts
  are_behind (Label name) ts few = are_indexed ts few
  are_behind (Prefix op) ts few = fewer ts few 0
  are_behind Bracket ts few = is_closed Closes is_close ts few
  are_behind (Calls function) ts few = are_called function ts few
  are_behind NoStart ts few = no (λ never. never)

  is_operand : (ts : List Token) → length ts ≤ suc n → Dec (Derived 0 ts)
  is_operand [] few = no (nothing 0)
  is_operand (t ∷ ts) few = map_dec (operand_of t ts (start_of t.shape) refl) (behind_of t ts) (are_behind (start_of t.shape) ts (omega (arith, few)))

  is_joined : (level : ℕ) (ts : List Token) → length ts ≤ suc n → Dec (Split (Joined level) ts)
  is_joined level ts few = some_split (Joined level) ts at
    where
      at : (front : List Token) (t : Token) (back : List Token) → ts ≡ front ++ t ∷ back → Dec (Joined level front t back)
      at front t back are =
          let short = parts_few n ts front t back are few in
          all_three (is_operator (suc level) (after_of t.shape)) (fewer front short.0 (suc level)) (fewer back short.1 level)

  of_level : (level : ℕ) (ts : List Token) → length ts ≤ suc n → Dec (Derived level ts)
  of_level zero ts few = is_operand ts few
  of_level (suc level) ts few = map_dec (joined_of level ts) (parts_of level ts) (one_of (of_level level ts few) (is_joined level ts few))

is_derived : (n : ℕ) (ts : List Token) → length ts ≤ n → (level : ℕ) → Dec (Derived level ts)
is_derived zero [] few level = no (nothing level)
is_derived zero (t ∷ ts) few level = absurd (omega (arith, few))
is_derived (suc n) ts few level = of_level n (is_derived n) level ts few

is_expression : (ts : List Token) → Dec ((term : Term) × IsExpression ts term)
is_expression ts = map_dec to from (is_derived (length ts) ts (omega arith) loosest)
  where
    to : Derived loosest ts → (term : Term) × IsExpression ts term
    to d = (d.term, d.is)

    from : (term : Term) × IsExpression ts term → Derived loosest ts
    from p = derived p.0 p.1

pub every_expression : (ts : List Token) → (answer : Option Term) × Decided (IsExpression ts) answer
every_expression ts = answer_of (IsExpression ts) (is_expression ts)

pub one_answer_each : (ts : List Token) (answer other : Option Term) → Decided (IsExpression ts) answer → Decided (IsExpression ts) other → answer ≡ other
one_answer_each ts = one_answer (IsExpression ts) (one_expression ts)

-- a front is the longest expression, or none is one
pub every_longest : (ts : List Token) → (answer : Option (Term × List Token)) × MatchOption answer (NoExpression ts) (λ found. LongestExpression ts found.1 found.0)
every_longest ts = by (longest_cut (λ front rest. (term : Term) × IsExpression front term) ts (λ front rest are. is_expression front))
  where
    by : LongestCut (λ front rest. (term : Term) × IsExpression front term) ts ⊎ NoCut (λ front rest. (term : Term) × IsExpression front term) ts
        → (answer : Option (Term × List Token)) × MatchOption answer (NoExpression ts) (λ found. LongestExpression ts found.1 found.0)
    by (inl c) = (
      Some (c.is.0, c.rest),
      record { front = c.front; whole = c.are; is = c.is.1; longest = λ more left other behind some is. c.longest more left behind some (other, is) },
    )
    by (inr none) = (None, λ front left term are is. none front left are (term, is))

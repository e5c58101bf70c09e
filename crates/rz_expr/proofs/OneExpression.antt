-- Tokens are one expression at most.
use Rattle.std.proofs.Common.{◌≡◌, ◌≢◌, ℕ, suc, ◌<◌, ◌≤◌, false, List, [], ◌∷◌, ◌++◌, drop, Option, Some, None, Result, Ok, Err, inl, inr, refl, sym, ap, ◌∙◌, subst, arith, append_assoc, pos}
use Rattle.std.proofs.lemmas.Bool.{false≢true}
use Rattle.std.proofs.lemmas.Bool.Decides.{nat_tests}
use Rattle.std.proofs.lemmas.List.{append-nil}
use Rattle.std.specs.Prelude.{IfOk, MatchOption}
use Rattle.rz_core.specs.declared.resource.Word.{Word}
use Rattle.rz_core.specs.declared.stop.NoMemory.{NoMemory}
use Rattle.rz_lex.specs.declared.token.Token.{Token}
use Rattle.rz_expr.specs.declared.expr.UnaryOp.{UnaryOp}
use Rattle.rz_expr.specs.declared.expr.BinaryOp.{BinaryOp}
use Rattle.rz_words.specs.declared.words.Function.TheVariants.{CountOf, ArrayIndex, BitField, Data}
use Rattle.rz_expr.specs.declared.read.ReadExpr.{ReadExpr}
use Rattle.rz_expr.specs.Term.{Term, Constant, Named, Indexed, RowsOf, RowNumber, BitsAt, OfOne, OfTwo, term_of}
use Rattle.rz_expr.specs.Grammar.{Start, Operand, Label, Prefix, Bracket, Calls, After, Operates, Closes, Separates, Indexes, EndsIndex, start_of, after_of, level_of, loosest, argument, Derives, operand, labelled, indexed, prefixed, grouped, counted, numbered, data_at, bits_at, tighter, binary, IsExpression, LongestExpression, NoExpression}
use Rattle.rz_expr.specs.Reading.{operator_of, at_level, operator_at, index_at, is_index}
use Rattle.rz_expr.proofs.Scanning.{fronts, GoesOn}

-- Reading from the left, as far as a level goes.
mutual
  data Big : ℕ → List Token → Term → List Token → Type 0 where
    begin : {t : Token} {ts : List Token} {s : Start} {e : Term} {rest : List Token} → start_of t.shape ≡ s → Rest s ts e rest → Big 0 (t ∷ ts) e rest
    level : {k : ℕ} {ts mid rest : List Token} {e a : Term} → Big k ts e mid → Loop k e mid a rest → Big (suc k) ts a rest

  data Rest : Start → List Token → Term → List Token → Type 0 where
    alone : {e : Term} {ts : List Token} → Rest (Operand e) ts e ts
    plain : {name : List ℕ} {ts : List Token} → index_at ts ≡ false → Rest (Label name) ts (Named name) ts
    row : {name : List ℕ} {b c : Token} {ts rest : List Token} {e : Term} → after_of b.shape ≡ Indexes → Big loosest ts e (c ∷ rest) → Rest (Label name) (b ∷ ts) (Indexed name e) rest
    under : {op : UnaryOp} {ts rest : List Token} {e : Term} → Big 0 ts e rest → Rest (Prefix op) ts (OfOne op e) rest
    group : {c : Token} {ts rest : List Token} {e : Term} → Big loosest ts e (c ∷ rest) → Rest Bracket ts e rest
    count : {a b c : Token} {ts : List Token} {word : Word} → argument CountOf (a ∷ b ∷ c ∷ []) ≡ Some word → Rest (Calls CountOf) (a ∷ b ∷ c ∷ ts) (RowsOf word.bytes) ts
    number : {a b c : Token} {ts : List Token} {word : Word} → argument ArrayIndex (a ∷ b ∷ c ∷ []) ≡ Some word
        → Rest (Calls ArrayIndex) (a ∷ b ∷ c ∷ ts) (RowNumber word.bytes) ts
    bits : {width : ℕ} {a b c : Token} {ts : List Token} {word : Word} → argument (Data width) (a ∷ b ∷ c ∷ []) ≡ Some word
        → Rest (Calls (Data width)) (a ∷ b ∷ c ∷ ts) (BitsAt word.bytes (Constant (pos 0)) (Constant (pos width))) ts
    field : {a b c m d : Token} {ts mid rest : List Token} {word : Word} {start width : Term} → argument BitField (a ∷ b ∷ c ∷ []) ≡ Some word
        → Big loosest ts start (m ∷ mid) → Big loosest mid width (d ∷ rest) → Rest (Calls BitField) (a ∷ b ∷ c ∷ ts) (BitsAt word.bytes start width) rest

  data Loop : ℕ → Term → List Token → Term → List Token → Type 0 where
    stop : {k : ℕ} {e : Term} {ts : List Token} → operator_at (suc k) ts ≡ None → Loop k e ts e ts
    more : {k : ℕ} {t : Token} {op : BinaryOp} {e r a : Term} {ts mid rest : List Token} → after_of t.shape ≡ Operates op → level_of op ≡ suc k
        → Big k ts r mid → Loop k (OfTwo op e r) mid a rest → Loop k e (t ∷ ts) a rest

-- the next token is no operator of at most this level, and begins no index
Quiet : ℕ → List Token → Type 0
Quiet k ts = ((j : ℕ) → j ≤ k → operator_at j ts ≡ None) × (index_at ts ≡ false)

found : (k : ℕ) (t : Token) (op : BinaryOp) (ts : List Token) → after_of t.shape ≡ Operates op → level_of op ≡ k → operator_at k (t ∷ ts) ≡ Some op
found k t op ts is at = ap (λ a. at_level k (operator_of a)) is ∙ here at
  where
    here : level_of op ≡ k → at_level k (Some op) ≡ Some op
    here at = grind (arith, nat_tests)

looser_quiet : (k : ℕ) (t : Token) (op : BinaryOp) (ts : List Token) → after_of t.shape ≡ Operates op → level_of op ≡ suc k → Quiet k (t ∷ ts)
unfolding Quiet
looser_quiet k t op ts is at = ((λ j below. ap (λ a. at_level j (operator_of a)) is ∙ missed j (omega (arith, at, below))), ap is_index is)
  where
    missed : (j : ℕ) → j < level_of op → at_level j (Some op) ≡ None
    missed j h = grind (arith, nat_tests)

close_quiet : (k : ℕ) (t : Token) (ts : List Token) → after_of t.shape ≡ Closes → Quiet k (t ∷ ts)
unfolding Quiet
close_quiet k t ts is = ((λ j below. ap (λ a. at_level j (operator_of a)) is), ap is_index is)

comma_quiet : (k : ℕ) (t : Token) (ts : List Token) → after_of t.shape ≡ Separates → Quiet k (t ∷ ts)
unfolding Quiet
comma_quiet k t ts is = ((λ j below. ap (λ a. at_level j (operator_of a)) is), ap is_index is)

index_quiet : (k : ℕ) (t : Token) (ts : List Token) → after_of t.shape ≡ EndsIndex → Quiet k (t ∷ ts)
unfolding Quiet
index_quiet k t ts is = ((λ j below. ap (λ a. at_level j (operator_of a)) is), ap is_index is)

nil_quiet : (k : ℕ) → Quiet k []
unfolding Quiet
nil_quiet k = ((λ j below. refl), refl)

quiet_below : (k : ℕ) (ts : List Token) → Quiet (suc k) ts → Quiet k ts
unfolding Quiet
quiet_below k ts q = ((λ j below. q.0 j (omega (arith, below))), q.1)

quiet_at : (k : ℕ) (ts : List Token) → Quiet k ts → operator_at k ts ≡ None
unfolding Quiet
quiet_at k ts q = q.0 k (omega arith)

quiet_index : (k : ℕ) (ts : List Token) → Quiet k ts → index_at ts ≡ false
unfolding Quiet
quiet_index k ts q = q.1

-- what derives is read so
mutual
  read : {k : ℕ} {xs : List Token} {e : Term} → Derives k xs e → (rest : List Token) → Quiet k rest → Big k (xs ++ rest) e rest
  read (operand is) rest q = begin is alone
  read (labelled is) rest q = begin is (plain (quiet_index 0 rest q))
  read (indexed {t} {name} {ts} {e} bracket close is begins r end) rest q =
      begin is (row begins (subst (λ xs. Big loosest xs e (close ∷ rest)) (sym (append_assoc ts (close ∷ []) rest)) (read r (close ∷ rest) (index_quiet loosest close rest end))))
  read (prefixed is r) rest q = begin is (under (read r rest q))
  read (grouped {t} {ts} {e} close is r end) rest q =
      begin is (group (subst (λ xs. Big loosest xs e (close ∷ rest)) (sym (append_assoc ts (close ∷ []) rest)) (read r (close ∷ rest) (close_quiet loosest close rest end))))
  read (counted is name) rest q = begin is (count name)
  read (numbered is name) rest q = begin is (number name)
  read (data_at is name) rest q = begin is (bits name)
  read (bits_at {t} {a} {b} {c} {word} {xs} {ys} {start} {width} comma close is name left separate right end) rest q =
      let back = (ys ++ close ∷ []) ++ rest in
      begin is (field name
      (subst (λ zs. Big loosest zs start (comma ∷ back)) (sym (append_assoc xs (comma ∷ (ys ++ close ∷ [])) rest)) (read left (comma ∷ back) (comma_quiet loosest comma back separate)))
      (subst (λ zs. Big loosest zs width (close ∷ rest)) (sym (append_assoc ys (close ∷ []) rest)) (read right (close ∷ rest) (close_quiet loosest close rest end))))
  read (tighter {level = k} r) rest q = level (read r rest (quiet_below k rest q)) (stop (quiet_at (suc k) rest q))
  read (binary {level = k} {op} {left = l} {right = r} xs ys t is at left right) rest q =
      subst (λ ts. Big (suc k) ts (OfTwo op l r) rest) (sym (append_assoc xs (t ∷ ys) rest))
      (onward left (t ∷ (ys ++ rest)) (looser_quiet k t op (ys ++ rest) is at) (OfTwo op l r) rest
      (more is at (read right rest (quiet_below k rest q)) (stop (quiet_at (suc k) rest q))))

  onward : {k : ℕ} {xs : List Token} {e : Term} → Derives (suc k) xs e → (rest : List Token) → Quiet k rest → (a : Term) (end : List Token) → Loop k e rest a end → Big (suc k) (xs ++ rest) a end
  onward (tighter r) rest q a end loop = level (read r rest q) loop
  onward (binary {level = k} {op} {left = l} {right = r} xs ys t is at left right) rest q a end loop =
      subst (λ ts. Big (suc k) ts a end) (sym (append_assoc xs (t ∷ ys) rest))
      (onward left (t ∷ (ys ++ rest)) (looser_quiet k t op (ys ++ rest) is at) a end (more is at (read right rest q) loop))

-- reading is one way

tail : (x y : Token) (xs ys : List Token) → x ∷ xs ≡ y ∷ ys → xs ≡ ys
tail x y xs ys is = cc

one_word : (o : Option Word) (word other : Word) → o ≡ Some word → o ≡ Some other → word ≡ other
one_word o word other is also = cc

one_op : (a : After) (op other : BinaryOp) → a ≡ Operates op → a ≡ Operates other → op ≡ other
one_op a op other is also = cc

none_some : (o : Option BinaryOp) (op : BinaryOp) → o ≡ None → o ≡ Some op → ⊥
none_some o op none some = cc

mutual
  one_reading : {k : ℕ} {ts r r' : List Token} {e e' : Term} → Big k ts e r → Big k ts e' r' → (e ≡ e') × (r ≡ r')
  one_reading (begin {t} {ts} is b) (begin {e = e2} {rest = r2} is2 c) = one_rest b (subst (λ s. Rest s ts e2 r2) (sym is2 ∙ is) c)
  one_reading (level {k} {mid = m1} {e = e1} b l) (level {mid = m2} {rest = r2} {e = e2} {a = a2} c m) =
      let h = one_reading b c in
      one_loop l (subst (λ x. Loop k x m1 a2 r2) (sym h.0) (subst (λ t. Loop k e2 t a2 r2) (sym h.1) m))

  one_rest : {s : Start} {ts r r' : List Token} {e e' : Term} → Rest s ts e r → Rest s ts e' r' → (e ≡ e') × (r ≡ r')
  one_rest alone alone = (refl, refl)
  one_rest (plain none) (plain also) = (refl, refl)
  one_rest (plain none) (row begins c) = absurd (false≢true (sym none ∙ ap is_index begins))
  one_rest (row begins b) (plain none) = absurd (false≢true (sym none ∙ ap is_index begins))
  one_rest (row {name} {c = c1} {rest = r1} begins b) (row {c = c2} {rest = r2} also c) = let h = one_reading b c in (ap (Indexed name) h.0, tail c1 c2 r1 r2 h.1)
  one_rest (under {op} b) (under c) = let h = one_reading b c in (ap (OfOne op) h.0, h.1)
  one_rest (group {c = c1} {rest = r1} b) (group {c = c2} {rest = r2} c) = let h = one_reading b c in (h.0, tail c1 c2 r1 r2 h.1)
  one_rest (count {word = w1} n) (count {word = w2} m) = (ap (λ (w : Word). RowsOf w.bytes) (one_word _ w1 w2 n m), refl)
  one_rest (number {word = w1} n) (number {word = w2} m) = (ap (λ (w : Word). RowNumber w.bytes) (one_word _ w1 w2 n m), refl)
  one_rest (bits {width} {word = w1} n) (bits {word = w2} m) = (ap (λ (w : Word). BitsAt w.bytes (Constant (pos 0)) (Constant (pos width))) (one_word _ w1 w2 n m), refl)
  one_rest (field {m = x1} {d = y1} {mid = m1} {rest = r1} {word = w1} {start = s1} {width = d1} n b c) (field {m = x2} {d = y2} {mid = m2} {rest = r2} {word = w2} {start = s2} {width = d2} n2 b2 c2) =
      let h = one_reading b b2 in
      let g = one_reading c (subst (λ ts. Big loosest ts d2 (y2 ∷ r2)) (sym (tail x1 x2 m1 m2 h.1)) c2) in
      (ap (λ (w : Word). BitsAt w.bytes s1 d1) (one_word _ w1 w2 n n2) ∙ ap (λ s. BitsAt w2.bytes s d1) h.0 ∙ ap (BitsAt w2.bytes s2) g.0, tail y1 y2 r1 r2 g.1)

  one_loop : {k : ℕ} {e a b : Term} {ts r r' : List Token} → Loop k e ts a r → Loop k e ts b r' → (a ≡ b) × (r ≡ r')
  one_loop (stop n) (stop m) = (refl, refl)
  one_loop (stop n) (more {k} {t} {op} {ts} is at b l) = absurd (none_some (operator_at (suc k) (t ∷ ts)) op n (found (suc k) t op ts is at))
  one_loop (more {k} {t} {op} {ts} is at b l) (stop n) = absurd (none_some (operator_at (suc k) (t ∷ ts)) op n (found (suc k) t op ts is at))
  one_loop (more {k} {t} {op} {e} {r = t1} {mid = m1} is at b l) (more {op = op2} {r = t2} {a = a2} {mid = m2} {rest = r2} is2 at2 c m) =
      let h = one_reading b c in
      let same = one_op _ op op2 is is2 in
      one_loop l (subst (λ p. Loop k (OfTwo p e t1) m1 a2 r2) (sym same) (subst (λ x. Loop k (OfTwo op2 e x) m1 a2 r2) (sym h.0) (subst (λ t. Loop k (OfTwo op2 e t2) t a2 r2) (sym h.1) m)))

pub one_expression : (ts : List Token) (e other : Term) → IsExpression ts e → IsExpression ts other → e ≡ other
one_expression ts e other d c = (one_reading (read d [] (nil_quiet loosest)) (read c [] (nil_quiet loosest))).0

-- the longest is one, and none stands beside it

goes_no_further : (ts front rest other left : List Token) (e : Term) → IsExpression other e → ((extra back : List Token) (x : Term) → rest ≡ extra ++ back → extra ≢ [] → IsExpression (front ++ extra) x → ⊥)
    → GoesOn front other rest left → (other ≡ front) × (rest ≡ left)
goes_no_further ts front rest other left e is longest on = by on.0 on.1 on.2
  where
    by : (extra : List Token) → other ≡ front ++ extra → rest ≡ extra ++ left → (other ≡ front) × (rest ≡ left)
    by [] same behind = (same ∙ append-nil front, behind)
    by (t ∷ extra) same behind = absurd (longest (t ∷ extra) left e behind (λ never. absurd cc) (subst (λ xs. IsExpression xs e) same is))

pub one_longest : (ts rest left : List Token) (e other : Term) → LongestExpression ts rest e → LongestExpression ts left other → (rest ≡ left) × (e ≡ other)
one_longest ts rest left e other p q = elim (fronts p.front q.front rest left (sym p.whole ∙ q.whole)) [
  | inl on ↦ (let same = goes_no_further ts p.front rest q.front left other q.is p.longest on in
      (same.1, one_expression p.front e other p.is (subst (λ xs. IsExpression xs other) same.0 q.is)))
  | inr on ↦ (let same = goes_no_further ts q.front left p.front rest e p.is q.longest on in
      (sym same.1, one_expression q.front e other (subst (λ xs. IsExpression xs e) same.0 p.is) q.is))
]

pub not_none : (ts rest : List Token) (e : Term) → LongestExpression ts rest e → NoExpression ts → ⊥
not_none ts rest e p none = none p.front rest e p.whole p.is

-- what a reader answers

pub only_read : (ts : List Token) (start : ℕ) (result : Result (Option ReadExpr) NoMemory)
    → IfOk result (λ found. MatchOption found (NoExpression (drop start ts)) (λ read. LongestExpression (drop start ts) (drop read.end ts) (term_of read.expr)))
    → (rest : List Token) (term : Term) → LongestExpression (drop start ts) rest term
    → IfOk result (λ found. MatchOption found ⊥ (λ read. (drop read.end ts ≡ rest) × (term_of read.expr ≡ term)))
only_read ts start (Ok None) none rest term there = not_none (drop start ts) rest term there none
only_read ts start (Ok (Some read)) longest rest term there = one_longest (drop start ts) (drop read.end ts) rest (term_of read.expr) term longest there
only_read ts start (Err memory) found rest term there = tt

pub only_none : (ts : List Token) (start : ℕ) (result : Result (Option ReadExpr) NoMemory)
    → IfOk result (λ found. MatchOption found (NoExpression (drop start ts)) (λ read. LongestExpression (drop start ts) (drop read.end ts) (term_of read.expr)))
    → NoExpression (drop start ts) → IfOk result (λ found. found ≡ None)
only_none ts start (Ok None) longest none = refl
only_none ts start (Ok (Some read)) longest none = absurd (not_none (drop start ts) (drop read.end ts) (term_of read.expr) longest none)
only_none ts start (Err memory) found none = tt

-- An expansion that is made step by step.
use Rattle.std.proofs.Common.{◌≡◌, ℕ, ◌+◌, ◌<◌, List, [], ◌∷◌, ◌++◌, Option, Some, None, refl, sym, ap, subst, ◌∙◌, arith, append_assoc}
use Rattle.std.proofs.lemmas.List.{append-nil}
use Rattle.rz_lex.specs.declared.token.Shape.{Shape}
use Rattle.rz_pre.specs.Expand.{Expansion, Expansions, bare, replaced, nothing, more}
use Rattle.rz_pre.specs.Live.{body_of, hide, name_of, Live}

-- what is still to be expanded, innermost first: the macros that are live there, and the tokens
abbrev pub Open : Type 0
Open = Live × List Shape

-- the expansions of all that is open
abbrev pub Pending : List Open → List Shape → ℕ → Type 0
Pending [] out n = (out ≡ []) × (n ≡ 0)
Pending (f ∷ fs) out n = (a : List Shape) × (b : List Shape) × (i : ℕ) × (j : ℕ) × Expansions f.0 f.1 a i × Pending fs b j × (out ≡ a ++ b) × (n ≡ i + j)

-- this was put out and so many tokens were handled, and whatever is open finishes the expansion
pub record Halfway (live : Live) (s : Shape) (fs : List Open) (done : List Shape) (spent : ℕ) : Type 0 where
  pub finishes : (b : List Shape) (j : ℕ) → Pending fs b j → Expansion live s (done ++ b) (spent + j)
  pub only : (out : List Shape) (n : ℕ) → Expansion live s out n → (b : List Shape) × (j : ℕ) × Pending fs b j × (out ≡ done ++ b) × (n ≡ spent + j)

same_body : (o : Option (List Shape)) (body other : List Shape) → o ≡ Some body → o ≡ Some other → body ≡ other
same_body o body other is also = cc

no_body : (o : Option (List Shape)) (body : List Shape) → o ≡ None → o ≡ Some body → ⊥
no_body o body none some = cc

module _ (live : Live) (s : Shape) where
  pub begun : (body : List Shape) → body_of live s ≡ Some body → Halfway live s ((hide (name_of s) live, body) ∷ []) [] 1
  begun body is = record {
    finishes = λ b j p. finish b j p.0 p.1 p.2 p.3 p.4 p.5.0 p.5.1 p.6 p.7;
    only = λ out n x. back out n x;
  }
    where
      finish : (b : List Shape) (j : ℕ) (a c : List Shape) (i k : ℕ) → Expansions (hide (name_of s) live) body a i → c ≡ [] → k ≡ 0 → b ≡ a ++ c → j ≡ i + k → Expansion live s ([] ++ b) (1 + j)
      finish b j a c i k x empty none out n =
          let same : a ≡ b = sym (append-nil a) ∙ ap (λ (xs : List Shape). a ++ xs) (sym empty) ∙ sym out in
          replaced body i is (subst (λ (xs : List Shape). Expansions (hide (name_of s) live) body xs i) same x) (omega (arith, n, none))

      back : (out : List Shape) (n : ℕ) → Expansion live s out n → (b : List Shape) × (j : ℕ) × Pending ((hide (name_of s) live, body) ∷ []) b j × (out ≡ [] ++ b) × (n ≡ 1 + j)
      back out n (bare none same one) = absurd (no_body (body_of live s) body none is)
      back out n (replaced other m found x count) =
          let same = same_body (body_of live s) other body found is in
          (out, m, (out, [], m, 0, subst (λ (l : List Shape). Expansions (hide (name_of s) live) l out m) same x, (refl, refl), sym (append-nil out), omega arith), refl, count)

  pub ended : (done : List Shape) (spent : ℕ) → Halfway live s [] done spent → Expansion live s done spent
  ended done spent half =
      subst (λ (k : ℕ). Expansion live s done k) (omega arith)
      (subst (λ (xs : List Shape). Expansion live s xs (spent + 0)) (append-nil done) (half.finishes [] 0 (refl, refl)))

module _ (live : Live) (s : Shape) (l : Live) (fs : List Open) (done : List Shape) (spent : ℕ) where
  -- nothing is left of the innermost
  pub closed : Halfway live s ((l, []) ∷ fs) done spent → Halfway live s fs done spent
  closed half = record {
    finishes = λ b j p. half.finishes b j ([], b, 0, j, nothing refl refl, p, refl, omega arith);
    only = λ out n x. (let r = half.only out n x in back out n r.0 r.1 r.2.0 r.2.1 r.2.2 r.2.3 r.2.4 r.2.5 r.2.6 r.2.7 r.3 r.4);
  }
    where
      back : (out : List Shape) (n : ℕ) (b : List Shape) (j : ℕ) (a c : List Shape) (i k : ℕ) → Expansions l [] a i → Pending fs c k → b ≡ a ++ c → j ≡ i + k → out ≡ done ++ b → n ≡ spent + j
          → (b2 : List Shape) × (j2 : ℕ) × Pending fs b2 j2 × (out ≡ done ++ b2) × (n ≡ spent + j2)
      back out n b j a c i k (nothing empty none) p joined sum put count =
          (c, k, p, put ∙ ap (λ (x : List Shape). done ++ x) (joined ∙ ap (λ (x : List Shape). x ++ c) empty), omega (arith, count, sum, none))

  -- the next token is itself
  pub kept : (t : Shape) (ts : List Shape) → body_of l t ≡ None → Halfway live s ((l, t ∷ ts) ∷ fs) done spent → Halfway live s ((l, ts) ∷ fs) (done ++ t ∷ []) (spent + 1)
  kept t ts none half = record {
    finishes = λ b j p. finish b j p.0 p.1 p.2 p.3 p.4 p.5 p.6 p.7;
    only = λ out n x. (let r = half.only out n x in back out n r.0 r.1 r.2.0 r.2.1 r.2.2 r.2.3 r.2.4 r.2.5 r.2.6 r.2.7 r.3 r.4);
  }
    where
      finish : (b : List Shape) (j : ℕ) (a c : List Shape) (i k : ℕ) → Expansions l ts a i → Pending fs c k → b ≡ a ++ c → j ≡ i + k → Expansion live s ((done ++ t ∷ []) ++ b) (spent + 1 + j)
      finish b j a c i k x p joined sum =
          let count : spent + (1 + j) ≡ spent + 1 + j = omega arith in
          subst (λ (m : ℕ). Expansion live s ((done ++ t ∷ []) ++ b) m) count
          (subst (λ (xs : List Shape). Expansion live s xs (spent + (1 + j))) (sym (append_assoc done (t ∷ []) b))
          (half.finishes (t ∷ b) (1 + j) (t ∷ a, c, 1 + i, k, more (t ∷ []) a 1 i (bare none refl refl) x refl refl, p, ap (λ (xs : List Shape). t ∷ xs) joined, omega (arith, sum))))

      both : (out : List Shape) (n : ℕ) (b : List Shape) (j : ℕ) (a c a1 a2 : List Shape) (i k i1 i2 : ℕ) → a1 ≡ t ∷ [] → i1 ≡ 1 → Expansions l ts a2 i2 → a ≡ a1 ++ a2 → i ≡ i1 + i2 → Pending fs c k
          → b ≡ a ++ c → j ≡ i + k → out ≡ done ++ b → n ≡ spent + j
          → (b2 : List Shape) × (j2 : ℕ) × Pending ((l, ts) ∷ fs) b2 j2 × (out ≡ (done ++ t ∷ []) ++ b2) × (n ≡ spent + 1 + j2)
      both out n b j a c a1 a2 i k i1 i2 itself one x split steps p joined sum put count = (
        a2 ++ c,
        i2 + k,
        (a2, c, i2, k, x, p, refl, refl),
        put ∙ ap (λ (xs : List Shape). done ++ xs) (joined ∙ ap (λ (xs : List Shape). xs ++ c) (split ∙ ap (λ (xs : List Shape). xs ++ a2) itself)) ∙ sym (append_assoc done (t ∷ []) (a2 ++ c)),
        omega (arith, count, sum, steps, one),
      )

      back : (out : List Shape) (n : ℕ) (b : List Shape) (j : ℕ) (a c : List Shape) (i k : ℕ) → Expansions l (t ∷ ts) a i → Pending fs c k → b ≡ a ++ c → j ≡ i + k → out ≡ done ++ b → n ≡ spent + j
          → (b2 : List Shape) × (j2 : ℕ) × Pending ((l, ts) ∷ fs) b2 j2 × (out ≡ (done ++ t ∷ []) ++ b2) × (n ≡ spent + 1 + j2)
      back out n b j a c i k (more a1 a2 i1 i2 (bare bare_too itself one) x split steps) p joined sum put count = both out n b j a c a1 a2 i k i1 i2 itself one x split steps p joined sum put count
      back out n b j a c i k (more a1 a2 i1 i2 (replaced body m found y z) x split steps) p joined sum put count = absurd (no_body (body_of l t) body none found)

  -- the next token is a macro
  pub opened : (t : Shape) (ts body : List Shape) → body_of l t ≡ Some body → Halfway live s ((l, t ∷ ts) ∷ fs) done spent
      → Halfway live s ((hide (name_of t) l, body) ∷ (l, ts) ∷ fs) done (spent + 1)
  opened t ts body is half = record {
    finishes = λ b j p. finish b j p.0 p.1 p.2 p.3 p.4 p.5.0 p.5.1 p.5.2 p.5.3 p.5.4 p.5.5 p.5.6 p.5.7 p.6 p.7;
    only = λ out n x. (let r = half.only out n x in back out n r.0 r.1 r.2.0 r.2.1 r.2.2 r.2.3 r.2.4 r.2.5 r.2.6 r.2.7 r.3 r.4);
  }
    where
      finish : (b : List Shape) (j : ℕ) (a c : List Shape) (i k : ℕ) → Expansions (hide (name_of t) l) body a i → (d e : List Shape) (u v : ℕ) → Expansions l ts d u → Pending fs e v → c ≡ d ++ e → k ≡ u + v → b ≡ a ++ c → j ≡ i + k
          → Expansion live s (done ++ b) (spent + 1 + j)
      finish b j a c i k x d e u v y p inner steps joined sum =
          let count : spent + (1 + j) ≡ spent + 1 + j = omega arith in
          subst (λ (m : ℕ). Expansion live s (done ++ b) m) count
          (half.finishes b (1 + j) (
            a ++ d,
            e,
            1 + i + u,
            v,
            more a d (1 + i) u (replaced body i is x refl) y refl refl,
            p,
            joined ∙ ap (λ (xs : List Shape). a ++ xs) inner ∙ sym (append_assoc a d e),
            omega (arith, sum, steps),
          ))

      back : (out : List Shape) (n : ℕ) (b : List Shape) (j : ℕ) (a c : List Shape) (i k : ℕ) → Expansions l (t ∷ ts) a i → Pending fs c k → b ≡ a ++ c → j ≡ i + k → out ≡ done ++ b → n ≡ spent + j
          → (b2 : List Shape) × (j2 : ℕ) × Pending ((hide (name_of t) l, body) ∷ (l, ts) ∷ fs) b2 j2 × (out ≡ done ++ b2) × (n ≡ spent + 1 + j2)
      back out n b j a c i k (more a1 a2 i1 i2 (bare none itself one) x split steps) p joined sum put count = absurd (no_body (body_of l t) body none is)
      back out n b j a c i k (more a1 a2 i1 i2 (replaced other m found y z) x split steps) p joined sum put count =
          let same = same_body (body_of l t) other body found is in (
            b,
            m + (i2 + k),
            (
              a1,
              a2 ++ c,
              m,
              i2 + k,
              subst (λ (xs : List Shape). Expansions (hide (name_of t) l) xs a1 m) same y,
              (a2, c, i2, k, x, p, refl, refl),
              joined ∙ ap (λ (xs : List Shape). xs ++ c) split ∙ append_assoc a1 a2 c,
              refl,
            ),
            put,
            omega (arith, count, sum, steps, z),
          )

  -- a token that is left counts
  pub one_left : (t : Shape) (ts : List Shape) → Halfway live s ((l, t ∷ ts) ∷ fs) done spent → (out : List Shape) (n : ℕ) → Expansion live s out n → spent < n
  one_left t ts half out n x = let r = half.only out n x in some r.1 r.2.0 r.2.1 r.2.2 r.2.3 r.2.4 r.2.7 r.4
    where
      some : (j : ℕ) (a c : List Shape) (i k : ℕ) → Expansions l (t ∷ ts) a i → j ≡ i + k → n ≡ spent + j → spent < n
      some j a c i k (more a1 a2 i1 i2 (bare none itself one) y split steps) sum count = omega (arith, count, sum, steps, one)
      some j a c i k (more a1 a2 i1 i2 (replaced body m found z one) y split steps) sum count = omega (arith, count, sum, steps, one)

-- A line has one list of tokens or one first fault.
use Rattle.std.proofs.Common.{◌≡◌, ℕ, Bool, true, ◌⊎◌, inl, inr, List, [], ◌∷◌, ◌++◌, Result, Ok, Err, refl, sym, subst, ap, ◌∙◌}
use Rattle.std.proofs.lemmas.Bool.{false≢true}
use Rattle.std.proofs.lemmas.List.{append-nil}
use Rattle.rz_core.specs.declared.fault.Mark.{Mark}
use Rattle.rz_core.specs.declared.fault.Fault.{Fault}
use Rattle.rz_lex.specs.Extent.{is_lexeme, Longest}
use Rattle.rz_lex.specs.Shape.{shape_of}
use Rattle.rz_lex.specs.Cutting.{after_blanks, Leads, Next, Cuts, IsBad, Refuses}
use Rattle.rz_lex.specs.declared.token.Shape.{Shape}
use Rattle.rz_lex.specs.declared.token.Token.{Token}

-- the second of two fronts goes on from the first
abbrev GoesOn : List ℕ → List ℕ → List ℕ → List ℕ → Type 0
GoesOn front other after left = (more : List ℕ) × (other ≡ front ++ more) × (after ≡ more ++ left)

-- of two fronts of one list, one goes on from the other
fronts : (front other after left : List ℕ) → front ++ after ≡ other ++ left → GoesOn front other after left ⊎ GoesOn other front left after
fronts [] other after left is = inl (other, refl, is)
fronts (x ∷ front) [] after left is = inr (x ∷ front, refl, sym is)
fronts (x ∷ front) (y ∷ other) after left is =
    let h : x ≡ y = cc in
    elim (fronts front other after left cc) [
      | inl on ↦ inl (on.0, rw (h, on.1) refl, on.2)
      | inr on ↦ inr (on.0, rw (h, on.1) refl, on.2)
    ]

not_longer : (test : List ℕ → Bool) (rest front after other left : List ℕ) → Longest test rest front after → test other ≡ true → GoesOn front other after left → (front ≡ other) × (after ≡ left)
not_longer test rest front after other left longest passes on = by_more on.0 on.1 on.2
  where
    by_more : (more : List ℕ) → other ≡ front ++ more → after ≡ more ++ left → (front ≡ other) × (after ≡ left)
    by_more [] is behind = (sym (is ∙ append-nil front), behind)
    by_more (c ∷ more) is behind = absurd (false≢true (sym (longest.longest (c ∷ more) left behind (λ e. absurd cc)) ∙ ap test (sym is) ∙ passes))

pub one_longest : (test : List ℕ → Bool) (rest front after other left : List ℕ) → Longest test rest front after → Longest test rest other left → (front ≡ other) × (after ≡ left)
one_longest test rest front after other left l m = elim (fronts front other after left (sym l.whole ∙ m.whole)) [
  | inl on ↦ not_longer test rest front after other left l m.passes on
  | inr on ↦ (let same = not_longer test rest other left front after m l.passes on in (sym same.0, sym same.1))
]

-- one answer of `shape_of`

one_shape : (p q : Result Shape Fault) (s t : Shape) → p ≡ q → p ≡ Ok s → q ≡ Ok t → s ≡ t
one_shape p q s t same is also = cc

one_reason : (p q : Result Shape Fault) (f g : Fault) → p ≡ q → p ≡ Err f → q ≡ Err g → f ≡ g
one_reason p q f g same is also = cc

one_answer : (p q : Result Shape Fault) (s : Shape) (f : Fault) → p ≡ q → p ≡ Ok s → q ≡ Err f → ⊥
one_answer p q s f same is also = cc

same_token : (t u : Token) → t.shape ≡ u.shape → t.mark ≡ u.mark → t ≡ u
same_token t u shapes marks = λ i. record { shape = shapes i; mark = marks i }

one_next : (mark : Mark) (line : List ℕ) (t u : Token) (after left : List ℕ) → Next mark line t after → Next mark line u left → (t ≡ u) × (after ≡ left)
one_next mark line t u after left p q =
    let same = one_longest is_lexeme (after_blanks line) p.lexeme after q.lexeme left p.longest q.longest in
    (same_token t u (one_shape (shape_of mark p.lexeme) (shape_of mark q.lexeme) t.shape u.shape (ap (shape_of mark) same.0) p.shape q.shape) (p.place ∙ sym q.place), same.1)

-- no token stands there
abbrev IsStuck : Mark → List ℕ → Type 0
IsStuck mark line = (t : Token) (after : List ℕ) → Next mark line t after → ⊥

one_front : (mark : Mark) (line : List ℕ) (ts us : List Token) (rest left : List ℕ) → Leads mark line ts rest → Leads mark line us left → IsStuck mark rest → IsStuck mark left → (ts ≡ us) × (rest ≡ left)
one_front mark line [] [] rest left p q stuck also = (refl, sym p ∙ q)
one_front mark line [] (u ∷ us) rest left p q stuck also = absurd (stuck u q.0 (subst (λ r. Next mark r u q.0) p q.1))
one_front mark line (t ∷ ts) [] rest left p q stuck also = absurd (also t p.0 (subst (λ r. Next mark r t p.0) q p.1))
one_front mark line (t ∷ ts) (u ∷ us) rest left p q stuck also =
    let same = one_next mark line t u p.0 q.0 p.1 q.1 in
    let others = one_front mark q.0 ts us rest left (subst (λ (x : List ℕ). Leads mark x ts rest) same.1 p.2) q.2 stuck also in
    (rw (same.0, others.0) refl, others.1)

stuck_at_end : (mark : Mark) (rest : List ℕ) → after_blanks rest ≡ [] → IsStuck mark rest
stuck_at_end mark rest blank t after next = no_front next.lexeme (sym blank ∙ next.longest.whole) next.longest.passes
  where
    no_front : (front : List ℕ) → [] ≡ front ++ after → is_lexeme front ≡ true → ⊥
    no_front [] is passes = false≢true passes
    no_front (c ∷ front) is passes = cc

stuck_at_fault : (mark : Mark) (rest : List ℕ) (f : Fault) → IsBad mark (after_blanks rest) f → IsStuck mark rest
stuck_at_fault mark rest f bad t after next = elim bad [
  | inl dead ↦ false≢true (sym (dead.0 next.lexeme after next.longest.whole) ∙ next.longest.passes)
  | inr read ↦ (let same = one_longest is_lexeme (after_blanks rest) next.lexeme after read.0 read.1 next.longest read.2 in one_answer (shape_of mark next.lexeme) (shape_of mark read.0) t.shape f (ap (shape_of mark) same.0) next.shape read.3)
]

one_bad : (mark : Mark) (rest : List ℕ) (f g : Fault) → IsBad mark rest f → IsBad mark rest g → f ≡ g
one_bad mark rest f g p q = elim p [
  | inl dead ↦ (elim q [
    | inl also ↦ dead.1 ∙ sym also.1
    | inr read ↦ absurd (false≢true (sym (dead.0 read.0 read.1 read.2.whole) ∙ read.2.passes))
  ])
  | inr read ↦ (elim q [
    | inl dead ↦ absurd (false≢true (sym (dead.0 read.0 read.1 read.2.whole) ∙ read.2.passes))
    | inr also ↦ (let same = one_longest is_lexeme rest read.0 read.1 also.0 also.1 read.2 also.2 in one_reason (shape_of mark read.0) (shape_of mark also.0) f g (ap (shape_of mark) same.0) read.3 also.3)
  ])
]

pub one_list : (mark : Mark) (line : List ℕ) (ts us : List Token) → Cuts mark line ts → Cuts mark line us → ts ≡ us
one_list mark line ts us p q = (one_front mark line ts us p.0 q.0 p.1 q.1 (stuck_at_end mark p.0 p.2) (stuck_at_end mark q.0 q.2)).0

pub one_fault : (mark : Mark) (line : List ℕ) (f g : Fault) → Refuses mark line f → Refuses mark line g → f ≡ g
one_fault mark line f g p q =
    let same = one_front mark line p.tokens q.tokens p.rest q.rest p.leads q.leads (stuck_at_fault mark p.rest f p.bad) (stuck_at_fault mark q.rest g q.bad) in
    one_bad mark (after_blanks q.rest) f g (subst (λ (x : List ℕ). IsBad mark (after_blanks x) f) same.1 p.bad) q.bad

pub not_both : (mark : Mark) (line : List ℕ) (ts : List Token) (f : Fault) → Cuts mark line ts → Refuses mark line f → ⊥
not_both mark line ts f p q =
    let same = one_front mark line ts q.tokens p.0 q.rest p.1 q.leads (stuck_at_end mark p.0 p.2) (stuck_at_fault mark q.rest f q.bad) in
    q.some (ap after_blanks (sym same.1) ∙ p.2)

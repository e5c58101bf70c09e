-- Of a list it is decided whether one of its cuts is of a kind, and which is the longest, where it is decided of each
-- cut.
use Rattle.std.proofs.Common.{◌≡◌, ◌≢◌, ◌⊎◌, inl, inr, Bool, true, false, ℕ, suc, ◌≤◌, List, [], ◌∷◌, ◌++◌, length, length-append, Option, Some, None, refl, sym, ap, subst, arith}
use Rattle.std.proofs.Math.Decide.{map_dec}
use Rattle.rz_core.proofs.Tests.{none_some, true_false}
use Rattle.rz_core.specs.Decided.{Decided}

-- What is decided of two things.

pub both : {P Q : Type 0} → Dec P → Dec Q → Dec (P × Q)
both (yes p) (yes q) = yes (p, q)
both (yes p) (no q) = no (λ h. q h.1)
both (no p) other = no (λ h. p h.0)

pub all_three : {P Q R : Type 0} → Dec P → Dec Q → Dec R → Dec (P × Q × R)
all_three (yes p) (yes q) (yes r) = yes (p, q, r)
all_three (yes p) (yes q) (no r) = no (λ h. r h.2)
all_three (yes p) (no q) other = no (λ h. q h.1)
all_three (no p) other also = no (λ h. p h.0)

pub one_of : {P Q : Type 0} → Dec P → Dec Q → Dec (P ⊎ Q)
one_of (yes p) other = yes (inl p)
one_of (no p) (yes q) = yes (inr q)
one_of (no p) (no q) = no (λ h. elim h [
  | inl is ↦ p is
  | inr is ↦ q is
])

pub is_nothing : {A : Type 0} (xs : List A) → Dec (xs ≡ [])
is_nothing [] = yes refl
is_nothing (x ∷ xs) = no (λ is. cc is)

pub is_true : (b : Bool) → Dec (b ≡ true)
is_true true = yes refl
is_true false = no (λ is. true_false (sym is))

pub some_of : {A : Type 0} (found : Option A) → Dec ((x : A) × (found ≡ Some x))
some_of None = no (λ h. none_some h.0 h.1)
some_of (Some x) = yes (x, refl)

-- an answer, or none, is whether there is one
pub known_of : {X : Type 0} (P : X → Type 0) → (answer : Option X) × Decided P answer → Dec ((x : X) × P x)
known_of P (Some x, is) = yes (x, is)
known_of P (None, never) = no (λ h. never h.0 h.1)

-- where there is one at most, it is decided whether there is one of which more holds, if that is decided of it
pub known_with : {X : Type 0} (P Q : X → Type 0) → ((x y : X) → P x → P y → x ≡ y) → Dec ((x : X) × P x) → ((x : X) → P x → Dec (Q x)) → Dec ((x : X) × P x × Q x)
known_with P Q one (no never) each = no (λ h. never (h.0, h.1))
known_with {X} P Q one (yes (x, is)) each = by (each x is)
  where
    by : Dec (Q x) → Dec ((x : X) × P x × Q x)
    by (yes more) = yes (x, is, more)
    by (no never) = no (λ h. never (subst Q (one h.0 x h.1 is) h.2))

-- where it is decided whether there is one, one is the answer, or none
pub answer_of : {X : Type 0} (P : X → Type 0) → Dec ((x : X) × P x) → (answer : Option X) × Decided P answer
answer_of P (yes found) = (Some found.0, found.1)
answer_of P (no never) = (None, λ x is. never (x, is))

-- where there is one at most, there is one answer
pub one_answer : {X : Type 0} (P : X → Type 0) → ((x y : X) → P x → P y → x ≡ y) → (answer other : Option X) → Decided P answer → Decided P other → answer ≡ other
one_answer P one None None is also = refl
one_answer P one None (Some y) is also = absurd (is y also)
one_answer P one (Some x) None is also = absurd (also x is)
one_answer P one (Some x) (Some y) is also = ap (λ z. Some z) (one x y is also)

-- Cuts.

pub head : {A : Type 0} (x y : A) (xs ys : List A) → x ∷ xs ≡ y ∷ ys → x ≡ y
head x y xs ys is = cc

pub tail : {A : Type 0} (x y : A) (xs ys : List A) → x ∷ xs ≡ y ∷ ys → xs ≡ ys
tail x y xs ys is = cc

-- a front and a rest, of the kind
pub record Cut {A : Type 0} (P : List A → List A → Type 0) (xs : List A) : Type 0 where
  pub front : List A
  pub rest : List A
  pub are : xs ≡ front ++ rest
  pub is : P front rest

-- and no longer front is of the kind
pub record LongestCut {A : Type 0} (P : List A → List A → Type 0) (xs : List A) : Type 0 where
  pub front : List A
  pub rest : List A
  pub are : xs ≡ front ++ rest
  pub is : P front rest
  pub longest : (more left : List A) → rest ≡ more ++ left → more ≢ [] → P (front ++ more) left → ⊥

-- no cut is of the kind
abbrev pub NoCut : {A : Type 0} → (List A → List A → Type 0) → List A → Type 0
NoCut {A} P xs = (front rest : List A) → xs ≡ front ++ rest → P front rest → ⊥

module _ {A : Type 0} where
  pub longest_cut : (P : List A → List A → Type 0) (xs : List A) → ((front rest : List A) → xs ≡ front ++ rest → Dec (P front rest)) → LongestCut P xs ⊎ NoCut P xs
  longest_cut P [] each = by (each [] [] refl)
    where
      only : (front rest : List A) → [] ≡ front ++ rest → P front rest → P [] []
      only [] rest are is = subst (P []) (sym are) is
      only (y ∷ front) rest are is = absurd (cc are)

      none_more : (more left : List A) → [] ≡ more ++ left → more ≡ []
      none_more [] left are = refl
      none_more (y ∷ more) left are = absurd (cc are)

      by : Dec (P [] []) → LongestCut P [] ⊎ NoCut P []
      by (yes p) = inl (record { front = []; rest = []; are = refl; is = p; longest = λ more left are some is. some (none_more more left are) })
      by (no p) = inr (λ front rest are is. p (only front rest are is))
  longest_cut P (x ∷ xs) each =
      by (each [] (x ∷ xs) refl) (longest_cut (λ front rest. P (x ∷ front) rest) xs (λ front rest are. each (x ∷ front) rest (ap (λ (ys : List A). x ∷ ys) are)))
    where
      longer : NoCut (λ front rest. P (x ∷ front) rest) xs → (y : A) (more left : List A) → x ∷ xs ≡ y ∷ (more ++ left) → P (y ∷ more) left → ⊥
      longer none y more left are is =
          none more left (tail x y xs (more ++ left) are) (subst (λ (z : A). P (z ∷ more) left) (sym (head x y xs (more ++ left) are)) is)

      none_longer : NoCut (λ front rest. P (x ∷ front) rest) xs → (more left : List A) → x ∷ xs ≡ more ++ left → more ≢ [] → P more left → ⊥
      none_longer none [] left are some is = some refl
      none_longer none (y ∷ more) left are some is = longer none y more left are is

      never : (P [] (x ∷ xs) → ⊥) → NoCut (λ front rest. P (x ∷ front) rest) xs → (front rest : List A) → x ∷ xs ≡ front ++ rest → P front rest → ⊥
      never p none [] rest are is = p (subst (P []) (sym are) is)
      never p none (y ∷ front) rest are is = longer none y front rest are is

      by : Dec (P [] (x ∷ xs)) → LongestCut (λ front rest. P (x ∷ front) rest) xs ⊎ NoCut (λ front rest. P (x ∷ front) rest) xs → LongestCut P (x ∷ xs) ⊎ NoCut P (x ∷ xs)
      by here (inl c) = inl (record { front = x ∷ c.front; rest = c.rest; are = ap (λ (ys : List A). x ∷ ys) c.are; is = c.is; longest = c.longest })
      by (yes p) (inr none) = inl (record { front = []; rest = x ∷ xs; are = refl; is = p; longest = none_longer none })
      by (no p) (inr none) = inr (never p none)

  pub some_cut : (P : List A → List A → Type 0) (xs : List A) → ((front rest : List A) → xs ≡ front ++ rest → Dec (P front rest)) → Dec (Cut P xs)
  some_cut P xs each = by (longest_cut P xs each)
    where
      by : LongestCut P xs ⊎ NoCut P xs → Dec (Cut P xs)
      by (inl c) = yes (record { front = c.front; rest = c.rest; are = c.are; is = c.is })
      by (inr none) = no (λ c. none c.front c.rest c.are c.is)

-- Cuts with an item between.

-- an item, what stands before it, and what after it, of the kind
pub record Split {A : Type 0} (P : List A → A → List A → Type 0) (xs : List A) : Type 0 where
  pub front : List A
  pub item : A
  pub back : List A
  pub are : xs ≡ front ++ item ∷ back
  pub is : P front item back

abbrev AtItem : {A : Type 0} → (List A → A → List A → Type 0) → List A → List A → Type 0
AtItem P front [] = ⊥
AtItem P front (item ∷ back) = P front item back

module _ {A : Type 0} (P : List A → A → List A → Type 0) (xs : List A) where
  pub some_split : ((front : List A) (item : A) (back : List A) → xs ≡ front ++ item ∷ back → Dec (P front item back)) → Dec (Split P xs)
  some_split each = map_dec to from (some_cut (AtItem P) xs at)
    where
      at : (front rest : List A) → xs ≡ front ++ rest → Dec (AtItem P front rest)
      at front [] are = no (λ never. never)
      at front (item ∷ back) are = each front item back are

      split : (front rest : List A) → xs ≡ front ++ rest → AtItem P front rest → Split P xs
      split front [] are is = absurd is
      split front (item ∷ back) are is = record { front = front; item = item; back = back; are = are; is = is }

      to : Cut (AtItem P) xs → Split P xs
      to c = split c.front c.rest c.are c.is

      from : Split P xs → Cut (AtItem P) xs
      from s = record { front = s.front; rest = s.item ∷ s.back; are = s.are; is = s.is }

-- what stands before an item, and what after it, is shorter
pub parts_few : {A : Type 0} (n : ℕ) (xs front : List A) (item : A) (back : List A) → xs ≡ front ++ item ∷ back → length xs ≤ suc n → (length front ≤ n) × (length back ≤ n)
parts_few {A} n xs front item back are few =
    let sum = length-append front (item ∷ back) in
    let all = ap (λ (ys : List A). length ys) are in
    (omega (arith, few, sum, all), omega (arith, few, sum, all))

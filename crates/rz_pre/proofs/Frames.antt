-- The macros that are being replaced, outermost first.
use Rattle.std.proofs.Common.{◌≡◌, ℕ, suc, true, false, List, [], ◌∷◌, ◌++◌, drop, Option, Some, None, refl, sym, ap, subst, ◌∙◌, true≢false}
use Rattle.std.specs.Prelude.{◌==◌, option_map, unwrap_or}
use Rattle.std.proofs.lemmas.Bool.{eqb-true, eqb-false}
use Rattle.std.proofs.lemmas.Slice.Eq.{bytes_eq-Decides}
use Rattle.std.specs.Str.{bytes_eq}
use Rattle.rz_core.proofs.Tests.{by_test}
use Rattle.rz_lex.specs.declared.token.Shape.{Shape}
use Rattle.rz_pre.specs.Live.{body_at, hide, live_in, live_row, name_at, Live, Row}
use Rattle.rz_pre.specs.Steps.{is_inside, Frame}
use Rattle.rz_pre.proofs.Halfway.{Open}

-- what is live inside all these macros
abbrev pub visible : List Row → Live → List Frame → Live
visible rows live [] = live
visible rows live (f ∷ fs) = visible rows (hide (name_at rows f.0) live) fs

-- what is open, innermost first
abbrev pub opened_by : List Row → Live → List Frame → List Open
opened_by rows live [] = []
opened_by rows live (f ∷ fs) = opened_by rows (hide (name_at rows f.0) live) fs ++ (hide (name_at rows f.0) live, drop f.1 (body_at rows f.0)) ∷ []

-- one more inside
pub one_inside : (rows : List Row) (live : Live) (fs : List Frame) (f : Frame)
    → opened_by rows live (fs ++ f ∷ []) ≡ (hide (name_at rows f.0) (visible rows live fs), drop f.1 (body_at rows f.0)) ∷ opened_by rows live fs
one_inside rows live [] f = refl
one_inside rows live (g ∷ fs) f = ap (λ (os : List Open). os ++ (hide (name_at rows g.0) live, drop g.1 (body_at rows g.0)) ∷ []) (one_inside rows (hide (name_at rows g.0) live) fs f)

pub visible_inside : (rows : List Row) (live : Live) (fs : List Frame) (f : Frame) → visible rows live (fs ++ f ∷ []) ≡ hide (name_at rows f.0) (visible rows live fs)
visible_inside rows live [] f = refl
visible_inside rows live (g ∷ fs) f = visible_inside rows (hide (name_at rows g.0) live) fs f

-- Names that are hidden, and names that aren't.

pub none_stays : (rows : List Row) (live : Live) (fs : List Frame) (name : List ℕ) → live name ≡ None → visible rows live fs name ≡ None
none_stays rows live [] name none = none
none_stays rows live (f ∷ fs) name none = none_stays rows (hide (name_at rows f.0) live) fs name
    (by_test (hide (name_at rows f.0) live name ≡ None) (bytes_eq (name_at rows f.0) name) (λ h. rw h refl) (λ h. rw h none))

-- each is the first of its name that is live
abbrev pub AllFirst : List Row → List Frame → Type 0
AllFirst rows [] = Unit {0}
AllFirst rows (f ∷ fs) = (live_row rows (name_at rows f.0) ≡ Some f.0) × AllFirst rows fs

pub all_first_more : (rows : List Row) (fs : List Frame) (f : Frame) → AllFirst rows fs → live_row rows (name_at rows f.0) ≡ Some f.0 → AllFirst rows (fs ++ f ∷ [])
all_first_more rows [] f all is = (is, tt)
all_first_more rows (g ∷ fs) f all is = (all.0, all_first_more rows fs f all.1 is)

pub all_first_front : (rows : List Row) (fs : List Frame) (f : Frame) → AllFirst rows (fs ++ f ∷ []) → AllFirst rows fs × (live_row rows (name_at rows f.0) ≡ Some f.0)
all_first_front rows [] f all = (tt, all.0)
all_first_front rows (g ∷ fs) f all = let r = all_first_front rows fs f all.1 in ((all.0, r.0), r.1)

-- What is found in the rows.

one_position : (k j : ℕ) → ◌≡◌ {A = Option ℕ} (Some k) (Some j) → k ≡ j
one_position k j is = cc

equal_names : (one other : List ℕ) → one ≡ other → bytes_eq one other ≡ true
equal_names one other same = (bytes_eq-Decides one other).1 same

same_name : (name other : List ℕ) → bytes_eq name other ≡ true → name ≡ other
same_name name other is = (bytes_eq-Decides name other).0 is

pub row_is : (rows : List Row) (name : List ℕ) (k : ℕ) → live_row rows name ≡ Some k → (name_at rows k ≡ name) × (live_in rows name ≡ Some (body_at rows k))
row_is [] name k is = absurd cc
row_is (row ∷ rows) name k is = by_test ((name_at (row ∷ rows) k ≡ name) × (live_in (row ∷ rows) name ≡ Some (body_at (row ∷ rows) k))) (bytes_eq name row.0)
    (λ h. here h row.1 refl (sym (at_row h) ∙ is))
    (λ h. behind h (live_row rows name) refl (sym (past_row h) ∙ is) (λ j e. row_is rows name j e))
  where
    at_row : bytes_eq name row.0 ≡ true → live_row (row ∷ rows) name ≡ option_map (λ (b : List Shape). 0) row.1
    at_row h = rw h refl

    past_row : bytes_eq name row.0 ≡ false → live_row (row ∷ rows) name ≡ option_map (λ j. suc j) (live_row rows name)
    past_row h = rw h refl

    in_row : bytes_eq name row.0 ≡ true → live_in (row ∷ rows) name ≡ row.1
    in_row h = rw h refl

    in_rows : bytes_eq name row.0 ≡ false → live_in (row ∷ rows) name ≡ live_in rows name
    in_rows h = rw h refl

    here : bytes_eq name row.0 ≡ true → (body : Option (List Shape)) → row.1 ≡ body → option_map (λ (b : List Shape). 0) row.1 ≡ Some k
        → (name_at (row ∷ rows) k ≡ name) × (live_in (row ∷ rows) name ≡ Some (body_at (row ∷ rows) k))
    here h None none is = let never : ◌≡◌ {A = Option ℕ} None (Some k) = sym (ap (option_map (λ (b : List Shape). 0)) none) ∙ is in absurd cc
    here h (Some body) some is =
        let found : ◌≡◌ {A = Option ℕ} (Some 0) (Some k) = sym (ap (option_map (λ (b : List Shape). 0)) some) ∙ is in
        let first : 0 ≡ k = cc in (
          subst (λ j. name_at (row ∷ rows) j ≡ name) first (sym (same_name name row.0 h)),
          subst (λ j. live_in (row ∷ rows) name ≡ Some (body_at (row ∷ rows) j)) first (in_row h ∙ some ∙ ap (λ o. Some (unwrap_or o [])) (sym some)),
        )

    behind : bytes_eq name row.0 ≡ false → (o : Option ℕ) → live_row rows name ≡ o → option_map (λ j. suc j) (live_row rows name) ≡ Some k
        → ((j : ℕ) → live_row rows name ≡ Some j → (name_at rows j ≡ name) × (live_in rows name ≡ Some (body_at rows j)))
        → (name_at (row ∷ rows) k ≡ name) × (live_in (row ∷ rows) name ≡ Some (body_at (row ∷ rows) k))
    behind h None none is more = let never : ◌≡◌ {A = Option ℕ} None (Some k) = sym (ap (option_map (λ j. suc j)) none) ∙ is in absurd cc
    behind h (Some j) some is more =
        let found : ◌≡◌ {A = Option ℕ} (Some (suc j)) (Some k) = sym (ap (option_map (λ i. suc i)) some) ∙ is in
        let next : suc j ≡ k = cc in
        let r = more j some in
        (subst (λ i. name_at (row ∷ rows) i ≡ name) next r.0, subst (λ i. live_in (row ∷ rows) name ≡ Some (body_at (row ∷ rows) i)) next (in_rows h ∙ r.1))

pub row_is_not : (rows : List Row) (name : List ℕ) → live_row rows name ≡ None → live_in rows name ≡ None
row_is_not [] name is = refl
row_is_not (row ∷ rows) name is = by_test (live_in (row ∷ rows) name ≡ None) (bytes_eq name row.0)
    (λ h. rw h (undefined row.1 (sym (at_row h) ∙ is)))
    (λ h. rw h (row_is_not rows name (absent (live_row rows name) (sym (past_row h) ∙ is))))
  where
    at_row : bytes_eq name row.0 ≡ true → live_row (row ∷ rows) name ≡ option_map (λ (b : List Shape). 0) row.1
    at_row h = rw h refl

    past_row : bytes_eq name row.0 ≡ false → live_row (row ∷ rows) name ≡ option_map (λ j. suc j) (live_row rows name)
    past_row h = rw h refl

    undefined : (body : Option (List Shape)) → option_map {U = ℕ} (λ (b : List Shape). 0) body ≡ None → body ≡ None
    undefined None is = refl
    undefined (Some body) is = absurd cc

    absent : (o : Option ℕ) → option_map (λ j. suc j) o ≡ None → o ≡ None
    absent None is = refl
    absent (Some j) is = absurd cc

-- A live macro inside others.

pub hidden_inside : (rows : List Row) (live : Live) (fs : List Frame) (name : List ℕ) (k : ℕ) → name_at rows k ≡ name → is_inside k fs ≡ true → visible rows live fs name ≡ None
hidden_inside rows live [] name k is inside = absurd cc
hidden_inside rows live (f ∷ fs) name k is inside = by_test (visible rows live (f ∷ fs) name ≡ None) (k == f.0)
    (λ h. none_stays rows (hide (name_at rows f.0) live) fs name (hidden f.0 (eqb-true k f.0 h)))
    (λ h. hidden_inside rows (hide (name_at rows f.0) live) fs name k is (sym (past h) ∙ inside))
  where
    past : (k == f.0) ≡ false → is_inside k (f ∷ fs) ≡ is_inside k fs
    past h = rw h refl

    hidden : (j : ℕ) → k ≡ j → hide (name_at rows j) live name ≡ None
    hidden j same = rw (equal_names (name_at rows j) name (ap (name_at rows) (sym same) ∙ is)) refl

pub shown_inside : (rows : List Row) (live : Live) (fs : List Frame) (name : List ℕ) (k : ℕ) → live_row rows name ≡ Some k → AllFirst rows fs → is_inside k fs ≡ false → visible rows live fs name ≡ live name
shown_inside rows live [] name k found all inside = refl
shown_inside rows live (f ∷ fs) name k found all inside =
    shown_inside rows (hide (name_at rows f.0) live) fs name k found all.1 (sym (past differs) ∙ inside) ∙ rw other refl
  where
    here : (k == f.0) ≡ true → is_inside k (f ∷ fs) ≡ true
    here h = rw h refl

    differs : (k == f.0) ≡ false
    differs = by_test ((k == f.0) ≡ false) (k == f.0) (λ h. absurd (true≢false (sym (here h) ∙ inside))) (λ h. h)

    past : (k == f.0) ≡ false → is_inside k (f ∷ fs) ≡ is_inside k fs
    past h = rw h refl

    one_row : live_row rows name ≡ Some f.0 → k ≡ f.0
    one_row is = one_position k f.0 (sym found ∙ is)

    other : bytes_eq (name_at rows f.0) name ≡ false
    other = by_test (bytes_eq (name_at rows f.0) name ≡ false) (bytes_eq (name_at rows f.0) name)
        (λ h. absurd (eqb-false k f.0 differs (one_row (ap (live_row rows) (sym (same_name (name_at rows f.0) name h)) ∙ all.0))))
        (λ h. h)

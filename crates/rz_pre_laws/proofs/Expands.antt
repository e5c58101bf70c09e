-- Every token has an expansion: each macro is hidden inside its own replacement, so that fewer names are live there.
use Rattle.std.proofs.Common.{◌≡◌, ℕ, zero, suc, ◌+◌, ◌<◌, ◌≤◌, Bool, true, false, List, [], ◌∷◌, ◌++◌, length, map, Option, Some, None, refl, sym, ◌∙◌, arith}
use Rattle.std.specs.Prelude.{if◌then◌else◌}
use Rattle.std.specs.Str.{bytes_eq}
use Rattle.std.proofs.lemmas.Bool.{false_from_ne_true}
use Rattle.std.proofs.lemmas.Slice.Eq.{bytes_eq-Decides}
use Rattle.rz_lex.specs.declared.token.Shape.{Shape}
use Rattle.rz_lex.specs.declared.token.Shape.TheVariants as shapes
use Rattle.rz_core.proofs.Tests.{by_test, true_false}
use Rattle.rz_pre.specs.Expand.{Expansion, Expansions, bare, more, nothing, replaced}
use Rattle.rz_pre.specs.Live.{body_of, hide, live_in, name_of, Live, Row}

none_is_not : (body : List Shape) → ◌≡◌ {A = Option (List Shape)} None (Some body) → ⊥
none_is_not body k = cc k

-- Lists of names.

is_in : List ℕ → List (List ℕ) → Bool
is_in name [] = false
is_in name (x ∷ xs) = if bytes_eq name x then true else is_in name xs

without : List ℕ → List (List ℕ) → List (List ℕ)
without name [] = []
without name (x ∷ xs) = if bytes_eq name x then without name xs else x ∷ without name xs

no_longer : (name : List ℕ) (names : List (List ℕ)) → length (without name names) ≤ length names
unfolding without
no_longer name [] = omega arith
no_longer name (x ∷ xs) =
    let fewer = no_longer name xs in
    by_test (length (without name (x ∷ xs)) ≤ length (x ∷ xs)) (bytes_eq name x) (λ h. rw h (omega (arith, fewer))) (λ h. rw h (omega (arith, fewer)))

-- without a name that is in it a list is shorter
shorter : (name : List ℕ) (names : List (List ℕ)) → is_in name names ≡ true → length (without name names) < length names
unfolding is_in without
shorter name [] inside = absurd (true_false (sym inside))
shorter name (x ∷ xs) inside = by_test (length (without name (x ∷ xs)) < length (x ∷ xs)) (bytes_eq name x)
    (λ h. (let fewer = no_longer name xs in rw h (omega (arith, fewer))))
    (λ h. (let later : is_in name xs ≡ true = rw h at inside in let fewer = shorter name xs later in rw h (omega (arith, fewer))))

-- of two names that differ at most one is `x`
apart : (name x y : List ℕ) → bytes_eq name x ≡ true → bytes_eq name y ≡ false → bytes_eq y x ≡ true → ⊥
apart name x y same differs also =
    true_false (sym ((bytes_eq-Decides name y).1 ((bytes_eq-Decides name x).0 same ∙ sym ((bytes_eq-Decides y x).0 also))) ∙ differs)

-- a name is in what stands after another
behind : (name x : List ℕ) (xs : List (List ℕ)) → is_in name (x ∷ xs) ≡ true → bytes_eq name x ≡ false → is_in name xs ≡ true
unfolding is_in
behind name x xs inside differs = rw differs at inside

one_more : (name x : List ℕ) (xs : List (List ℕ)) → is_in name xs ≡ true → is_in name (x ∷ xs) ≡ true
unfolding is_in
one_more name x xs inside = by_test (is_in name (x ∷ xs) ≡ true) (bytes_eq name x) (λ h. rw h refl) (λ h. rw h inside)

-- the other names are still in it
still_in : (name y : List ℕ) (names : List (List ℕ)) → is_in y names ≡ true → bytes_eq name y ≡ false → is_in y (without name names) ≡ true
unfolding is_in without
still_in name y [] inside differs = absurd (true_false (sym inside))
still_in name y (x ∷ xs) inside differs = by_test (is_in y (without name (x ∷ xs)) ≡ true) (bytes_eq y x)
    (λ k. (let kept : bytes_eq name x ≡ false = false_from_ne_true (bytes_eq name x) (λ h. apart name x y h differs k) in rw (kept, k) refl))
    (λ k. (let later = still_in name y xs (behind y x xs inside k) differs in
    by_test (is_in y (without name (x ∷ xs)) ≡ true) (bytes_eq name x) (λ h. rw h later) (λ h. rw h (one_more y x (without name xs) later))))

-- Names that cover what is live.

-- each name that is live is one of these
abbrev Covers : List (List ℕ) → Live → Type 0
Covers names live = (name : List ℕ) (body : List Shape) → live name ≡ Some body → is_in name names ≡ true

covers_rows : (rows : List Row) → Covers (map (λ row. row.0) rows) (live_in rows)
unfolding is_in
covers_rows [] name body is = absurd (none_is_not body is)
covers_rows (row ∷ rows) name body is = by_test (is_in name (map (λ r. r.0) (row ∷ rows)) ≡ true) (bytes_eq name row.0)
    (λ h. rw h refl)
    (λ h. (let later : live_in rows name ≡ Some body = rw h at is in rw h (covers_rows rows name body later)))

covers_hidden : (name : List ℕ) (names : List (List ℕ)) (live : Live) → Covers names live → Covers (without name names) (hide name live)
covers_hidden name names live covers y body is = by_test (is_in y (without name names) ≡ true) (bytes_eq name y)
    (λ h. (let never : ◌≡◌ {A = Option (List Shape)} None (Some body) = rw h at is in absurd (none_is_not body never)))
    (λ h. (let later : live y ≡ Some body = rw h at is in still_in name y names (covers y body later) h))

-- what is replaced is found by its name
by_name : (live : Live) (s : Shape) (body : List Shape) → body_of live s ≡ Some body → live (name_of s) ≡ Some body
by_name live (shapes.Word word) body is = is
by_name live s body is = absurd (none_is_not body is)

-- Expansions.

abbrev Expands : Live → Shape → Type 0
Expands live s = (out : List Shape) × (work : ℕ) × Expansion live s out work

abbrev AllExpand : Live → List Shape → Type 0
AllExpand live ss = (out : List Shape) × (work : ℕ) × Expansions live ss out work

all_expand : (live : Live) → ((s : Shape) → Expands live s) → (ss : List Shape) → AllExpand live ss
all_expand live each [] = ([], 0, nothing refl refl)
all_expand live each (s ∷ ss) =
    let first = each s in
    let rest = all_expand live each ss in
    (first.0 ++ rest.0, first.1 + rest.1, more first.0 rest.0 first.1 rest.1 first.2 rest.2 refl refl)

-- a token expands where it is bare, and where the tokens that replace it expand
expands_by : (live : Live) (s : Shape) (o : Option (List Shape)) → body_of live s ≡ o
    → ((body : List Shape) → o ≡ Some body → AllExpand (hide (name_of s) live) body) → Expands live s
expands_by live s None is inside = (s ∷ [], 1, bare is refl refl)
expands_by live s (Some body) is inside =
    let all = inside body refl in
    (all.0, 1 + all.1, replaced body all.1 is all.2 refl)

-- where at most `n` names are live: inside a macro they are fewer
expands_within : (n : ℕ) (names : List (List ℕ)) (live : Live) → length names ≤ n → Covers names live → (s : Shape) → Expands live s
expands_within zero names live few covers s = expands_by live s (body_of live s) refl (λ body is.
    (let fewer = shorter (name_of s) names (covers (name_of s) body (by_name live s body is)) in absurd (omega (arith, few, fewer))))
expands_within (suc n) names live few covers s = expands_by live s (body_of live s) refl (λ body is.
    (let fewer = shorter (name_of s) names (covers (name_of s) body (by_name live s body is)) in
    let covers_rest = covers_hidden (name_of s) names live covers in
    let each = expands_within n (without (name_of s) names) (hide (name_of s) live) (omega (arith, few, fewer)) covers_rest in
    all_expand (hide (name_of s) live) each body))

pub every_token_expands : (rows : List Row) (s : Shape) → Expands (live_in rows) s
every_token_expands rows =
    let names = map (λ (row : Row). row.0) rows in
    expands_within (length names) names (live_in rows) (omega arith) (covers_rows rows)

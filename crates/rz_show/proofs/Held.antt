-- A set of names in lower case, with one more.
use Rattle.std.proofs.Common.{◌≡◌, ℕ, ◌+◌, ◌<◌, Bool, true, false, List, ◌∷◌, length, take, get_or, refl, sym, ap, subst, ◌∙◌}
use Rattle.std.specs.Prelude.{◌||◌, not}
use Rattle.std.specs.Bool.{MatchBool}
use Rattle.std.specs.List.{list_any}
use Rattle.std.specs.List.Sorted.{IsPermutation}
use Rattle.std.specs.Str.{bytes_eq, str_to_ascii_lowercase}
use Rattle.std.proofs.lemmas.List.Folds.{list_any_more}
use Rattle.std.proofs.lemmas.List.Sorted.{list_any-IsPermutation}
use Rattle.std.proofs.lemmas.Slice.Eq.{bytes_eq-Decides}
use Rattle.rz_core.proofs.Tests.{by_test}
use Rattle.rz_core.specs.declared.resource.Word.{Word}

either_way : (a b : Bool) → (a || b) ≡ (b || a)
either_way true true = refl
either_way true false = refl
either_way false true = refl
either_way false false = refl

held : (b : Bool) → false ≡ not b → b ≡ true
held true is = refl
held false is = absurd cc

module _ {K : Type 0} (bytes : K → List ℕ) where
  abbrev has : List ℕ → List K → Bool
  has name keys = list_any (λ (key : K). bytes_eq name (bytes key)) keys

  again : (key : K) (old : List K) (name : List ℕ) → has (bytes key) old ≡ true → has name old ≡ (bytes_eq name (bytes key) || has name old)
  again key old name is = by_test (has name old ≡ (bytes_eq name (bytes key) || has name old)) (bytes_eq name (bytes key))
      (λ h. rw h (subst (λ (x : List ℕ). has x old ≡ true) (sym ((bytes_eq-Decides name (bytes key)).0 h)) is))
      (λ h. rw h refl)

  pub held_more : (key : K) (old new : List K) (added : Bool) (name : List ℕ) → added ≡ not (has (bytes key) old) → MatchBool added (IsPermutation (key ∷ old) new) (new ≡ old)
      → has name new ≡ (bytes_eq name (bytes key) || has name old)
  held_more key old new true name is puts = sym (list_any-IsPermutation (λ (key : K). bytes_eq name (bytes key)) (key ∷ old) new puts)
  held_more key old new false name is puts = ap (has name) puts ∙ again key old name (held (has (bytes key) old) is)

-- a name, in whatever case, is one of these in lower case
abbrev is_one : List ℕ → List Word → Bool
is_one name names = list_any (λ (one : Word). bytes_eq (str_to_ascii_lowercase name) one.bytes) names

pub among_more : (names : List Word) (i : ℕ) (d : Word) (name : List ℕ) (held : List ℕ) (before after : Bool) → i < length names → d ≡ get_or names i d → held ≡ d.bytes
    → after ≡ (bytes_eq (str_to_ascii_lowercase name) held || before) → before ≡ is_one name (take i names) → after ≡ is_one name (take (i + 1) names)
among_more names i d name held before after within d-is held-is after-is before-is =
    after-is
    ∙ (λ j. bytes_eq (str_to_ascii_lowercase name) (held-is j) || before-is j)
    ∙ ap (λ (w : Word). bytes_eq (str_to_ascii_lowercase name) w.bytes || is_one name (take i names)) d-is
    ∙ either_way (bytes_eq (str_to_ascii_lowercase name) (get_or names i d).bytes) (is_one name (take i names))
    ∙ sym (list_any_more (λ (one : Word). bytes_eq (str_to_ascii_lowercase name) one.bytes) names i d within)

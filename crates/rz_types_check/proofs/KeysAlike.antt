-- The keys of a switch, which stand alike: what the first tells of all, and one key more.
use Rattle.std.proofs.Common.{◌≡◌, ℕ, ◌==◌, ◌||◌, Bool, true, false, not, List, [], ◌∷◌, ◌++◌, Option, Some, None, refl, sym, ap, ◌∙◌}
use Rattle.std.specs.Prelude.{slice_get}
use Rattle.std.specs.Bool.{MatchBool}
use Rattle.std.specs.List.{list_any, AllByRecursion}
use Rattle.std.specs.List.Sorted.{IsPermutation}
use Rattle.std.specs.Option.{is_none}
use Rattle.std.proofs.lemmas.Bool.{eqb-true}
use Rattle.std.proofs.lemmas.List.Folds.{list_any-append}
use Rattle.std.proofs.lemmas.List.Sorted.{list_any-IsPermutation}
use Rattle.std.proofs.lemmas.Option.{same_Some}
use Rattle.rz_core.proofs.Lists.{or_else_none}
use Rattle.rz_core.proofs.Tests.{or_false, true_false}
use Rattle.rz_types_fields.specs.declared.keys.CaseKey.{CaseKey}
use Rattle.rz_types.specs.Rules.{differ, found_if, has_other_place, has_other_width, has_same_bits, key_rule}
use Rattle.rz_types.proofs.Differing.{found_none}
use Rattle.rz_types_check.specs.Keys.{AreAlike, HaveBits, IsLike}

-- What the first tells.

any_by : (b x : Bool) → (b || x) ≡ b → (b || (b || x)) ≡ b
any_by true x is = refl
any_by false x is = is

any_of : (test : CaseKey → Bool) (b : Bool) (keys : List CaseKey) → AllByRecursion (λ key. test key ≡ b) keys → (b || list_any test keys) ≡ b
any_of test true [] all = refl
any_of test false [] all = refl
any_of test b (key ∷ keys) all = ap (λ (x : Bool). b || (x || list_any test keys)) all.0 ∙ any_by b (list_any test keys) (any_of test b keys all.1)

each_width : (key first : CaseKey) (keys : List CaseKey) → AllByRecursion (IsLike first) keys → AllByRecursion (λ one. has_other_width key one ≡ has_other_width key first) keys
each_width key first [] alike = tt
each_width key first (one ∷ keys) alike = (ap (λ (width : ℕ). not (key.width == width)) alike.0.0, each_width key first keys alike.1)

each_place : (key first : CaseKey) (keys : List CaseKey) → AllByRecursion (IsLike first) keys → AllByRecursion (λ one. has_other_place key one ≡ has_other_place key first) keys
each_place key first [] alike = tt
each_place key first (one ∷ keys) alike = (ap (λ (distance : Option ℕ). differ key.distance distance) alike.0.1, each_place key first keys alike.1)

pub width_is : (key : CaseKey) (keys : List CaseKey) (first : CaseKey) → AreAlike keys → slice_get keys 0 ≡ Some first → list_any (has_other_width key) keys ≡ has_other_width key first
width_is key [] first alike is = absurd cc
width_is key (one ∷ keys) first alike is =
    any_of (has_other_width key) (has_other_width key one) keys (each_width key one keys (alike one refl).1) ∙ ap (has_other_width key) (same_Some one first is)

pub place_is : (key : CaseKey) (keys : List CaseKey) (first : CaseKey) → AreAlike keys → slice_get keys 0 ≡ Some first → list_any (has_other_place key) keys ≡ has_other_place key first
place_is key [] first alike is = absurd cc
place_is key (one ∷ keys) first alike is =
    any_of (has_other_place key) (has_other_place key one) keys (each_place key one keys (alike one refl).1) ∙ ap (has_other_place key) (same_Some one first is)

pub none_there : (test : CaseKey → Bool) (keys : List CaseKey) → slice_get keys 0 ≡ None → list_any test keys ≡ false
none_there test [] is = refl
none_there test (key ∷ keys) is = absurd cc

-- What a key that breaks no rule is.

not_false : (holds : Bool) → not holds ≡ false → holds ≡ true
not_false true is = refl
not_false false is = absurd cc

same_place : (one other : Option ℕ) → differ one other ≡ false → one ≡ other
same_place (Some one) (Some other) is = ap (λ (n : ℕ). Some n) (eqb-true one other (not_false (one == other) is))
same_place (Some one) None is = absurd cc
same_place None other is = absurd cc

record Kept (key : CaseKey) (before : List CaseKey) : Type 0 where
  width : list_any (has_other_width key) before ≡ false
  place : list_any (has_other_place key) before ≡ false
  bits : list_any (has_same_bits key) before ≡ false

kept : (key : CaseKey) (before : List CaseKey) → key_rule (key ∷ []) before ≡ None → Kept key before
kept key before none =
    let one = or_else_none (found_if (list_any (has_other_width key) before) 234) _ none in
    let two = or_else_none (found_if (is_none key.distance || list_any (has_other_place key) before) 235) _ one.1 in
    let three = or_else_none (found_if (list_any (has_same_bits key) before) 236) _ two.1 in record {
      width = found_none _ 234 one.0;
      place = (or_false (is_none key.distance) (list_any (has_other_place key) before) (found_none _ 235 two.0)).1;
      bits = found_none _ 236 three.0;
    }

-- One key more.

all_push : (P : CaseKey → Type 0) (keys : List CaseKey) (key : CaseKey) → AllByRecursion P keys → P key → AllByRecursion P (keys ++ key ∷ [])
all_push P [] key all own = (own, tt)
all_push P (one ∷ keys) key all own = (all.0, all_push P keys key all.1 own)

pub alike_more : (key : CaseKey) (before : List CaseKey) → AreAlike before → key_rule (key ∷ []) before ≡ None → AreAlike (before ++ key ∷ [])
alike_more key [] alike none first is =
    let same : key ≡ first = same_Some key first is in ((ap (λ (one : CaseKey). one.width) same, ap (λ (one : CaseKey). one.distance) same), tt)
alike_more key (one ∷ keys) alike none first is =
    let same : one ≡ first = same_Some one first is in
    let are = kept key (one ∷ keys) none in
    let width = or_false (has_other_width key one) (list_any (has_other_width key) keys) are.width in
    let place = or_false (has_other_place key one) (list_any (has_other_place key) keys) are.place in
    all_push (IsLike first) (one ∷ keys) key (alike first is) (
      eqb-true key.width one.width (not_false (key.width == one.width) width.0) ∙ ap (λ (k : CaseKey). k.width) same,
      same_place key.distance one.distance place.0 ∙ ap (λ (k : CaseKey). k.distance) same,
    )

turned : (a b : Bool) → (a || b) ≡ (b || (a || false))
turned true true = refl
turned true false = refl
turned false true = refl
turned false false = refl

pub bits_more : (old new : List ℕ) (before : List CaseKey) (key : CaseKey) (added : Bool) → HaveBits old before → key_rule (key ∷ []) before ≡ None
    → added ≡ not (list_any (λ (one : ℕ). key.bits == one) old) → MatchBool added (IsPermutation (key.bits ∷ old) new) (new ≡ old) → HaveBits new (before ++ key ∷ [])
bits_more old new before key true are none is puts bits =
    sym (list_any-IsPermutation (λ (one : ℕ). bits == one) (key.bits ∷ old) new puts)
    ∙ ap (λ (b : Bool). (bits == key.bits) || b) (are bits)
    ∙ turned (bits == key.bits) (list_any (λ (one : CaseKey). bits == one.bits) before)
    ∙ sym (list_any-append (λ (one : CaseKey). bits == one.bits) before (key ∷ []))
bits_more old new before key false are none is puts bits =
    absurd (true_false (sym (is ∙ ap not (are key.bits ∙ (kept key before none).bits))))

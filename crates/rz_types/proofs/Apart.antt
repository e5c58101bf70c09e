-- The keys of cases stand apart, where no rule is broken.
use Rattle.std.proofs.Common.{◌≡◌, ◌≢◌, ℕ, ◌+◌, ◌==◌, Bool, true, false, ◌||◌, List, [], ◌∷◌, ◌++◌, length, Option, Some, None, refl, sym, ap, subst, arith}
use Rattle.std.specs.Prelude.{not}
use Rattle.std.specs.List.{list_any, AllByRecursion}
use Rattle.std.specs.Option.{is_none, is_some}
use Rattle.std.proofs.lemmas.Bool.Decides.{nat_tests}
use Rattle.rz_core.proofs.Lists.{or_else_none}
use Rattle.rz_core.proofs.Tests.{or_false}
use Rattle.rz_types_fields.specs.Field.{case_and, field_and, no_cases, no_fields, Align, Array, Fill, Label, Number, PlainBody, PlainCases, PlainField, Points, Switch, Text}
use Rattle.rz_types_fields.specs.Width.{case_keys}
use Rattle.rz_types_fields.specs.declared.keys.CaseKey.{CaseKey}
use Rattle.rz_types.specs.Kept.{AreCasesApart, AreKeysApart, AreKeysApartIn, IsApartFrom, StandApart}
use Rattle.rz_types.specs.Rules.{broken, broken_at, differ, found_if, has_other_place, has_other_width, has_same_bits, key_rule, keeps_rules, name_fault, KeepAll}
use Rattle.rz_types.specs.Walk.{all_fields, and_names, around_names, behind_case, case_steps, names_in, names_of, no_names, own_names, steps, steps_within, within, Own}
use Rattle.rz_types.proofs.Broken.{broken_none}
use Rattle.rz_types.proofs.Differing.{found_none, kept_append, map_none}

-- One key and those before it.

not_false : (holds : Bool) → not holds ≡ false → holds ≡ true
not_false true is = refl
not_false false is = absurd cc

-- what is true of none of a list
none_of : (test : CaseKey → Bool) (keys : List CaseKey) → list_any test keys ≡ false → AllByRecursion (λ one. test one ≡ false) keys
none_of test [] none = tt
none_of test (key ∷ keys) none = let each = or_false (test key) (list_any test keys) none in (each.0, none_of test keys each.1)

same_number : (a b : ℕ) → (a == b) ≡ true → b ≡ a
same_number a b is = grind (arith, nat_tests)

other_number : (a b : ℕ) → (a == b) ≡ false → b ≢ a
other_number a b is = λ same. grind (arith, nat_tests)

same_place : (one other : Option ℕ) → differ one other ≡ false → other ≡ one
same_place (Some one) (Some other) is = ap (λ (n : ℕ). Some n) (same_number one other (not_false (one == other) is))
same_place (Some one) None is = absurd cc
same_place None other is = absurd cc

some_there : (o : Option ℕ) → is_none o ≡ false → is_some o ≡ true
some_there None is = absurd cc
some_there (Some n) is = refl

each_apart : (key : CaseKey) (before : List CaseKey) → list_any (has_other_width key) before ≡ false → list_any (has_other_place key) before ≡ false
    → list_any (has_same_bits key) before ≡ false → AllByRecursion (λ one. StandApart one key) before
each_apart key [] widths places bits = tt
each_apart key (one ∷ before) widths places bits =
    let w = or_false (has_other_width key one) (list_any (has_other_width key) before) widths in
    let p = or_false (has_other_place key one) (list_any (has_other_place key) before) places in
    let b = or_false (has_same_bits key one) (list_any (has_same_bits key) before) bits in (
      record {
        width = same_number key.width one.width (not_false (key.width == one.width) w.0);
        distance = same_place key.distance one.distance p.0;
        bits = other_number key.bits one.bits b.0;
      },
      each_apart key before w.1 p.1 b.1,
    )

-- the keys of a case that breaks no rule: one, that stands apart from those before
record Keyed (keys before : List CaseKey) : Type 0 where
  key : CaseKey
  alone : keys ≡ key ∷ []
  fixed : is_some key.distance ≡ true
  apart : AllByRecursion (λ one. StandApart one key) before

keyed : (keys before : List CaseKey) → key_rule keys before ≡ None → Keyed keys before
keyed [] before none = absurd cc
keyed (key ∷ []) before none =
    let one = or_else_none (found_if (list_any (has_other_width key) before) 234) _ none in
    let two = or_else_none (found_if (is_none key.distance || list_any (has_other_place key) before) 235) _ one.1 in
    let three = or_else_none (found_if (list_any (has_same_bits key) before) 236) _ two.1 in
    let places = or_false (is_none key.distance) (list_any (has_other_place key) before) (found_none _ 235 two.0) in
    record {
      key = key;
      alone = refl;
      fixed = some_there key.distance places.0;
      apart = each_apart key before (found_none _ 234 one.0) places.1 (found_none _ 236 three.0);
    }
keyed (key ∷ next ∷ keys) before none = absurd cc

-- Cases.

in_parts : (P : CaseKey → Type 0) (front back : List CaseKey) → AllByRecursion P (front ++ back) → AllByRecursion P front × AllByRecursion P back
in_parts P [] back all = (tt, all)
in_parts P (key ∷ front) back all = let each = in_parts P front back all.1 in ((all.0, each.0), each.1)

-- those before a case stand apart from its key, and from those after it
both_apart : (keys before : List CaseKey) (others : PlainCases) (key : CaseKey) → keys ≡ key ∷ [] → AllByRecursion (λ one. StandApart one key) before
    → AllByRecursion (λ one. IsApartFrom one others) before → AllByRecursion (λ one. AllByRecursion (StandApart one) keys × IsApartFrom one others) before
both_apart keys [] others key is here later = tt
both_apart keys (one ∷ before) others key is here later =
    ((subst (λ (l : List CaseKey). AllByRecursion (StandApart one) l) (sym is) (here.0, tt), later.0), both_apart keys before others key is here.1 later.1)

-- the key of a case stands apart from those after it
own_apart : (keys : List CaseKey) (others : PlainCases) (key : CaseKey) → keys ≡ key ∷ [] → AllByRecursion (λ one. IsApartFrom one others) keys → IsApartFrom key others
own_apart keys others key is all = (subst (λ (l : List CaseKey). AllByRecursion (λ one. IsApartFrom one others) l) is all).0

mutual
  within_apart : (position : ℕ) (before scope : Own) (field : PlainField) → KeepAll broken_at (steps_within position before scope field) → AreKeysApartIn field
  within_apart position before scope (Number number) keeps = tt
  within_apart position before scope (Text text) keeps = tt
  within_apart position before scope (Points points) keeps = tt
  within_apart position before scope (Fill unit count) keeps = tt
  within_apart position before scope (Align unit) keeps = tt
  within_apart position before scope (Label name) keeps = tt
  within_apart position before scope (Array name count row) keeps = are_apart (position + 1) (and_names before (own_names (Array name count row))) (and_names (and_names scope (around_names name)) (names_of row)) row keeps
  within_apart position before scope (Switch cases) keeps = (cases_apart position (position + 1) before scope [] cases keeps).0

  are_apart : (position : ℕ) (before scope : Own) (body : PlainBody) → KeepAll broken_at (steps position before scope body) → AreKeysApart body
  are_apart position before scope no_fields keeps = tt
  are_apart position before scope (field_and field fields) keeps =
      let names = and_names before (names_in (field ∷ within field)) in
      let here = position + 1 + length (within field) in
      let parts = kept_append broken_at (steps_within position before scope field) (steps here names scope fields) keeps.1 in
      (within_apart position before scope field parts.0, are_apart here names scope fields parts.1)

  -- the cases stand apart, and the keys before them from theirs
  cases_apart : (switch position : ℕ) (before scope : Own) (keys : List CaseKey) (cases : PlainCases) → KeepAll broken_at (case_steps switch position before scope keys cases)
      → AreCasesApart cases × AllByRecursion (λ one. IsApartFrom one cases) keys
  cases_apart switch position before scope keys no_cases keeps = (tt, nothing keys)
    where
      nothing : (keys : List CaseKey) → AllByRecursion (λ one. IsApartFrom one no_cases) keys
      nothing [] = tt
      nothing (key ∷ keys) = (tt, nothing keys)
  cases_apart switch position before scope keys (case_and name row others) keeps =
      let names = and_names before (names_in (all_fields row)) in
      let here = position + length (all_fields row) in
      let behind = case_steps switch here names scope (keys ++ case_keys row) others in
      let parts = kept_append broken_at (steps position before (and_names scope (names_of row)) row) (behind_case switch name (case_keys row) keys ∷ behind) keeps in
      let own = keyed (case_keys row) keys (map_none (λ (number : ℕ). name_fault number switch name) (key_rule (case_keys row) keys) parts.1.0) in
      let later = cases_apart switch here names scope (keys ++ case_keys row) others parts.1.1 in
      let each = in_parts (λ one. IsApartFrom one others) keys (case_keys row) later.1 in (
        (
          record { key = own.key; alone = own.alone; fixed = own.fixed; apart = own_apart (case_keys row) others own.key own.alone each.1 },
          are_apart position before (and_names scope (names_of row)) row parts.0,
          later.0,
        ),
        both_apart (case_keys row) keys others own.key own.alone own.apart each.0,
      )

none_is : {A : Type 0} (o : Option A) → is_none o ≡ true → o ≡ None
none_is None is = refl
none_is (Some x) is = absurd cc

pub keys_apart : (body : PlainBody) → keeps_rules body ≡ true → AreKeysApart body
keys_apart body keeps = are_apart 0 no_names (names_of body) body ((broken_none body).0 (none_is (broken body) keeps)).0

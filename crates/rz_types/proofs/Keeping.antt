-- What keeps the rules keeps them within.
use Rattle.std.proofs.Common.{◌≡◌, ℕ, ◌+◌, Bool, true, false, List, [], ◌∷◌, ◌++◌, length, Option, Some, None, refl}
use Rattle.std.specs.Prelude.{not, option_map}
use Rattle.std.specs.Option.{is_none}
use Rattle.rz_core.proofs.Lists.{or_else_none}
use Rattle.rz_core.specs.declared.resource.Word.{Word}
use Rattle.rz_types_fields.specs.Field.{case_and, field_and, no_cases, no_fields, Align, Array, Fill, Label, Number, PlainBody, PlainCases, PlainField, Points, Switch, Text}
use Rattle.rz_types_fields.specs.Width.{case_keys}
use Rattle.rz_types_fields.specs.declared.keys.CaseKey.{CaseKey}
use Rattle.rz_types.specs.Kept.{AreCasesKept, AreKept, IsKept, IsKeptWithin}
use Rattle.rz_types.specs.Rules.{array_twice, bad_place, bad_width, broken, broken_at, has_values, keeps_rules, no_values, unknown_at, unknown_fault, unknown_in, width_fault, KeepAll}
use Rattle.rz_types.specs.Walk.{all_fields, and_names, around_names, behind_case, case_steps, names_in, names_of, no_names, own_names, steps, steps_within, walk, within, Own, Step}
use Rattle.rz_types.proofs.Broken.{broken_none}
use Rattle.rz_types.proofs.Differing.{own_differ, cases_differ, found_none, kept_append, map_none}

-- no step breaks a rule or has a name that can't be named
abbrev Keeps : List Step → Type 0
Keeps walk = KeepAll broken_at walk × KeepAll unknown_at walk

in_parts : (front back : List Step) → Keeps (front ++ back) → Keeps front × Keeps back
in_parts front back keeps =
    let one = kept_append broken_at front back keeps.0 in
    let other = kept_append unknown_at front back keeps.1 in
    ((one.0, other.0), (one.1, other.1))

not_false : (holds : Bool) → not holds ≡ false → holds ≡ true
not_false true is = refl
not_false false is = absurd cc

have_values : (position : ℕ) (before : Own) (name : Option Word) (count : Option _) (row : PlainBody) → bad_place position before (Array name count row) ≡ None → has_values row ≡ true
have_values position before name count row none =
    let each = or_else_none (array_twice position before.arrays name) (no_values position row) none in
    not_false (has_values row) (found_none (not (has_values row)) _ each.1)

mutual
  within_kept : (position : ℕ) (before scope : Own) (field : PlainField) → bad_place position before field ≡ None → Keeps (steps_within position before scope field)
      → IsKeptWithin scope field
  within_kept position before scope (Number number) none keeps = tt
  within_kept position before scope (Text text) none keeps = tt
  within_kept position before scope (Points points) none keeps = tt
  within_kept position before scope (Fill unit count) none keeps = tt
  within_kept position before scope (Align unit) none keeps = tt
  within_kept position before scope (Label name) none keeps = tt
  within_kept position before scope (Array name count row) none keeps = (
    have_values position before name count row none,
    own_differ (position + 1) (and_names before (own_names (Array name count row))) (and_names (and_names scope (around_names name)) (names_of row)) row keeps.0,
    are_kept (position + 1) (and_names before (own_names (Array name count row))) (and_names (and_names scope (around_names name)) (names_of row)) row keeps,
  )
  within_kept position before scope (Switch cases) none keeps =
      (cases_differ position cases none, cases_kept position (position + 1) before scope [] cases keeps)

  are_kept : (position : ℕ) (before scope : Own) (body : PlainBody) → Keeps (steps position before scope body) → AreKept scope body
  are_kept position before scope no_fields keeps = tt
  are_kept position before scope (field_and field fields) keeps =
      let own = or_else_none (bad_place position before field) (option_map (width_fault position) (bad_width field)) keeps.0.0 in
      let names = and_names before (names_in (field ∷ within field)) in
      let here = position + 1 + length (within field) in
      let parts = in_parts (steps_within position before scope field) (steps here names scope fields) (keeps.0.1, keeps.1.1) in (
        map_none (width_fault position) (bad_width field) own.1,
        map_none (unknown_fault position) (unknown_in scope field) keeps.1.0,
        within_kept position before scope field own.0 parts.0,
        are_kept here names scope fields parts.1,
      )

  cases_kept : (switch position : ℕ) (before scope : Own) (keys : List CaseKey) (cases : PlainCases) → Keeps (case_steps switch position before scope keys cases)
      → AreCasesKept scope cases
  cases_kept switch position before scope keys no_cases keeps = tt
  cases_kept switch position before scope keys (case_and name row others) keeps =
      let names = and_names before (names_in (all_fields row)) in
      let here = position + length (all_fields row) in
      let behind = case_steps switch here names scope (keys ++ case_keys row) others in
      let parts = in_parts (steps position before (and_names scope (names_of row)) row) (behind_case switch name (case_keys row) keys ∷ behind) keeps in (
        own_differ position before (and_names scope (names_of row)) row parts.0.0,
        are_kept position before (and_names scope (names_of row)) row parts.0,
        cases_kept switch here names scope (keys ++ case_keys row) others (parts.1.0.1, parts.1.1.1),
      )

none_is : {A : Type 0} (o : Option A) → is_none o ≡ true → o ≡ None
none_is None is = refl
none_is (Some x) is = absurd cc

pub kept_within : (body : PlainBody) → keeps_rules body ≡ true → IsKept body
kept_within body keeps =
    let none = (broken_none body).0 (none_is (broken body) keeps) in
    (own_differ 0 no_names (names_of body) body none.0, are_kept 0 no_names (names_of body) body none)

-- The walk, one step after the other, meets what the list of its steps has.
use Rattle.std.proofs.Common.{◌≡◌, ℕ, ◌+◌, List, [], ◌∷◌, ◌++◌, length, map, Option, None, Result, Ok, refl, sym, ap, ◌∙◌, arith, length-append}
use Rattle.rz_core.specs.Lists.{first_of, or_else, unless_fault}
use Rattle.rz_core.specs.Stop.{◌>>=◌}
use Rattle.rz_core.specs.declared.resource.Word.{Word}
use Rattle.rz_types_fields.specs.Field.{case_and, field_and, no_cases, no_fields, Align, Array, Fill, Label, Number, PlainBody, PlainCases, PlainField, Points, Switch, Text}
use Rattle.rz_types_fields.specs.Width.{case_keys}
use Rattle.rz_types_fields.specs.declared.keys.CaseKey.{CaseKey}
use Rattle.rz_types.specs.Rules.{broken, broken_at, kept_position, unknown_at}
use Rattle.rz_types.specs.Walk.{all_fields, all_in_cases, and_names, around_names, at_field, behind_case, case_steps, names_in, names_of, no_names, own_names, steps, steps_within, walk, within, Own}
use Rattle.rz_types.specs.declared.rules.TypeFault.{TypeFault}
use Rattle.rz_types.proofs.Firsts.{or_none}
use Rattle.rz_types_check.specs.Walked.{body_met, case_met, cases_met, nothing_met, within_met, Met}
use Rattle.rz_types_check.proofs.Joined.{and_assoc, and_none, more_names}
use Rattle.rz_types_check.proofs.Stepping.{case_is, chain, chain_by, field_is, met_at, met_behind}

-- The parts of the walk: what each meets is what its steps have.

abbrev WithinIs : (position : ℕ) (before scope : Own) → PlainField → Type 0
WithinIs position before scope field = (unknown : Option TypeFault) → within_met scope (kept_position position) (met_at (position + 1) (and_names before (own_names field)) unknown) field
    ≡ met_behind (steps_within position before scope field) (position + 1 + length (within field)) (and_names before (names_in (field ∷ within field))) unknown

abbrev BodyIs : (position : ℕ) (before scope : Own) → PlainBody → Type 0
BodyIs position before scope body = (unknown : Option TypeFault) → body_met scope (met_at position before unknown) body
    ≡ met_behind (steps position before scope body) (position + length (all_fields body)) (and_names before (names_in (all_fields body))) unknown

abbrev CasesAre : (switch position : ℕ) (before scope : Own) (keys : List CaseKey) → PlainCases → Type 0
CasesAre switch position before scope keys cases = (unknown : Option TypeFault) → cases_met scope (kept_position switch) keys (met_at position before unknown) cases
    ≡ met_behind (case_steps switch position before scope keys cases) (position + length (all_in_cases cases)) (and_names before (names_in (all_in_cases cases))) unknown

nothing_within : (position : ℕ) (names : Own) (unknown : Option TypeFault) → Ok (met_at position names unknown) ≡ met_behind [] (position + 0) names unknown
nothing_within position names unknown =
    let same : position ≡ position + 0 = omega arith in
    λ i. Ok (met_at (same i) names (sym (or_none unknown) i))

more_fields : (position : ℕ) (front back : List PlainField) → position + length front + length back ≡ position + length (front ++ back)
more_fields position front back = omega (arith, length-append front back)

no_fields_is : (position : ℕ) (before scope : Own) → BodyIs position before scope no_fields
no_fields_is position before scope unknown =
    ap (λ (names : Own). Ok (met_at position names unknown)) (sym (and_none before)) ∙ nothing_within position (and_names before no_names) unknown

module _ (position : ℕ) (before scope : Own) (field : PlainField) (fields : PlainBody) where
  fields_are : WithinIs position before scope field → BodyIs (position + 1 + length (within field)) (and_names before (names_in (field ∷ within field))) scope fields
      → BodyIs position before scope (field_and field fields)
  fields_are own others unknown =
      let met = λ (met : Met). body_met scope met fields in
      let next = λ (met : Met). within_met scope (kept_position position) met field >>= λ met. body_met scope met fields in
      let step = at_field position before scope field in
      let inner = steps_within position before scope field in
      let names = and_names before (names_in (field ∷ within field)) in
      let here = position + 1 + length (within field) in
      let behind = steps here names scope fields in
      let there = here + length (all_fields fields) in
      let all = and_names names (names_in (all_fields fields)) in
      let first = or_else unknown (first_of (map unknown_at (step ∷ []))) in
      let second = or_else first (first_of (map unknown_at inner)) in
      let same : position + 1 + length (within field) + length (all_fields fields) ≡ position + length (field ∷ (within field ++ all_fields fields)) =
      omega (arith, length-append (within field) (all_fields fields)) in
      ap (λ (r : Result Met TypeFault). r >>= next) (field_is position before scope unknown field)
      ∙ chain (step ∷ []) (inner ++ behind) (position + 1) there (and_names before (own_names field)) all unknown next
      (ap (λ (r : Result Met TypeFault). r >>= met) (own first) ∙ chain inner behind here there names all first met (others second))
      ∙ (λ i. met_behind (step ∷ (inner ++ behind)) (same i) (more_names before (field ∷ within field) (all_fields fields) i) unknown)

module _ (switch position : ℕ) (before scope : Own) (keys : List CaseKey) (name : Word) (row : PlainBody) (others : PlainCases) where
  case_and_is : BodyIs position before (and_names scope (names_of row)) row
      → CasesAre switch (position + length (all_fields row)) (and_names before (names_in (all_fields row))) scope (keys ++ case_keys row) others
      → CasesAre switch position before scope keys (case_and name row others)
  case_and_is own more unknown =
      let met = λ (met : Met). cases_met scope (kept_position switch) (keys ++ case_keys row) met others in
      let next = λ (met : Met). case_met (kept_position switch) name (case_keys row) keys met >>= λ met. cases_met scope (kept_position switch) (keys ++ case_keys row) met others in
      let step = behind_case switch name (case_keys row) keys in
      let inner = steps position before (and_names scope (names_of row)) row in
      let names = and_names before (names_in (all_fields row)) in
      let here = position + length (all_fields row) in
      let behind = case_steps switch here names scope (keys ++ case_keys row) others in
      let there = here + length (all_in_cases others) in
      let all = and_names names (names_in (all_in_cases others)) in
      let first = or_else unknown (first_of (map unknown_at inner)) in
      let second = or_else first (first_of (map unknown_at (step ∷ []))) in
      ap (λ (r : Result Met TypeFault). r >>= next) (own unknown)
      ∙ chain inner (step ∷ behind) here there names all unknown next
      (ap (λ (r : Result Met TypeFault). r >>= met) (case_is switch here name (case_keys row) keys names first)
      ∙ chain (step ∷ []) behind here there names all first met (more second))
      ∙ (λ i. met_behind (inner ++ step ∷ behind) (more_fields position (all_fields row) (all_in_cases others) i)
      (more_names before (all_fields row) (all_in_cases others) i) unknown)

mutual
  within_is : (position : ℕ) (before scope : Own) (field : PlainField) → WithinIs position before scope field
  within_is position before scope (Number number) unknown = nothing_within (position + 1) (and_names before no_names) unknown
  within_is position before scope (Text text) unknown = nothing_within (position + 1) (and_names before no_names) unknown
  within_is position before scope (Points points) unknown = nothing_within (position + 1) (and_names before no_names) unknown
  within_is position before scope (Fill unit count) unknown = nothing_within (position + 1) (and_names before no_names) unknown
  within_is position before scope (Align unit) unknown = nothing_within (position + 1) (and_names before no_names) unknown
  within_is position before scope (Label name) unknown = nothing_within (position + 1) (and_names before (own_names (Label name))) unknown
  within_is position before scope (Array name count row) unknown =
      body_is (position + 1) (and_names before (own_names (Array name count row))) (and_names (and_names scope (around_names name)) (names_of row)) row unknown
      ∙ ap (λ (names : Own). met_behind (steps (position + 1) (and_names before (own_names (Array name count row))) (and_names (and_names scope (around_names name)) (names_of row)) row) (position + 1 + length (all_fields row)) names unknown)
      (and_assoc before (own_names (Array name count row)) (names_in (all_fields row)))
  within_is position before scope (Switch cases) unknown =
      ap (λ (names : Own). cases_met scope (kept_position position) [] (met_at (position + 1) names unknown) cases) (and_none before)
      ∙ cases_are position (position + 1) before scope [] cases unknown

  body_is : (position : ℕ) (before scope : Own) (body : PlainBody) → BodyIs position before scope body
  body_is position before scope no_fields = no_fields_is position before scope
  body_is position before scope (field_and field fields) =
      fields_are position before scope field fields (within_is position before scope field)
      (body_is (position + 1 + length (within field)) (and_names before (names_in (field ∷ within field))) scope fields)

  cases_are : (switch position : ℕ) (before scope : Own) (keys : List CaseKey) (cases : PlainCases) → CasesAre switch position before scope keys cases
  cases_are switch position before scope keys no_cases = no_fields_is position before scope
  cases_are switch position before scope keys (case_and name row others) =
      case_and_is switch position before scope keys name row others (body_is position before (and_names scope (names_of row)) row)
      (cases_are switch (position + length (all_fields row)) (and_names before (names_in (all_fields row))) scope (keys ++ case_keys row) others)

-- Any state.

pub body_met_is : (position : ℕ) (scope : Own) (met : Met) (body : PlainBody) → met.position ≡ kept_position position
    → body_met scope met body ≡ unless_fault (first_of (map broken_at (steps position met.names scope body))) (record {
      position = kept_position (position + length (all_fields body));
      names = and_names met.names (names_in (all_fields body));
      unknown = or_else met.unknown (first_of (map unknown_at (steps position met.names scope body)));
    })
body_met_is position scope met body is =
    ap (λ k. body_met scope (record { position = k; names = met.names; unknown = met.unknown }) body) is
    ∙ body_is position met.names scope body met.unknown

pub within_met_is : (position : ℕ) (before scope : Own) (met : Met) (field : PlainField) → met.position ≡ kept_position (position + 1)
    → met.names ≡ and_names before (own_names field) → within_met scope (kept_position position) met field
    ≡ unless_fault (first_of (map broken_at (steps_within position before scope field))) (record {
      position = kept_position (position + 1 + length (within field));
      names = and_names before (names_in (field ∷ within field));
      unknown = or_else met.unknown (first_of (map unknown_at (steps_within position before scope field)));
    })
within_met_is position before scope met field is names =
    (λ i. within_met scope (kept_position position) (record { position = is i; names = names i; unknown = met.unknown }) field)
    ∙ within_is position before scope field met.unknown

pub cases_met_is : (switch position : ℕ) (scope : Own) (keys : List CaseKey) (met : Met) (cases : PlainCases) → met.position ≡ kept_position position
    → cases_met scope (kept_position switch) keys met cases ≡ unless_fault (first_of (map broken_at (case_steps switch position met.names scope keys cases))) (record {
      position = kept_position (position + length (all_in_cases cases));
      names = and_names met.names (names_in (all_in_cases cases));
      unknown = or_else met.unknown (first_of (map unknown_at (case_steps switch position met.names scope keys cases)));
    })
cases_met_is switch position scope keys met cases is =
    ap (λ k. cases_met scope (kept_position switch) keys (record { position = k; names = met.names; unknown = met.unknown }) cases) is
    ∙ cases_are switch position met.names scope keys cases met.unknown

-- The whole walk, and the names after it.
pub all_checked : (body : PlainBody) → (body_met (names_of body) nothing_met body >>= λ met. unless_fault {X = Unit {0}} met.unknown tt) ≡ unless_fault {X = Unit {0}} (broken body) tt
all_checked body =
    let finish = λ (met : Met). unless_fault {X = Unit {0}} met.unknown tt in
    let found = first_of (map unknown_at (walk body)) in
    ap (λ (r : Result Met TypeFault). r >>= finish) (body_is 0 no_names (names_of body) body None)
    ∙ chain_by (first_of (map broken_at (walk body))) found (met_at (0 + length (all_fields body)) (and_names no_names (names_in (all_fields body))) found) tt finish refl

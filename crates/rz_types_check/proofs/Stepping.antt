-- What one step of the walk meets, and two parts of it one after the other.
use Rattle.std.proofs.Common.{◌≡◌, ℕ, ◌+◌, List, [], ◌∷◌, ◌++◌, map, Option, Some, None, Result, refl, sym, ap, ◌∙◌, arith}
use Rattle.std.specs.Prelude.{not, option_map, pos}
use Rattle.rz_core.specs.Lists.{first_of, or_else, unless_fault}
use Rattle.rz_core.specs.Stop.{◌>>=◌}
use Rattle.rz_core.specs.declared.fault.Kept.{Kept}
use Rattle.rz_core.specs.declared.fault.Kept.TheVariants as kept
use Rattle.rz_core.specs.declared.resource.Word.{Word}
use Rattle.rz_types_fields.specs.Field.{Align, Array, Fill, Label, Number, PlainBody, PlainCases, PlainField, Points, Switch, Text}
use Rattle.rz_types_fields.specs.declared.keys.CaseKey.{CaseKey}
use Rattle.rz_types.specs.Rules.{array_twice, bad_case, bad_place, bad_width, broken_at, case_names, case_twice, found_if, has_values, kept_position, key_rule, label_twice, no_values, repeated, unknown_at, unknown_in, width_fault}
use Rattle.rz_types.specs.Walk.{and_names, at_field, behind_case, own_names, is_among, Own, Step}
use Rattle.rz_types.specs.declared.rules.TypeFault.{TypeFault}
use Rattle.rz_types.proofs.Firsts.{first_append, or_assoc, or_none}
use Rattle.rz_types_check.specs.Walked.{case_met, field_met, Met}

-- what is met before the field with this position
abbrev pub met_at : ℕ → Own → Option TypeFault → Met
met_at position names unknown = record { position = kept_position position; names = names; unknown = unknown }

-- what is met after these steps
abbrev pub met_behind : List Step → ℕ → Own → Option TypeFault → Result Met TypeFault
met_behind done position names unknown =
    unless_fault (first_of (map broken_at done)) (met_at position names (or_else unknown (first_of (map unknown_at done))))

-- One part after the other.

-- what is met after a part goes on to what is after it, where no rule is broken so far
pub chain_by : {X : Type 0} (first second : Option TypeFault) (here : Met) (there : X) (next : Met → Result X TypeFault) → next here ≡ unless_fault second there
    → (unless_fault first here >>= next) ≡ unless_fault (or_else first second) there
chain_by None second here there next is = is
chain_by (Some fault) second here there next is = refl

pub chain : (front back : List Step) (here there : ℕ) (names more : Own) (unknown : Option TypeFault) (next : Met → Result Met TypeFault)
    → next (met_at here names (or_else unknown (first_of (map unknown_at front)))) ≡ met_behind back there more (or_else unknown (first_of (map unknown_at front)))
    → (met_behind front here names unknown >>= next) ≡ met_behind (front ++ back) there more unknown
chain front back here there names more unknown next is =
    let kept : or_else unknown (first_of (map unknown_at (front ++ back))) ≡ or_else (or_else unknown (first_of (map unknown_at front))) (first_of (map unknown_at back)) =
    ap (or_else unknown) (first_append unknown_at front back) ∙ or_assoc unknown (first_of (map unknown_at front)) (first_of (map unknown_at back)) in
    chain_by (first_of (map broken_at front)) (first_of (map broken_at back)) (met_at here names (or_else unknown (first_of (map unknown_at front))))
    (met_at there more (or_else (or_else unknown (first_of (map unknown_at front))) (first_of (map unknown_at back)))) next is
    ∙ sym (λ i. unless_fault (first_append broken_at front back i) (met_at there more (kept i)))

-- One step.

kept_twice : (position : ℕ) → kept_position (kept_position position) ≡ kept_position position
kept_twice position = omega arith

kept_next : (position : ℕ) → kept_position (kept_position position + 1) ≡ kept_position (position + 1)
kept_next position = omega arith

-- a fault with a position that isn't cut any more
fault_at : ℕ → ℕ → Kept → TypeFault
fault_at number position what = record { number = number; field = position; kept = what }

same_label : (position : ℕ) (before : List Word) (name : Word) → label_twice (kept_position position) before name ≡ label_twice position before name
unfolding fault_at
same_label position before name = ap (λ k. found_if (is_among name.bytes before) (fault_at 230 k (kept.Name name.bytes))) (kept_twice position)

same_twice : (position : ℕ) (before : List Word) (name : Option Word) → array_twice (kept_position position) before name ≡ array_twice position before name
unfolding fault_at
same_twice position before None = refl
same_twice position before (Some name) = ap (λ k. found_if (is_among name.bytes before) (fault_at 231 k (kept.Name name.bytes))) (kept_twice position)

same_values : (position : ℕ) (row : PlainBody) → no_values (kept_position position) row ≡ no_values position row
unfolding fault_at
same_values position row = ap (λ k. found_if (not (has_values row)) (fault_at 237 k (kept.Number (pos k)))) (kept_twice position)

same_cases : (position : ℕ) (cases : PlainCases) → case_twice (kept_position position) cases ≡ case_twice position cases
unfolding fault_at
same_cases position cases = ap (λ k. option_map (λ name. fault_at 232 k (kept.Name name.bytes)) (repeated (case_names cases))) (kept_twice position)

same_width : (position : ℕ) (field : PlainField) → option_map (width_fault (kept_position position)) (bad_width field) ≡ option_map (width_fault position) (bad_width field)
unfolding fault_at
same_width position field = ap (λ k. option_map (λ value. fault_at 238 k (kept.Number value)) (bad_width field)) (kept_twice position)

same_place : (position : ℕ) (before : Own) (field : PlainField) → bad_place (kept_position position) before field ≡ bad_place position before field
same_place position before (Number number) = refl
same_place position before (Text text) = refl
same_place position before (Points points) = refl
same_place position before (Fill unit count) = refl
same_place position before (Align unit) = refl
same_place position before (Label name) = same_label position before.labels name
same_place position before (Array name count row) = λ i. or_else (same_twice position before.arrays name i) (same_values position row i)
same_place position before (Switch cases) = same_cases position cases

same_broken : (position : ℕ) (before scope : Own) (field : PlainField)
    → broken_at (at_field (kept_position position) before scope field) ≡ broken_at (at_field position before scope field)
same_broken position before scope field = λ i. or_else (same_place position before field i) (same_width position field i)

same_unknown : (position : ℕ) (before scope : Own) (field : PlainField)
    → unknown_at (at_field (kept_position position) before scope field) ≡ unknown_at (at_field position before scope field)
unfolding fault_at
same_unknown position before scope field = ap (λ k. option_map (λ name. fault_at 212 k (kept.Name name)) (unknown_in scope field)) (kept_twice position)

same_case : (position : ℕ) (name : Word) (keys before : List CaseKey) → bad_case (kept_position position) name keys before ≡ bad_case position name keys before
unfolding fault_at
same_case position name keys before = ap (λ k. option_map (λ number. fault_at number k (kept.Name name.bytes)) (key_rule keys before)) (kept_twice position)

pub field_is : (position : ℕ) (before scope : Own) (unknown : Option TypeFault) (field : PlainField)
    → field_met scope (met_at position before unknown) field ≡ met_behind (at_field position before scope field ∷ []) (position + 1) (and_names before (own_names field)) unknown
field_is position before scope unknown field =
    let faults = same_broken position before scope field ∙ sym (or_none (broken_at (at_field position before scope field))) in
    let unknowns = same_unknown position before scope field ∙ sym (or_none (unknown_at (at_field position before scope field))) in
    λ i. unless_fault (faults i) (record { position = kept_next position i; names = and_names before (own_names field); unknown = or_else unknown (unknowns i) })

pub case_is : (position here : ℕ) (name : Word) (keys before : List CaseKey) (names : Own) (unknown : Option TypeFault)
    → case_met (kept_position position) name keys before (met_at here names unknown) ≡ met_behind (behind_case position name keys before ∷ []) here names unknown
case_is position here name keys before names unknown =
    let faults = same_case position name keys before ∙ sym (or_none (bad_case position name keys before)) in
    λ i. unless_fault (faults i) (met_at here names (sym (or_none unknown) i))

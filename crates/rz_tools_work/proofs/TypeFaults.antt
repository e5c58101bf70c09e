-- What types are refused with is a rule of the table of faults.
use Rattle.std.proofs.Common.{◌≡◌, ℕ, ℤ, pos, Bool, true, false, ◌||◌, List, [], ◌∷◌, map, Err, Ok, Some, None, refl, subst}
use Rattle.std.specs.Prelude.{not, IfSome, option_map}
use Rattle.std.specs.List.{list_any}
use Rattle.std.specs.Option.{is_none, ok_or}
use Rattle.std.specs.declared.option.Option.{Option}
use Rattle.std.specs.declared.result.Result.{Result}
use Rattle.rz_types.specs.Template.{template_of}
use Rattle.rz_core.specs.Lists.{first_of, or_else, unless_fault}
use Rattle.rz_core.specs.Stop.{Gives, OnFault, seen}
use Rattle.rz_core.specs.Message.{is_fault}
use Rattle.rz_core.specs.declared.fault.Kept.TheVariants as kept
use Rattle.rz_core.specs.declared.resource.OsType.{OsType}
use Rattle.rz_core.specs.declared.resource.Word.{Word}
use Rattle.rz_core.specs.declared.stop.Stop.{Stop}
use Rattle.rz_core.specs.declared.stop.Stop.TheVariants.{Refused, NoMemory}
use Rattle.rz_tools_work.specs.Declare.{IsRule}
use Rattle.rz_types_fields.specs.declared.keys.CaseKey.{CaseKey}
use Rattle.rz_types.specs.Field.{Align, Array, Fill, Label, Number, PlainBody, PlainField, Points, Switch, Text}
use Rattle.rz_types.specs.Rules.{array_twice, bad_place, bad_width, broken, broken_at, case_names, checked, found_if, has_other_place, has_other_width, has_same_bits, has_values, kept_position, key_rule, name_fault, no_values, repeated, type_fault, unknown_at, unknown_fault, unknown_in, width_fault}
use Rattle.rz_types_table.specs.Table.{asked, copied, no_such_type, Declaration}
use Rattle.rz_types.specs.Walk.{at_field, behind_case, is_among, walk, Own, Step}
use Rattle.rz_types.specs.declared.rules.TypeFault.{TypeFault}
use Rattle.rz_types.specs.declared.template.Template.{Template}

same_fault : (one other : TypeFault) → ◌≡◌ {A = Result PlainBody TypeFault} (Err one) (Err other) → one ≡ other
same_fault one other says = cc

-- Faults that are found, or aren't.

abbrev AreRules : Option TypeFault → Type 0
AreRules found = IfSome found IsRule

or_rule : (first later : Option TypeFault) → AreRules first → AreRules later → AreRules (or_else first later)
or_rule None later one other = other
or_rule (Some fault) later one other = one

made_rule : {A : Type 0} (make : A → TypeFault) (found : Option A) → ((x : A) → IsRule (make x)) → AreRules (option_map make found)
made_rule make None is = tt
made_rule make (Some x) is = is x

if_rule : (test : Bool) (fault : TypeFault) → IsRule fault → AreRules (found_if test fault)
if_rule true fault is = is
if_rule false fault is = tt

-- The steps of the walk.

twice_rule : (position : ℕ) (before : List Word) (name : Option Word) → AreRules (array_twice position before name)
twice_rule position before None = tt
twice_rule position before (Some name) = if_rule (is_among name.bytes before) (name_fault 231 position name) refl

place_rule : (position : ℕ) (before : Own) (field : PlainField) → AreRules (bad_place position before field)
place_rule position before (Number number) = tt
place_rule position before (Text text) = tt
place_rule position before (Points points) = tt
place_rule position before (Fill unit count) = tt
place_rule position before (Align unit) = tt
place_rule position before (Label name) = if_rule (is_among name.bytes before.labels) (name_fault 230 position name) refl
place_rule position before (Array name count row) =
    or_rule (array_twice position before.arrays name) (no_values position row) (twice_rule position before.arrays name)
    (if_rule (not (has_values row)) (type_fault 237 position (kept.Number (pos (kept_position position)))) refl)
place_rule position before (Switch cases) = made_rule (name_fault 232 position) (repeated (case_names cases)) (λ name. refl)

-- the number of a rule on keys, among the numbers of the table
abbrev IsKeyRule : Option ℕ → Type 0
IsKeyRule found = IfSome found (λ number. is_fault number ≡ true)

if_key : (test : Bool) (number : ℕ) (later : Option ℕ) → is_fault number ≡ true → IsKeyRule later → IsKeyRule (or_else (found_if test number) later)
if_key true number later is other = is
if_key false number later is other = other

key_is_rule : (keys before : List CaseKey) → IsKeyRule (key_rule keys before)
key_is_rule [] before = refl
key_is_rule (key ∷ []) before =
    if_key (list_any (has_other_width key) before) 234 _ refl
    (if_key (is_none key.distance || list_any (has_other_place key) before) 235 _ refl (if_key (list_any (has_same_bits key) before) 236 None refl tt))
key_is_rule (key ∷ next ∷ keys) before = refl

named_rule : (position : ℕ) (name : Word) (found : Option ℕ) → IsKeyRule found → AreRules (option_map (λ number. name_fault number position name) found)
named_rule position name None is = tt
named_rule position name (Some number) is = is

step_rule : (step : Step) → AreRules (broken_at step)
step_rule (at_field position before scope field) =
    or_rule (bad_place position before field) (option_map (width_fault position) (bad_width field)) (place_rule position before field)
    (made_rule (width_fault position) (bad_width field) (λ value. refl))
step_rule (behind_case position name keys before) = named_rule position name (key_rule keys before) (key_is_rule keys before)

name_rule : (step : Step) → AreRules (unknown_at step)
name_rule (at_field position before scope field) = made_rule (unknown_fault position) (unknown_in scope field) (λ name. refl)
name_rule (behind_case position name keys before) = tt

first_rule : (rule : Step → Option TypeFault) → ((step : Step) → AreRules (rule step)) → (steps : List Step) → AreRules (first_of (map rule steps))
first_rule rule is [] = tt
first_rule rule is (step ∷ steps) = or_rule (rule step) (first_of (map rule steps)) (is step) (first_rule rule is steps)

broken_rule : (body : PlainBody) → AreRules (broken body)
broken_rule body =
    or_rule (first_of (map broken_at (walk body))) (first_of (map unknown_at (walk body))) (first_rule broken_at step_rule (walk body)) (first_rule unknown_at name_rule (walk body))

found_rule : (found : Option TypeFault) (body : PlainBody) (fault : TypeFault) → IfSome found IsRule → unless_fault found body ≡ Err fault → IsRule fault
found_rule None body fault is says = cc
found_rule (Some found) body fault is says = subst IsRule (same_fault found fault says) is

pub checked_rule : (body : PlainBody) (template : Result Template (Stop TypeFault)) → Gives (checked body) (seen template_of template)
    → OnFault template IsRule
checked_rule body (Ok template) gives = tt
checked_rule body (Err (Refused fault)) gives = found_rule (broken body) body fault (broken_rule body) gives
checked_rule body (Err NoMemory) gives = tt

missing_rule : (template : Option PlainBody) (kind : OsType) (id : Option ℤ) (fault : TypeFault)
    → ok_or template (no_such_type kind id) ≡ Err fault → IsRule fault
missing_rule None kind id fault says = subst IsRule (same_fault (no_such_type kind id) fault says) refl
missing_rule (Some template) kind id fault says = cc

pub copied_rule : (kind : OsType) (id : Option ℤ) (table : List Declaration) (template : Result Template (Stop TypeFault))
    → Gives (copied kind id table) (seen template_of template) → OnFault template IsRule
copied_rule kind id table (Ok template) gives = tt
copied_rule kind id table (Err (Refused fault)) gives = missing_rule (option_map (λ one. one.template) (asked kind id table)) kind id fault gives
copied_rule kind id table (Err NoMemory) gives = tt

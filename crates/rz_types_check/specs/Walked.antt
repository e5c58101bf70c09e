-- The walk as one step after the other: what is met so far, or the first rule that is broken.
use Rattle.std.specs.Prelude.{◌≡◌, ℕ, ◌+◌, List, [], ◌++◌, length, map, take, Option, None, Ok, Err}
use Rattle.std.specs.declared.result.Result.{Result}
use Rattle.rz_core.specs.Lists.{or_else, unless_fault}
use Rattle.rz_core.specs.Stop.{◌>>=◌}
use Rattle.rz_core.specs.declared.resource.Word.{Word}
use Rattle.rz_core.specs.declared.stop.Stop.{Stop}
use Rattle.rz_core.specs.declared.stop.Stop.TheVariants.{NoMemory, Refused}
use Rattle.rz_types_fields.specs.Field.{case_and, field_and, no_cases, no_fields, Align, Array, Fill, Label, Number, PlainBody, PlainCases, PlainField, Points, Switch, Text}
use Rattle.rz_types_fields.specs.Width.{case_keys}
use Rattle.rz_types_fields.specs.declared.keys.CaseKey.{CaseKey}
use Rattle.rz_types.specs.Rules.{bad_case, broken_at, kept_position, unknown_at}
use Rattle.rz_types.specs.Walk.{and_names, around_names, at_field, names_of, no_names, own_names, Own}
use Rattle.rz_types.specs.declared.rules.TypeFault.{TypeFault}
use Rattle.rz_types_check.specs.declared.names.Counts.{Counts}
use Rattle.rz_types_check.specs.declared.names.Names.{Names}
use Rattle.rz_types_check.specs.declared.walk.Walk.{Walk}

-- the position of the next field, the names of the labels and arrays so far, and the first name that can't be named
pub record Met : Type 0 where
  pub position : ℕ
  pub names : Own
  pub unknown : Option TypeFault

abbrev pub nothing_met : Met
nothing_met = record { position = 0; names = no_names; unknown = None }

-- one field more
abbrev pub with_field : Own → Met → PlainField → Met
with_field scope met field = record {
  position = kept_position (met.position + 1);
  names = and_names met.names (own_names field);
  unknown = or_else met.unknown (unknown_at (at_field met.position met.names scope field));
}

abbrev pub field_met : Own → Met → PlainField → Result Met TypeFault
field_met scope met field = unless_fault (broken_at (at_field met.position met.names scope field)) (with_field scope met field)

-- after a case
abbrev pub case_met : ℕ → Word → List CaseKey → List CaseKey → Met → Result Met TypeFault
case_met switch name keys before met = unless_fault (bad_case switch name keys before) met

abbrev mutual
  -- the fields within a field, which is the switch at this position if it is one
  pub within_met : Own → ℕ → Met → PlainField → Result Met TypeFault
  within_met scope switch met (Number number) = Ok met
  within_met scope switch met (Text text) = Ok met
  within_met scope switch met (Points points) = Ok met
  within_met scope switch met (Fill unit count) = Ok met
  within_met scope switch met (Align unit) = Ok met
  within_met scope switch met (Label name) = Ok met
  within_met scope switch met (Array name count row) = body_met (and_names (and_names scope (around_names name)) (names_of row)) met row
  within_met scope switch met (Switch cases) = cases_met scope switch [] met cases

  pub body_met : Own → Met → PlainBody → Result Met TypeFault
  body_met scope met no_fields = Ok met
  body_met scope met (field_and field fields) =
      field_met scope met field >>= λ next. within_met scope met.position next field >>= λ next. body_met scope next fields

  pub cases_met : Own → ℕ → List CaseKey → Met → PlainCases → Result Met TypeFault
  cases_met scope switch keys met no_cases = Ok met
  cases_met scope switch keys met (case_and name row others) =
      body_met (and_names scope (names_of row)) met row
      >>= λ next. case_met switch name (case_keys row) keys next
      >>= λ next. cases_met scope switch (keys ++ case_keys row) next others

-- the rows of an array of this name
abbrev pub rows_met : Own → Option Word → PlainBody → Met → Result Met TypeFault
rows_met scope name row met = body_met (and_names (and_names scope (around_names name)) (names_of row)) met row

-- a field, and the fields within it
abbrev pub all_met : Own → Met → PlainField → Result Met TypeFault
all_met scope met field = field_met scope met field >>= λ next. within_met scope met.position next field

-- What the code has met.

abbrev pub own_of : Names → Own
own_of names = record {
  labels = map (λ name. name.now) names.labels.list.items;
  arrays = map (λ name. name.now) names.arrays.list.items;
  indexed = map (λ name. name.now) names.indexed.list.items;
  around = map (λ name. name.now) names.around.list.items;
}

-- how many names of each kind there are, and the first so many of each
abbrev pub counts_in : Names → Counts
counts_in names = record {
  labels = length names.labels.list.items;
  arrays = length names.arrays.list.items;
  indexed = length names.indexed.list.items;
  around = length names.around.list.items;
}

abbrev pub first_names : Counts → Own → Own
first_names counts own = record {
  labels = take counts.labels own.labels;
  arrays = take counts.arrays own.arrays;
  indexed = take counts.indexed own.indexed;
  around = take counts.around own.around;
}

abbrev pub met_of : Walk → Met
met_of walk = record { position = walk.position; names = own_of walk.names; unknown = walk.unknown }

abbrev pub scope_of : Walk → Own
scope_of walk = own_of walk.scope

-- the call met so much and left the names that may be named, or gave this fault, or memory was refused
abbrev pub Walks : Result Met TypeFault → Walk → Result (Unit {0}) (Stop TypeFault) → Walk → Type 0
Walks answer old (Ok nothing) new = (answer ≡ Ok (met_of new)) × (scope_of new ≡ scope_of old)
Walks answer old (Err (Refused fault)) new = answer ≡ Err fault
Walks answer old (Err NoMemory) new = Unit {0}

-- The walk over the fields of a declaration, depth first, and what stands where. (MPW Rez.)
use Rattle.std.specs.Prelude.{ℕ, ◌+◌, Bool, List, [], ◌∷◌, ◌++◌, length, Option}
use Rattle.std.specs.List.{list_any}
use Rattle.std.specs.Option.{option_to_list}
use Rattle.std.specs.Str.{str_eq_ignore_ascii_case}
use Rattle.rz_core.specs.declared.resource.Word.{Word}
use Rattle.rz_types_fields.specs.Field.{case_and, field_and, no_cases, no_fields, Align, Array, Fill, Label, Number, PlainBody, PlainCases, PlainField, Points, Switch, Text}
use Rattle.rz_types_fields.specs.Width.{case_keys}
use Rattle.rz_types_fields.specs.declared.keys.CaseKey.{CaseKey}

-- Names.

-- the name is one of these, in whatever case
abbrev pub is_among : List ℕ → List Word → Bool
is_among name names = list_any (λ one. str_eq_ignore_ascii_case one.bytes name) names

-- names of labels and of arrays, of the labels that stand directly in rows of arrays, and of the arrays around
pub record Own : Type 0 where
  pub labels : List Word
  pub arrays : List Word
  pub indexed : List Word
  pub around : List Word

abbrev pub no_names : Own
no_names = record { labels = []; arrays = []; indexed = []; around = [] }

-- some and others after them
abbrev pub and_names : Own → Own → Own
and_names own other = record {
  labels = own.labels ++ other.labels;
  arrays = own.arrays ++ other.arrays;
  indexed = own.indexed ++ other.indexed;
  around = own.around ++ other.around;
}

-- the labels that stand directly in a body
abbrev pub label_name : PlainField → List Word
label_name (Label name) = name ∷ []
label_name field = []

abbrev pub labels_in : PlainBody → List Word
labels_in no_fields = []
labels_in (field_and field fields) = label_name field ++ labels_in fields

-- the name of a label, or of an array with the labels that stand directly in its rows
abbrev pub own_names : PlainField → Own
own_names (Label name) = record { labels = name ∷ []; arrays = []; indexed = []; around = [] }
own_names (Array name count row) = record { labels = []; arrays = option_to_list name; indexed = labels_in row; around = [] }
own_names field = no_names

-- the name of the array in whose rows one stands
abbrev pub around_names : Option Word → Own
around_names name = record { labels = []; arrays = []; indexed = []; around = option_to_list name }

-- the names of the labels and arrays of a body, without those within its fields, but for labels directly in rows
abbrev pub names_of : PlainBody → Own
names_of no_fields = no_names
names_of (field_and field fields) = and_names (own_names field) (names_of fields)

-- those of fields in a list
abbrev pub names_in : List PlainField → Own
names_in [] = no_names
names_in (field ∷ fields) = and_names (own_names field) (names_in fields)

-- Fields.

abbrev mutual
  -- the fields within a field, depth first
  pub within : PlainField → List PlainField
  within (Number number) = []
  within (Text text) = []
  within (Points points) = []
  within (Fill unit count) = []
  within (Align unit) = []
  within (Label name) = []
  within (Array name count row) = all_fields row
  within (Switch cases) = all_in_cases cases

  -- the fields of a body with those within them
  pub all_fields : PlainBody → List PlainField
  all_fields no_fields = []
  all_fields (field_and field fields) = field ∷ (within field ++ all_fields fields)

  pub all_in_cases : PlainCases → List PlainField
  all_in_cases no_cases = []
  all_in_cases (case_and name row others) = all_fields row ++ all_in_cases others

-- The walk.

pub data Step : Type 0 where
  -- a field: its position in the walk, from 0, the names of the labels and arrays before it, and of those that it may name: of its
  -- own body, and of the bodies around
  at_field : (position : ℕ) (before scope : Own) (field : PlainField) → Step
  -- the end of a case: the position of its switch, the name of the case, its keys, and those of the cases before it
  behind_case : (position : ℕ) (name : Word) (keys before : List CaseKey) → Step

abbrev mutual
  -- the steps within a field
  pub steps_within : (position : ℕ) (before scope : Own) → PlainField → List Step
  steps_within position before scope (Number number) = []
  steps_within position before scope (Text text) = []
  steps_within position before scope (Points points) = []
  steps_within position before scope (Fill unit count) = []
  steps_within position before scope (Align unit) = []
  steps_within position before scope (Label name) = []
  steps_within position before scope (Array name count row) =
      steps (position + 1) (and_names before (own_names (Array name count row))) (and_names (and_names scope (around_names name)) (names_of row)) row
  steps_within position before scope (Switch cases) = case_steps position (position + 1) before scope [] cases

  -- those of fields, the first of which has this position
  pub steps : (position : ℕ) (before scope : Own) → PlainBody → List Step
  steps position before scope no_fields = []
  steps position before scope (field_and field fields) =
      at_field position before scope field
      ∷ (steps_within position before scope field
      ++ steps (position + 1 + length (within field)) (and_names before (names_in (field ∷ within field))) scope fields)

  -- those of the cases of a switch, after cases with these keys
  pub case_steps : (switch position : ℕ) (before scope : Own) (keys : List CaseKey) → PlainCases → List Step
  case_steps switch position before scope keys no_cases = []
  case_steps switch position before scope keys (case_and name row others) =
      steps position before (and_names scope (names_of row)) row
      ++ behind_case switch name (case_keys row) keys
      ∷ case_steps switch (position + length (all_fields row)) (and_names before (names_in (all_fields row))) scope (keys ++ case_keys row) others

abbrev pub walk : PlainBody → List Step
walk body = steps 0 no_names (names_of body) body

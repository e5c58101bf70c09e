-- Names that differ, where no rule is broken.
use Rattle.std.proofs.Common.{◌≡◌, ℕ, ◌+◌, Bool, true, false, List, [], ◌∷◌, ◌++◌, length, Option, Some, None, refl, sym, ap, subst, ◌∙◌, append_assoc}
use Rattle.std.specs.Prelude.{option_map}
use Rattle.std.specs.List.{AllByRecursion}
use Rattle.std.specs.Str.{str_eq_ignore_ascii_case}
use Rattle.std.proofs.lemmas.List.Folds.{list_any-append}
use Rattle.rz_core.proofs.Lists.{or_else_none}
use Rattle.rz_core.proofs.Tests.{or_false}
use Rattle.rz_core.specs.Lists.{first_in}
use Rattle.rz_core.specs.declared.resource.Word.{Word}
use Rattle.rz_types_fields.specs.Field.{field_and, no_fields, Align, Array, Fill, Label, Number, PlainBody, PlainCases, PlainField, Points, Switch, Text}
use Rattle.rz_types.specs.Kept.{AreOwn, Differ}
use Rattle.rz_types.specs.Rules.{array_twice, bad_place, bad_width, broken_at, case_names, case_twice, found_if, name_fault, no_values, repeated, repeats, width_fault, KeepAll}
use Rattle.rz_types.specs.Walk.{all_fields, and_names, around_names, is_among, label_name, labels_in, names_in, names_of, no_names, own_names, steps, steps_within, within, Own, Step}
use Rattle.rz_types.specs.declared.rules.TypeFault.{TypeFault}

-- None at all.

pub found_none : {A : Type 0} (holds : Bool) (x : A) → found_if holds x ≡ None → holds ≡ false
found_none true x none = absurd cc
found_none false x none = refl

pub map_none : {A B : Type 0} (f : A → B) (o : Option A) → option_map f o ≡ None → o ≡ None
map_none f None none = refl
map_none f (Some x) none = absurd cc

pub kept_append : (rule : Step → Option TypeFault) (front back : List Step) → KeepAll rule (front ++ back) → KeepAll rule front × KeepAll rule back
kept_append rule [] back kept = (tt, kept)
kept_append rule (step ∷ front) back kept = let each = kept_append rule front back kept.1 in ((kept.0, each.0), each.1)

all_append : (P : Word → Type 0) (front back : List Word) → AllByRecursion P front → AllByRecursion P back → AllByRecursion P (front ++ back)
all_append P [] back one other = other
all_append P (x ∷ front) back one other = (one.0, all_append P front back one.1 other)

-- Names that stand before.

-- what differs from all of these names differs from this one
abbrev Stands : Word → List Word → Type 0
Stands one names = (name : List ℕ) → is_among name names ≡ false → str_eq_ignore_ascii_case one.bytes name ≡ false

abbrev DiffersFrom : Word → List Word → Type 0
DiffersFrom one names = AllByRecursion (λ later. str_eq_ignore_ascii_case one.bytes later.bytes ≡ false) names

stands_more : (one : Word) (names more : List Word) → Stands one names → Stands one (names ++ more)
stands_more one names more stands name none =
    stands name ((or_false _ _ (sym (list_any-append (λ (one : Word). str_eq_ignore_ascii_case one.bytes name) names more) ∙ none)).0)

stands_own : (one : Word) (names more : List Word) → Stands one (names ++ one ∷ more)
stands_own one names more name none =
    let behind = (or_false _ _ (sym (list_any-append (λ (one : Word). str_eq_ignore_ascii_case one.bytes name) names (one ∷ more)) ∙ none)).1 in
    (or_false (str_eq_ignore_ascii_case one.bytes name) (is_among name more) behind).0

-- The names of cases.

differs_from : (one : Word) (before names : List Word) → Stands one before → first_in repeats before names ≡ None → DiffersFrom one names
differs_from one before [] stands none = tt
differs_from one before (name ∷ names) stands none =
    let each = or_else_none (repeats before name) (first_in repeats (before ++ name ∷ []) names) none in (
      stands name.bytes (found_none (is_among name.bytes before) name each.0),
      differs_from one (before ++ name ∷ []) names (stands_more one before (name ∷ []) stands) each.1,
    )

all_differ : (before names : List Word) → first_in repeats before names ≡ None → Differ names
all_differ before [] none = tt
all_differ before (name ∷ names) none =
    let each = or_else_none (repeats before name) (first_in repeats (before ++ name ∷ []) names) none in
    (differs_from name (before ++ name ∷ []) names (stands_own name before []) each.1, all_differ (before ++ name ∷ []) names each.1)

pub cases_differ : (position : ℕ) (cases : PlainCases) → case_twice position cases ≡ None → Differ (case_names cases)
cases_differ position cases none = all_differ [] (case_names cases) (map_none (name_fault 232 position) (repeated (case_names cases)) none)

-- The names of labels, and those of arrays.

-- of the field itself

label_stands : (one : Word) (position : ℕ) (before : Own) (field : PlainField) → Stands one before.labels → bad_place position before field ≡ None
    → DiffersFrom one (own_names field).labels
label_stands one position before (Number number) stands none = tt
label_stands one position before (Text text) stands none = tt
label_stands one position before (Points points) stands none = tt
label_stands one position before (Fill unit count) stands none = tt
label_stands one position before (Align unit) stands none = tt
label_stands one position before (Label name) stands none =
    (stands name.bytes (found_none (is_among name.bytes before.labels) (name_fault 230 position name) none), tt)
label_stands one position before (Array name count row) stands none = tt
label_stands one position before (Switch cases) stands none = tt

array_stands : (one : Word) (position : ℕ) (before : Own) (field : PlainField) → Stands one before.arrays → bad_place position before field ≡ None
    → DiffersFrom one (own_names field).arrays
array_stands one position before (Number number) stands none = tt
array_stands one position before (Text text) stands none = tt
array_stands one position before (Points points) stands none = tt
array_stands one position before (Fill unit count) stands none = tt
array_stands one position before (Align unit) stands none = tt
array_stands one position before (Label name) stands none = tt
array_stands one position before (Array None count row) stands none = tt
array_stands one position before (Array (Some name) count row) stands none =
    let each = or_else_none (array_twice position before.arrays (Some name)) (no_values position row) none in
    (stands name.bytes (found_none (is_among name.bytes before.arrays) (name_fault 231 position name) each.0), tt)
array_stands one position before (Switch cases) stands none = tt

-- at most one
abbrev IsAlone : List Word → Type 0
IsAlone [] = Unit {0}
IsAlone (one ∷ []) = Unit {0}
IsAlone (one ∷ other ∷ names) = ⊥

label_alone : (field : PlainField) → IsAlone (own_names field).labels
label_alone (Number number) = tt
label_alone (Text text) = tt
label_alone (Points points) = tt
label_alone (Fill unit count) = tt
label_alone (Align unit) = tt
label_alone (Label name) = tt
label_alone (Array name count row) = tt
label_alone (Switch cases) = tt

array_alone : (field : PlainField) → IsAlone (own_names field).arrays
array_alone (Number number) = tt
array_alone (Text text) = tt
array_alone (Points points) = tt
array_alone (Fill unit count) = tt
array_alone (Align unit) = tt
array_alone (Label name) = tt
array_alone (Array None count row) = tt
array_alone (Array (Some name) count row) = tt
array_alone (Switch cases) = tt

own_and_others : (own names : List Word) → IsAlone own → Differ names → ((name : Word) → own ≡ name ∷ [] → DiffersFrom name names) → Differ (own ++ names)
own_and_others [] names alone differ each = differ
own_and_others (name ∷ []) names alone differ each = (each name refl, differ)
own_and_others (name ∷ next ∷ own) names alone differ each = absurd alone

-- labels or arrays
module _ (part : Own → List Word) (none : part no_names ≡ []) (joins : (own other : Own) → part (and_names own other) ≡ part own ++ part other)
    (alone : (field : PlainField) → IsAlone (part (own_names field)))
    (own_stands : (one : Word) (position : ℕ) (before : Own) (field : PlainField) → Stands one (part before) → bad_place position before field ≡ None
    → DiffersFrom one (part (own_names field))) where
  differ_from : (one : Word) (position : ℕ) (before scope : Own) (body : PlainBody) → Stands one (part before)
      → KeepAll broken_at (steps position before scope body) → DiffersFrom one (part (names_of body))
  differ_from one position before scope no_fields stands kept = subst (DiffersFrom one) (sym none) tt
  differ_from one position before scope (field_and field fields) stands kept =
      let own = or_else_none (bad_place position before field) (option_map (width_fault position) (bad_width field)) kept.0 in
      let more = names_in (field ∷ within field) in
      let names = and_names before more in
      let here = position + 1 + length (within field) in
      let behind = kept_append broken_at (steps_within position before scope field) (steps here names scope fields) kept.1 in
      subst (DiffersFrom one) (sym (joins (own_names field) (names_of fields)))
      (all_append (λ later. str_eq_ignore_ascii_case one.bytes later.bytes ≡ false) (part (own_names field)) (part (names_of fields)) (own_stands one position before field stands own.0)
      (differ_from one here names scope fields (subst (Stands one) (sym (joins before more)) (stands_more one (part before) (part more) stands)) behind.1))

  all_names_differ : (position : ℕ) (before scope : Own) (body : PlainBody) → KeepAll broken_at (steps position before scope body) → Differ (part (names_of body))
  all_names_differ position before scope no_fields kept = subst Differ (sym none) tt
  all_names_differ position before scope (field_and field fields) kept =
      let own = own_names field in
      let more = names_in (within field) in
      let names = and_names before (and_names own more) in
      let here = position + 1 + length (within field) in
      let behind = kept_append broken_at (steps_within position before scope field) (steps here names scope fields) kept.1 in
      let whole = joins before (and_names own more) ∙ ap (λ (l : List Word). part before ++ l) (joins own more) in
      subst Differ (sym (joins own (names_of fields)))
      (own_and_others (part own) (part (names_of fields)) (alone field) (all_names_differ here names scope fields behind.1)
      (λ name is. differ_from name here names scope fields
      (subst (Stands name) (sym (whole ∙ ap (λ (l : List Word). part before ++ (l ++ part more)) is)) (stands_own name (part before) (part more))) behind.1))

-- Labels that stand directly in the rows of arrays.

labels_differ : (position : ℕ) (before scope : Own) (body : PlainBody) → KeepAll broken_at (steps position before scope body) → Differ (names_of body).labels
labels_differ = all_names_differ (λ own. own.labels) refl (λ own other. refl) label_alone label_stands

label_differs : (one : Word) (position : ℕ) (before scope : Own) (body : PlainBody) → Stands one before.labels → KeepAll broken_at (steps position before scope body)
    → DiffersFrom one (names_of body).labels
label_differs = differ_from (λ own. own.labels) refl (λ own other. refl) label_alone label_stands

-- those of a row are its own
own_label : (field : PlainField) → (own_names field).labels ≡ label_name field
own_label (Number number) = refl
own_label (Text text) = refl
own_label (Points points) = refl
own_label (Fill unit count) = refl
own_label (Align unit) = refl
own_label (Label name) = refl
own_label (Array name count row) = refl
own_label (Switch cases) = refl

own_labels : (row : PlainBody) → (names_of row).labels ≡ labels_in row
own_labels no_fields = refl
own_labels (field_and field fields) = λ i. own_label field i ++ own_labels fields i

labels_append : (front back : List PlainField) → (names_in (front ++ back)).labels ≡ (names_in front).labels ++ (names_in back).labels
labels_append [] back = refl
labels_append (field ∷ front) back =
    ap (λ (names : List Word). (own_names field).labels ++ names) (labels_append front back)
    ∙ sym (append_assoc (own_names field).labels (names_in front).labels (names_in back).labels)

stands_behind : (one : Word) (front names : List Word) → Stands one names → Stands one (front ++ names)
stands_behind one front names stands name none =
    stands name ((or_false _ _ (sym (list_any-append (λ (one : Word). str_eq_ignore_ascii_case one.bytes name) front names) ∙ none)).1)

all_so : (P Q : Word → Type 0) → ((name : Word) → P name → Q name) → (names : List Word) → AllByRecursion P names → AllByRecursion Q names
all_so P Q so [] all = tt
all_so P Q so (name ∷ names) all = (so name all.0, all_so P Q so names all.1)

-- they stand among all labels within
label_within : (field : PlainField) (more : List Word) → AllByRecursion (λ name. Stands name ((own_names field).labels ++ more)) (label_name field)
label_within (Number number) more = tt
label_within (Text text) more = tt
label_within (Points points) more = tt
label_within (Fill unit count) more = tt
label_within (Align unit) more = tt
label_within (Label name) more = (stands_own name [] more, tt)
label_within (Array name count row) more = tt
label_within (Switch cases) more = tt

labels_within : (row : PlainBody) → AllByRecursion (λ name. Stands name (names_in (all_fields row)).labels) (labels_in row)
labels_within no_fields = tt
labels_within (field_and field fields) =
    let own = (own_names field).labels in
    let all = (names_in (all_fields fields)).labels in
    all_append (λ name. Stands name (own ++ (names_in (within field ++ all_fields fields)).labels)) (label_name field) (labels_in fields)
    (label_within field (names_in (within field ++ all_fields fields)).labels)
    (all_so (λ name. Stands name all) (λ name. Stands name (own ++ (names_in (within field ++ all_fields fields)).labels))
    (λ name stands. subst (λ (names : List Word). Stands name (own ++ names)) (sym (labels_append (within field) (all_fields fields)))
    (stands_behind name own ((names_in (within field)).labels ++ all) (stands_behind name (names_in (within field)).labels all stands)))
    (labels_in fields) (labels_within fields))

-- and so before what is after the array
indexed_within : (before : Own) (field : PlainField) → AllByRecursion (λ name. Stands name (before.labels ++ (names_in (field ∷ within field)).labels)) (own_names field).indexed
indexed_within before (Number number) = tt
indexed_within before (Text text) = tt
indexed_within before (Points points) = tt
indexed_within before (Fill unit count) = tt
indexed_within before (Align unit) = tt
indexed_within before (Label name) = tt
indexed_within before (Array name count row) =
    all_so (λ name. Stands name (names_in (all_fields row)).labels) (λ name. Stands name (before.labels ++ (names_in (all_fields row)).labels))
    (λ name. stands_behind name before.labels (names_in (all_fields row)).labels) (labels_in row) (labels_within row)
indexed_within before (Switch cases) = tt

-- those of one field differ
indexed_own : (position : ℕ) (before scope : Own) (field : PlainField) → KeepAll broken_at (steps_within position before scope field) → Differ (own_names field).indexed
indexed_own position before scope (Number number) kept = tt
indexed_own position before scope (Text text) kept = tt
indexed_own position before scope (Points points) kept = tt
indexed_own position before scope (Fill unit count) kept = tt
indexed_own position before scope (Align unit) kept = tt
indexed_own position before scope (Label name) kept = tt
indexed_own position before scope (Array name count row) kept =
    subst Differ (own_labels row) (labels_differ (position + 1) (and_names before (own_names (Array name count row))) (and_names (and_names scope (around_names name)) (names_of row)) row kept)
indexed_own position before scope (Switch cases) kept = tt

-- and those after what stands before
indexed_behind : (one : Word) (position : ℕ) (before scope : Own) (field : PlainField) → Stands one before.labels → KeepAll broken_at (steps_within position before scope field)
    → DiffersFrom one (own_names field).indexed
indexed_behind one position before scope (Number number) stands kept = tt
indexed_behind one position before scope (Text text) stands kept = tt
indexed_behind one position before scope (Points points) stands kept = tt
indexed_behind one position before scope (Fill unit count) stands kept = tt
indexed_behind one position before scope (Align unit) stands kept = tt
indexed_behind one position before scope (Label name) stands kept = tt
indexed_behind one position before scope (Array name count row) stands kept =
    subst (DiffersFrom one) (own_labels row)
    (label_differs one (position + 1) (and_names before (own_names (Array name count row))) (and_names (and_names scope (around_names name)) (names_of row)) row
    (stands_more one before.labels [] stands) kept)
indexed_behind one position before scope (Switch cases) stands kept = tt

indexed_from : (one : Word) (position : ℕ) (before scope : Own) (body : PlainBody) → Stands one before.labels → KeepAll broken_at (steps position before scope body)
    → DiffersFrom one (names_of body).indexed
indexed_from one position before scope no_fields stands kept = tt
indexed_from one position before scope (field_and field fields) stands kept =
    let more = names_in (field ∷ within field) in
    let names = and_names before more in
    let here = position + 1 + length (within field) in
    let parts = kept_append broken_at (steps_within position before scope field) (steps here names scope fields) kept.1 in
    all_append (λ later. str_eq_ignore_ascii_case one.bytes later.bytes ≡ false) (own_names field).indexed (names_of fields).indexed
    (indexed_behind one position before scope field stands parts.0)
    (indexed_from one here names scope fields (stands_more one before.labels more.labels stands) parts.1)

each_before : (own names : List Word) → Differ own → Differ names → AllByRecursion (λ name. DiffersFrom name names) own → Differ (own ++ names)
each_before [] names one other each = other
each_before (name ∷ own) names one other each =
    (all_append (λ later. str_eq_ignore_ascii_case name.bytes later.bytes ≡ false) own names one.0 each.0, each_before own names one.1 other each.1)

indexed_differ : (position : ℕ) (before scope : Own) (body : PlainBody) → KeepAll broken_at (steps position before scope body) → Differ (names_of body).indexed
indexed_differ position before scope no_fields kept = tt
indexed_differ position before scope (field_and field fields) kept =
    let more = names_in (field ∷ within field) in
    let names = and_names before more in
    let here = position + 1 + length (within field) in
    let parts = kept_append broken_at (steps_within position before scope field) (steps here names scope fields) kept.1 in
    each_before (own_names field).indexed (names_of fields).indexed (indexed_own position before scope field parts.0) (indexed_differ here names scope fields parts.1)
    (all_so (λ name. Stands name names.labels) (λ name. DiffersFrom name (names_of fields).indexed)
    (λ name stands. indexed_from name here names scope fields stands parts.1) (own_names field).indexed (indexed_within before field))

pub own_differ : (position : ℕ) (before scope : Own) (body : PlainBody) → KeepAll broken_at (steps position before scope body) → AreOwn (names_of body)
own_differ position before scope body kept = (
  labels_differ position before scope body kept,
  all_names_differ (λ own. own.arrays) refl (λ own other. refl) array_alone array_stands position before scope body kept,
  indexed_differ position before scope body kept,
)

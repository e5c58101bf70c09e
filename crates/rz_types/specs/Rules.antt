-- The rules of type declarations, and the first that a body breaks. (MPW Rez.)
use Rattle.std.specs.Prelude.{◌≡◌, ◌⊎◌, ℕ, ◌==◌, min, ℤ, pos, Bool, true, false, not, ◌||◌, if◌then◌else◌, List, [], ◌∷◌, ◌++◌, map, Option, Some, None, option_and_then, option_map}
use Rattle.std.specs.List.{find, list_any, AllByRecursion}
use Rattle.std.specs.Option.{is_none, is_some}
use Rattle.std.specs.declared.result.Result.{Result}
use Rattle.rz_core.specs.Lists.{first_in, first_of, or_else, unless_fault}
use Rattle.rz_core.specs.declared.fault.Kept.{Kept}
use Rattle.rz_core.specs.declared.fault.Kept.TheVariants as kept
use Rattle.rz_core.specs.declared.resource.Word.{Word}
use Rattle.rz_expr.specs.Constant.{constant_of}
use Rattle.rz_expr.specs.Environment.{predefined}
use Rattle.rz_expr.specs.Mention.{alone, around, counted, fact, indexed, mentions, name_mentioned, with_bits, Mention}
use Rattle.rz_expr.specs.Term.{Term}
use Rattle.rz_types_fields.specs.Field.{case_and, field_and, no_cases, no_fields, takes_value, Align, Array, Fill, Label, Number, PlainBody, PlainCases, PlainField, Points, Switch, Text}
use Rattle.rz_types_fields.specs.Laid.{unless}
use Rattle.rz_types_fields.specs.Range.{is_between, may_be_size}
use Rattle.rz_types_fields.specs.Piece.{expressions_of}
use Rattle.rz_types_fields.specs.declared.field.NumForm.{NumForm}
use Rattle.rz_types_fields.specs.declared.field.NumForm.TheVariants.{Bits}
use Rattle.rz_types_fields.specs.declared.field.TextForm.{TextForm}
use Rattle.rz_types_fields.specs.declared.keys.CaseKey.{CaseKey}
use Rattle.rz_types.specs.Walk.{at_field, behind_case, is_among, walk, Own, Step}
use Rattle.rz_types.specs.declared.rules.TypeFault.{TypeFault}

-- Faults.

-- the most that a fault keeps of a position
abbrev pub kept_position : ℕ → ℕ
kept_position position = min position 9223372036854775807

abbrev pub type_fault : ℕ → ℕ → Kept → TypeFault
type_fault number position what = record { number = number; field = kept_position position; kept = what }

-- 230 to 236 keep a name, of a label, of an array or of a case
abbrev pub name_fault : ℕ → ℕ → Word → TypeFault
name_fault number position name = type_fault number position (kept.Name name.bytes)

-- what is found where a test holds
abbrev pub found_if : {A : Type 0} → Bool → A → Option A
found_if holds x = if holds then Some x else None

-- Widths, counts and sizes.

-- the widths that a number may have: those of a bitstring are bounded, every other type has its own
abbrev pub may_be_width : NumForm → ℤ → Bool
may_be_width Bits width = is_between (pos 1) (pos 32) width
may_be_width form width = true

-- how many units a fill may have
abbrev pub may_be_count : ℤ → Bool
may_be_count count = is_between (pos 0) (pos 16777212) count

-- how many rows may be stated of an array
abbrev pub may_be_rows : ℤ → Bool
may_be_rows count = is_between (pos 0) (pos 1048576) count

abbrev pub unless_size : TextForm → Option ℤ → Option ℤ
unless_size form None = None
unless_size form (Some size) = unless (may_be_size form size) size

-- a size that may not be; one that is no constant, or has no value, is told later
abbrev pub bad_size : TextForm → Option Term → Option ℤ
bad_size form None = None
bad_size form (Some size) = unless_size form (constant_of size)

abbrev pub bad_rows : Option ℤ → Option ℤ
bad_rows None = None
bad_rows (Some count) = unless (may_be_rows count) count

-- the width, the count or the size of a field that may not be
abbrev pub bad_width : PlainField → Option ℤ
bad_width (Number number) = unless (may_be_width number.form number.width) number.width
bad_width (Text text) = bad_size text.form text.size
bad_width (Points points) = None
bad_width (Fill unit count) = unless (may_be_count count) count
bad_width (Align unit) = None
bad_width (Label name) = None
bad_width (Array name count row) = bad_rows count
bad_width (Switch cases) = None

-- 238 for the field at this position
abbrev pub width_fault : ℕ → ℤ → TypeFault
width_fault position value = type_fault 238 position (kept.Number value)

-- Fields.

-- 230 for a label whose name one before it has
abbrev pub label_twice : ℕ → List Word → Word → Option TypeFault
label_twice position before name = found_if (is_among name.bytes before) (name_fault 230 position name)

-- 231 for an array whose name one before it has
abbrev pub array_twice : ℕ → List Word → Option Word → Option TypeFault
array_twice position before None = None
array_twice position before (Some name) = found_if (is_among name.bytes before) (name_fault 231 position name)

-- the first name that stands among those before it
abbrev pub repeats : List Word → Word → Option Word
repeats before name = if is_among name.bytes before then Some name else None

abbrev pub repeated : List Word → Option Word
repeated names = first_in repeats [] names

abbrev pub case_names : PlainCases → List Word
case_names no_cases = []
case_names (case_and name row others) = name ∷ case_names others

-- 232 for a switch of which two cases have one name
abbrev pub case_twice : ℕ → PlainCases → Option TypeFault
case_twice position cases = option_map (name_fault 232 position) (repeated (case_names cases))

-- a row takes one value at least
abbrev pub has_values : PlainBody → Bool
has_values no_fields = false
has_values (field_and field fields) = takes_value field || has_values fields

-- 237 for an array whose rows take no value
abbrev pub no_values : ℕ → PlainBody → Option TypeFault
no_values position row = found_if (not (has_values row)) (type_fault 237 position (kept.Number (pos (kept_position position))))

-- what is wrong with a field where it stands, beside its widths
abbrev pub bad_place : ℕ → Own → PlainField → Option TypeFault
bad_place position before (Label name) = label_twice position before.labels name
bad_place position before (Array name count row) = or_else (array_twice position before.arrays name) (no_values position row)
bad_place position before (Switch cases) = case_twice position cases
bad_place position before field = None

-- Cases.

abbrev pub differ : Option ℕ → Option ℕ → Bool
differ (Some one) (Some other) = not (one == other)
differ one other = true

abbrev pub has_other_width : CaseKey → CaseKey → Bool
has_other_width key one = not (key.width == one.width)

abbrev pub has_other_place : CaseKey → CaseKey → Bool
has_other_place key one = differ key.distance one.distance

abbrev pub has_same_bits : CaseKey → CaseKey → Bool
has_same_bits key one = key.bits == one.bits

-- the number of the first rule that the keys of a case break, after those of the cases before it: 233 where it isn't one key,
-- 234 where it has another width than one before, 235 where not only fields of fixed width stand before it, or other widths
-- than before those, 236 where it has the same bits as one before
abbrev pub key_rule : List CaseKey → List CaseKey → Option ℕ
key_rule [] before = Some 233
key_rule (key ∷ []) before =
    first_of
    (found_if (list_any (has_other_width key) before) 234
    ∷ found_if (is_none key.distance || list_any (has_other_place key) before) 235
    ∷ found_if (list_any (has_same_bits key) before) 236
    ∷ [])
key_rule (key ∷ next ∷ keys) before = Some 233

abbrev pub bad_case : ℕ → Word → List CaseKey → List CaseKey → Option TypeFault
bad_case position name keys before = option_map (λ number. name_fault number position name) (key_rule keys before)

-- Names that an expression can't name.

-- a label, label in rows, array or array around is one of these; `true`, `false` and facts are none of them, and always there
abbrev pub is_named_there : Own → Mention → Bool
is_named_there scope (alone name) = is_some (predefined name) || is_among name scope.labels
is_named_there scope (indexed name) = is_among name scope.indexed
is_named_there scope (counted name) = is_among name scope.arrays
is_named_there scope (around name) = is_among name scope.around
is_named_there scope (with_bits name) = is_among name scope.labels
is_named_there scope (fact which) = true

-- the first name in an expression that isn't there
abbrev pub unknown_name : Own → Term → Option (List ℕ)
unknown_name scope term = option_and_then name_mentioned (find (λ one. not (is_named_there scope one)) (mentions term))

abbrev pub unknown_in : Own → PlainField → Option (List ℕ)
unknown_in scope field = first_of (map (unknown_name scope) (expressions_of field))

-- 212 keeps the name as it is written
abbrev pub unknown_fault : ℕ → List ℕ → TypeFault
unknown_fault position name = type_fault 212 position (kept.Name name)

-- The first broken rule.

-- the first rule that a step of the walk breaks, in the order of their numbers
abbrev pub broken_at : Step → Option TypeFault
broken_at (at_field position before scope field) = or_else (bad_place position before field) (option_map (width_fault position) (bad_width field))
broken_at (behind_case position name keys before) = bad_case position name keys before

-- the first name at a step that the field can't name
abbrev pub unknown_at : Step → Option TypeFault
unknown_at (at_field position before scope field) = option_map (unknown_fault position) (unknown_in scope field)
unknown_at (behind_case position name keys before) = None

-- the first rule that a body breaks: that of the first step in the walk that breaks one, else, after the walk, that of the
-- first name that can't be named
abbrev pub broken : PlainBody → Option TypeFault
broken body = or_else (first_of (map broken_at (walk body))) (first_of (map unknown_at (walk body)))

abbrev pub keeps_rules : PlainBody → Bool
keeps_rules body = is_none (broken body)

-- the body of a template, or the first rule that it breaks
abbrev pub checked : PlainBody → Result PlainBody TypeFault
checked body = unless_fault (broken body) body

-- The same in other words.

-- no step breaks a rule
abbrev pub KeepAll : (Step → Option TypeFault) → List Step → Type 0
KeepAll rule walk = AllByRecursion (λ step. rule step ≡ None) walk

-- a step breaks a rule by this fault, and none before it does
pub record BreaksFirst (rule : Step → Option TypeFault) (walk : List Step) (fault : TypeFault) : Type 0 where
  pub front : List Step
  pub step : Step
  pub behind : List Step
  pub whole : walk ≡ front ++ step ∷ behind
  pub kept : KeepAll rule front
  pub breaks : rule step ≡ Some fault

-- the first fault of a body: of the walk, or of a name where the walk has none
abbrev pub IsFirstBroken : PlainBody → TypeFault → Type 0
IsFirstBroken body fault = BreaksFirst broken_at (walk body) fault ⊎ (KeepAll broken_at (walk body) × BreaksFirst unknown_at (walk body) fault)

abbrev pub BreaksNone : PlainBody → Type 0
BreaksNone body = KeepAll broken_at (walk body) × KeepAll unknown_at (walk body)

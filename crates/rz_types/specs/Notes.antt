-- What the notes of a walk over a declaration tell: which names are known. (MPW Rez.)
use Rattle.std.specs.Prelude.{◌≡◌, Bool, true, false, ◌||◌, not, List, ◌++◌, Option, None, option_and_then}
use Rattle.std.specs.List.{find}
use Rattle.std.specs.Option.{is_some}
use Rattle.rz_expr.specs.Environment.{count_of, place_of, Key}
use Rattle.rz_expr.specs.Mention.{key_mentioned, mentions}
use Rattle.rz_expr.specs.Term.{Term}
use Rattle.rz_types_fields.specs.Field.{PlainBody, PlainField}
use Rattle.rz_types_fields.specs.Known.{met, met_noted, noted, Grew}
use Rattle.rz_types_fields.specs.Solve.{is_same_key}
use Rattle.rz_types_fields.specs.Passed.{at_field, is_known, met_behind, Names, Passed}
use Rattle.rz_types_fields.specs.declared.names.Note.{Note}
use Rattle.rz_types.specs.Readable.{is_known_there}
use Rattle.rz_types.specs.declared.passed.PassedNotes.{PassedNotes}

-- with this name told too
abbrev pub also_told : Key → Passed → Passed
also_told key passed = record { met = passed.met; told = λ other. is_same_key key other || passed.told other; near = passed.near }

-- with what a field gives met too
abbrev pub also_met : PlainField → Passed → Passed
also_met field passed = record { met = met_behind field passed.met; told = passed.told; near = passed.near }

-- what is passed after these notes: the one list says what is met, the other what is told
abbrev pub passed : PassedNotes → Passed
passed notes = record { met = met notes.met.items; told = λ key. is_some (noted None notes.told.items key); near = λ key. false }

-- at the first of these fields
abbrev pub passed_at : PlainBody → PassedNotes → Passed
passed_at fields notes = at_field fields (passed notes)

-- which names are known there
abbrev pub known : PlainBody → PassedNotes → Names
known fields notes = is_known (passed_at fields notes)

-- a number can tell the name: the place of a label, or how many rows an array has
abbrev pub may_be_told : Key → Bool
may_be_told (place_of name) = true
may_be_told (count_of name) = true
may_be_told key = false

-- notes were added at the end by which these names are met
abbrev pub Meets : Names → List Note → List Note → Type 0
Meets gives old new = (more : List Note) × (new ≡ old ++ more) × ((key : Key) (before : Bool) → met_noted before more key ≡ (gives key || before))

-- some were only added at the end of both lists
abbrev pub GrewBoth : PassedNotes → PassedNotes → Type 0
GrewBoth old new = Grew old.met.items new.met.items × Grew old.told.items new.told.items

-- both lists are the same
abbrev pub AreSame : PassedNotes → PassedNotes → Type 0
AreSame old new = (new.met.items ≡ old.met.items) × (new.told.items ≡ old.told.items)

-- the first name in an expression that isn't known, or isn't met where bits are asked for at it
abbrev pub first_unknown : (met known : Names) → Term → Option Key
first_unknown met known term = option_and_then key_mentioned (find (λ one. not (is_known_there met known one)) (mentions term))

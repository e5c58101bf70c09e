-- Late numbers as the code holds them: those of a body within that has names lie together, with the notes of these.
use Rattle.std.specs.Prelude.{List, [], ◌∷◌, ◌++◌, map}
use Rattle.rz_expr.specs.Environment.{Environment}
use Rattle.rz_expr.specs.Term.{term_of}
use Rattle.rz_layout.specs.declared.late.Late.{Late}
use Rattle.rz_layout.specs.declared.late.Late.TheFolds.{fold-Late}
use Rattle.rz_layout.specs.declared.late.Late.TheOpen.{Late-F}
use Rattle.rz_layout.specs.declared.late.LateNumber.{LateNumber as HeldNumber}
use Rattle.rz_types_fields.specs.Known.{noted}
use Rattle.rz_types_fields.specs.Laid.{LateNumber}
use Rattle.rz_types_fields.specs.declared.names.Note.{Note}

-- what names have after notes, by what they have before them
abbrev pub behind_notes : List Note → Environment → Environment
behind_notes notes outer = record { give = λ key. noted (outer.give key) notes key }

abbrev pub number_held : HeldNumber → LateNumber
number_held one = record { piece = one.piece; at = one.at; form = one.form; width = one.width; term = term_of one.term.now; names = λ names. names }

-- the late number of a body with these notes of its own names
abbrev pub closed_by : List Note → LateNumber → LateNumber
closed_by notes one = record {
  piece = one.piece;
  at = one.at;
  form = one.form;
  width = one.width;
  term = one.term;
  names = λ outer. one.names (behind_notes notes outer);
}

abbrev pub all_of : List (List LateNumber) → List LateNumber
all_of [] = []
all_of (numbers ∷ others) = numbers ++ all_of others

abbrev pub late_step : Late-F (List LateNumber) → List LateNumber
late_step (Late-F.Number one) = number_held one ∷ []
late_step (Late-F.Inside notes inner) = map (closed_by notes.items) (all_of inner)

abbrev pub numbers_of : Late → List LateNumber
numbers_of = fold-Late (List LateNumber) late_step

-- the late numbers, in order
abbrev pub numbers_in : List Late → List LateNumber
numbers_in lates = all_of (map numbers_of lates)

-- The pieces of a row in one list, and how they are drafted one after the other. (MPW Rez.)
use Rattle.std.specs.Prelude.{ℕ, ◌+◌, if◌then◌else◌, List, [], ◌∷◌, ◌++◌, Option, Some, None, Ok}
use Rattle.std.specs.declared.result.Result.{Result}
use Rattle.rz_core.specs.Stop.{◌>>=◌}
use Rattle.rz_core.specs.declared.facts.Facts.{Facts}
use Rattle.rz_expr.specs.Environment.{Environment}
use Rattle.rz_types_fields.specs.Field.{case_and, field_and, no_cases, no_fields, takes_value, Align, Array, Fill, Label, Number, PlainBody, PlainCases, PlainField, Points, Switch, Text}
use Rattle.rz_types_fields.specs.Laid.{behind_rows, enter, first_value, lay, leave, line_in, nothing_laid, other_values, rows_in, takes_one, Draft, Refusal}
use Rattle.rz_types_fields.specs.Piece.{pieces_of, Piece}
use Rattle.rz_types_fields.specs.RowLabels.{row_of, RowOf}
use Rattle.rz_types_fields.specs.Spells.{is_case, values_for}
use Rattle.rz_types_fields.specs.declared.tree.Tree.{Tree}

-- one step through a row: a piece with its value or none; the front of a body with its values, or its end, between which it has
-- names of its own; or the front of the rows of an array, or their end, after which the labels in them have places by the numbers
-- of the rows
pub data Step : Type 0 where
  Lays : (piece : Piece) (value : Option Tree) → Step
  Begins : (which : Option RowOf) (body : PlainBody) (values : List Tree) → Step
  Ends : (which : Option RowOf) (body : PlainBody) → Step
  BeginsRows : Step
  EndsRows : (row : PlainBody) → Step

-- The list.

-- pieces in order, each with the next value where it takes one
abbrev pub flat_pieces : List Piece → List Tree → List Step
flat_pieces [] values = []
flat_pieces (piece ∷ pieces) values = Lays piece (first_value (takes_one piece) values) ∷ flat_pieces pieces (other_values (takes_one piece) values)

-- the steps of a body between its front and its end
abbrev pub between : Option RowOf → PlainBody → List Tree → List Step → List Step
between which body values steps = Begins which body values ∷ (steps ++ Ends which body ∷ [])

-- those of an array
abbrev pub all_rows : PlainBody → List Step → List Step
all_rows row steps = BeginsRows ∷ (steps ++ EndsRows row ∷ [])

-- the steps of rows, one row after the other, of which the first has this number
abbrev pub flat_rows : (ℕ → List Tree → List Step) → ℕ → List (List Tree) → List Step
flat_rows row number [] = []
flat_rows row number (line ∷ lines) = row number line ++ flat_rows row (number + 1) lines

abbrev mutual
  -- the pieces of a field: an array is the pieces of its rows, and a switch those of the case that is chosen
  pub flat_field : PlainField → Option Tree → List Step
  flat_field (Number number) value = flat_pieces (pieces_of (Number number)) (values_for (Number number) value)
  flat_field (Text text) value = flat_pieces (pieces_of (Text text)) (values_for (Text text) value)
  flat_field (Points points) value = flat_pieces (pieces_of (Points points)) (values_for (Points points) value)
  flat_field (Fill unit count) value = flat_pieces (pieces_of (Fill unit count)) (values_for (Fill unit count) value)
  flat_field (Align unit) value = flat_pieces (pieces_of (Align unit)) (values_for (Align unit) value)
  flat_field (Label name) value = flat_pieces (pieces_of (Label name)) (values_for (Label name) value)
  flat_field (Array name count row) value =
      all_rows row (flat_rows (λ number line. between (row_of name number) row line (flat row line)) 1 (rows_in value))
  flat_field (Switch cases) value = flat_case cases value

  pub flat_case : PlainCases → Option Tree → List Step
  flat_case no_cases value = []
  flat_case (case_and name row others) value =
      if is_case name value then between None row (line_in value) (flat row (line_in value)) else flat_case others value

  -- the pieces of the fields of a body, each field with the next value where it takes one
  pub flat : PlainBody → List Tree → List Step
  flat no_fields values = []
  flat (field_and field fields) values =
      flat_field field (first_value (takes_value field) values) ++ flat fields (other_values (takes_value field) values)

-- the steps of a whole row
abbrev pub flat_row : PlainBody → List Tree → List Step
flat_row body row = between None body row (flat body row)

-- the number of pieces among steps
abbrev pub pieces_in : List Step → ℕ
pieces_in [] = 0
pieces_in (Lays piece value ∷ steps) = pieces_in steps + 1
pieces_in (Begins which body values ∷ steps) = pieces_in steps
pieces_in (Ends which body ∷ steps) = pieces_in steps
pieces_in (BeginsRows ∷ steps) = pieces_in steps
pieces_in (EndsRows row ∷ steps) = pieces_in steps

-- The drafts.

-- the draft of the innermost body, the drafts of the bodies around it as they were at its front and at theirs, the nearest first,
-- and what names had at the end of each row so far of the arrays that haven't ended, those of the nearest first
pub record Drafts : Type 0 where
  pub inner : Draft
  pub around : List Draft
  pub ends : List (List Environment)

abbrev pub nothing_drafted : Drafts
nothing_drafted = record { inner = nothing_laid; around = []; ends = [] }

-- so much of the innermost body, with the same bodies around it
abbrev pub within_bodies : Drafts → Draft → Drafts
within_bodies drafts inner = record { inner = inner; around = drafts.around; ends = drafts.ends }

-- with no body around it
abbrev pub alone : Result Draft Refusal → Result Drafts Refusal
alone laid = laid >>= λ draft. Ok (record { inner = draft; around = []; ends = [] })

-- a row of the nearest array ends with these names
abbrev pub and_end : Option RowOf → Environment → List (List Environment) → List (List Environment)
and_end None own ends = ends
and_end (Some row) own [] = []
and_end (Some row) own (nearest ∷ others) = (nearest ++ own ∷ []) ∷ others

-- the body around goes on after what is laid of the one within it
abbrev pub ended : Option RowOf → PlainBody → Draft → List Draft → List (List Environment) → Drafts
ended which body inner [] ends = record { inner = inner; around = []; ends = ends }
ended which body inner (outer ∷ others) ends = record { inner = leave which body outer inner; around = others; ends = and_end which inner.known ends }

-- after its rows an array ends
abbrev pub rows_ended : PlainBody → Draft → List Draft → List (List Environment) → Drafts
rows_ended row inner around [] = record { inner = inner; around = around; ends = [] }
rows_ended row inner around (nearest ∷ others) = record { inner = behind_rows row (record { draft = inner; ends = nearest }); around = around; ends = others }

abbrev pub step_drafted : Facts → Drafts → Step → Result Drafts Refusal
step_drafted known drafts (Lays piece value) = lay known drafts.inner piece value >>= λ next. Ok (within_bodies drafts next)
step_drafted known drafts (Begins which body values) =
    Ok (record { inner = enter which body values drafts.inner; around = drafts.inner ∷ drafts.around; ends = drafts.ends })
step_drafted known drafts (Ends which body) = Ok (ended which body drafts.inner drafts.around drafts.ends)
step_drafted known drafts BeginsRows = Ok (record { inner = drafts.inner; around = drafts.around; ends = [] ∷ drafts.ends })
step_drafted known drafts (EndsRows row) = Ok (rows_ended row drafts.inner drafts.around drafts.ends)

-- steps one after the other, or the refusal of the first piece that isn't laid
abbrev pub steps_drafted : Facts → Drafts → List Step → Result Drafts Refusal
steps_drafted known drafts [] = Ok drafts
steps_drafted known drafts (step ∷ steps) = step_drafted known drafts step >>= λ next. steps_drafted known next steps

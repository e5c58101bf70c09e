-- To lay a row is to draft the list of its steps.
use Rattle.std.proofs.Common.{◌≡◌, ℕ, ◌+◌, Bool, true, false, List, [], ◌∷◌, ◌++◌, Option, None, Result, Ok, Err, refl, sym, ap, ◌∙◌}
use Rattle.std.specs.Prelude.{if◌then◌else◌}
use Rattle.std.proofs.lemmas.List.{append_assoc, append-nil}
use Rattle.rz_core.specs.Stop.{◌>>=◌}
use Rattle.rz_core.specs.declared.facts.Facts.{Facts}
use Rattle.rz_expr.specs.Environment.{Environment}
use Rattle.rz_laws.specs.Flat.{all_rows, alone, and_end, between, flat, flat_case, flat_field, flat_pieces, flat_row, flat_rows, nothing_drafted, step_drafted, steps_drafted, Drafts, Ends, EndsRows, Step}
use Rattle.rz_types_fields.specs.Field.{case_and, field_and, no_cases, no_fields, takes_value, Align, Array, Fill, Label, Number, PlainBody, PlainCases, PlainField, Points, Switch, Text}
use Rattle.rz_types_fields.specs.Laid.{and_row, array_laid, behind_rows, body_laid, case_laid, ended_laid, enter, field_laid, first_value, in_order, inside_laid, lay, leave, line_in, nothing_laid, other_values, row_ended, row_laid, rows_in, rows_laid, takes_one, AllRows, Draft, Ended, Refusal}
use Rattle.rz_types_fields.specs.Piece.{pieces_of, Piece}
use Rattle.rz_types_fields.specs.RowLabels.{row_of, RowOf}
use Rattle.rz_types_fields.specs.Spells.{is_case, values_for}
use Rattle.rz_types_fields.specs.declared.tree.Tree.{Tree}

-- a draft with these around it, and with these ends of rows
abbrev pub with_around : List Draft → List (List Environment) → Draft → Drafts
with_around around ends draft = record { inner = draft; around = around; ends = ends }

abbrev pub kept_around : List Draft → List (List Environment) → Draft → Result Drafts Refusal
kept_around around ends draft = Ok (with_around around ends draft)

through : {X Y Z : Type 0} (first : Result X Refusal) (all : X → Result Z Refusal) (one : X → Result Y Refusal) (other : Y → Result Z Refusal)
    → ((x : X) → all x ≡ (one x >>= other)) → (first >>= all) ≡ ((first >>= one) >>= other)
through (Ok x) all one other each = each x
through (Err fault) all one other each = refl

across : {X Y Z W : Type 0} (first : Result X Refusal) (seen : X → Result Y Refusal) (all : Y → Result Z Refusal) (one : X → Result W Refusal) (other : W → Result Z Refusal)
    → ((x : X) → (seen x >>= all) ≡ (one x >>= other)) → ((first >>= seen) >>= all) ≡ ((first >>= one) >>= other)
across (Ok x) seen all one other each = each x
across (Err fault) seen all one other each = refl

module _ (known : Facts) where
  -- the steps of two lists, one list after the other
  pub parted : (front : List Step) (behind : List Step) (drafts : Drafts)
      → steps_drafted known drafts (front ++ behind) ≡ (steps_drafted known drafts front >>= λ next. steps_drafted known next behind)
  parted [] behind drafts = refl
  parted (step ∷ front) behind drafts =
      through (step_drafted known drafts step) (λ next. steps_drafted known next (front ++ behind)) (λ next. steps_drafted known next front)
      (λ next. steps_drafted known next behind) (λ next. parted front behind next)

  -- steps that lay so from any draft on, among any drafts around it
  abbrev Lays_so : List Step → (Draft → Result Draft Refusal) → Type 0
  Lays_so steps laid = (draft : Draft) (around : List Draft) (ends : List (List Environment)) → steps_drafted known (with_around around ends draft) steps ≡ (laid draft >>= kept_around around ends)

  one_and : (front behind : List Step) (one : Draft → Result Draft Refusal) (other : Draft → Result Draft Refusal) → Lays_so front one → Lays_so behind other
      → Lays_so (front ++ behind) (λ draft. one draft >>= other)
  one_and front behind one other first more draft around ends =
      parted front behind (with_around around ends draft)
      ∙ ap (λ (r : Result Drafts Refusal). r >>= λ next. steps_drafted known next behind) (first draft around ends)
      ∙ across (one draft) (kept_around around ends) (λ next. steps_drafted known next behind) other (kept_around around ends) (λ next. more next around ends)

  pieces_so : (pieces : List Piece) (values : List Tree) → Lays_so (flat_pieces pieces values) (λ draft. in_order takes_one (lay known) draft pieces values)
  pieces_so [] values draft around ends = refl
  pieces_so (piece ∷ pieces) values draft around ends =
      across (lay known draft piece (first_value (takes_one piece) values)) (kept_around around ends)
      (λ next. steps_drafted known next (flat_pieces pieces (other_values (takes_one piece) values)))
      (λ next. in_order takes_one (lay known) next pieces (other_values (takes_one piece) values)) (kept_around around ends)
      (λ next. pieces_so pieces (other_values (takes_one piece) values) next around ends)

  -- Bodies.

  -- a body ends with what its names have there
  abbrev pub ended_around : Option RowOf → List Draft → List (List Environment) → Ended → Result Drafts Refusal
  ended_around which around ends one = Ok (with_around around (and_end which one.own ends) one.draft)

  abbrev end_at : Option RowOf → PlainBody → Draft → Draft → Result Ended Refusal
  end_at which body draft next = Ok (record { draft = leave which body draft next; own = next.known })

  ended_so : (which : Option RowOf) (body : PlainBody) (values : List Tree) (steps : List Step) (laid : Draft → Result Draft Refusal) → Lays_so steps laid
      → (draft : Draft) (around : List Draft) (ends : List (List Environment))
      → steps_drafted known (with_around around ends draft) (between which body values steps) ≡ (ended_laid which body (λ inner line. laid inner) draft values >>= ended_around which around ends)
  ended_so which body values steps laid so draft around ends =
      parted steps (Ends which body ∷ []) (with_around (draft ∷ around) ends (enter which body values draft))
      ∙ ap (λ (r : Result Drafts Refusal). r >>= λ next. steps_drafted known next (Ends which body ∷ [])) (so (enter which body values draft) (draft ∷ around) ends)
      ∙ across (laid (enter which body values draft)) (kept_around (draft ∷ around) ends) (λ next. steps_drafted known next (Ends which body ∷ []))
      (end_at which body draft) (ended_around which around ends) (λ next. refl)

  case_row_so : (body : PlainBody) (values : List Tree) (steps : List Step) (laid : Draft → Result Draft Refusal) → Lays_so steps laid
      → Lays_so (between None body values steps) (λ draft. inside_laid None body (λ inner line. laid inner) draft values)
  case_row_so body values steps laid so draft around ends =
      ended_so None body values steps laid so draft around ends
      ∙ through (ended_laid None body (λ inner line. laid inner) draft values) (ended_around None around ends) (λ one. Ok one.draft) (kept_around around ends) (λ one. refl)

  -- Rows.

  -- after rows their ends stand behind those of the rows before them
  abbrev rows_around : List Draft → List Environment → List (List Environment) → AllRows → Result Drafts Refusal
  rows_around around nearest others rows = Ok (with_around around ((nearest ++ rows.ends) ∷ others) rows.draft)

  rows_so : (row : ℕ → List Tree → List Step) (laid : ℕ → Draft → List Tree → Result Ended Refusal)
      → ((number : ℕ) (line : List Tree) (draft : Draft) (around : List Draft) (nearest : List Environment) (others : List (List Environment))
      → steps_drafted known (with_around around (nearest ∷ others) draft) (row number line) ≡ (laid number draft line >>= λ one. Ok (with_around around ((nearest ++ one.own ∷ []) ∷ others) one.draft)))
      → (number : ℕ) (lines : List (List Tree)) (draft : Draft) (around : List Draft) (nearest : List Environment) (others : List (List Environment))
      → steps_drafted known (with_around around (nearest ∷ others) draft) (flat_rows row number lines) ≡ (rows_laid laid number draft lines >>= rows_around around nearest others)
  rows_so row laid so number [] draft around nearest others = ap (λ (ends : List Environment). Ok (with_around around (ends ∷ others) draft)) (sym (append-nil nearest))
  rows_so row laid so number (line ∷ lines) draft around nearest others =
      parted (row number line) (flat_rows row (number + 1) lines) (with_around around (nearest ∷ others) draft)
      ∙ ap (λ (r : Result Drafts Refusal). r >>= λ next. steps_drafted known next (flat_rows row (number + 1) lines)) (so number line draft around nearest others)
      ∙ across (laid number draft line) (λ one. Ok (with_around around ((nearest ++ one.own ∷ []) ∷ others) one.draft)) (λ next. steps_drafted known next (flat_rows row (number + 1) lines))
      (λ one. rows_laid laid (number + 1) one.draft lines >>= λ more. Ok (and_row one more)) (rows_around around nearest others)
      (λ one. rows_so row laid so (number + 1) lines one.draft around (nearest ++ one.own ∷ []) others
      ∙ through (rows_laid laid (number + 1) one.draft lines) (rows_around around (nearest ++ one.own ∷ []) others) (λ more. Ok (and_row one more)) (rows_around around nearest others)
      (λ more. λ i. Ok (with_around around (append_assoc nearest (one.own ∷ []) more.ends i ∷ others) more.draft)))

  array_so : (row : ℕ → List Tree → List Step) (laid : ℕ → Draft → List Tree → Result Ended Refusal)
      → ((number : ℕ) (line : List Tree) (draft : Draft) (around : List Draft) (nearest : List Environment) (others : List (List Environment))
      → steps_drafted known (with_around around (nearest ∷ others) draft) (row number line) ≡ (laid number draft line >>= λ one. Ok (with_around around ((nearest ++ one.own ∷ []) ∷ others) one.draft)))
      → (body : PlainBody) (lines : List (List Tree)) → Lays_so (all_rows body (flat_rows row 1 lines)) (array_laid laid body lines)
  array_so row laid so body lines draft around ends =
      parted (flat_rows row 1 lines) (EndsRows body ∷ []) (with_around around ([] ∷ ends) draft)
      ∙ ap (λ (r : Result Drafts Refusal). r >>= λ next. steps_drafted known next (EndsRows body ∷ [])) (rows_so row laid so 1 lines draft around [] ends)
      ∙ across (rows_laid laid 1 draft lines) (rows_around around [] ends) (λ next. steps_drafted known next (EndsRows body ∷ [])) (λ rows. Ok (behind_rows body rows)) (kept_around around ends)
      (λ rows. refl)

  either_so : (test : Bool) (one other : List Step) (laid or : Draft → Result Draft Refusal) → Lays_so one laid → Lays_so other or
      → Lays_so (if test then one else other) (λ draft. if test then laid draft else or draft)
  either_so true one other laid or so more = so
  either_so false one other laid or so more = more

  mutual
    field_so : (field : PlainField) (value : Option Tree) → Lays_so (flat_field field value) (λ draft. field_laid known draft field value)
    field_so (Number number) value = pieces_so (pieces_of (Number number)) (values_for (Number number) value)
    field_so (Text text) value = pieces_so (pieces_of (Text text)) (values_for (Text text) value)
    field_so (Points points) value = pieces_so (pieces_of (Points points)) (values_for (Points points) value)
    field_so (Fill unit count) value = pieces_so (pieces_of (Fill unit count)) (values_for (Fill unit count) value)
    field_so (Align unit) value = pieces_so (pieces_of (Align unit)) (values_for (Align unit) value)
    field_so (Label name) value = pieces_so (pieces_of (Label name)) (values_for (Label name) value)
    field_so (Array name count row) value =
        array_so (λ number line. between (row_of name number) row line (flat row line)) (λ number. row_ended known (row_of name number) row)
        (λ number line draft around nearest others. ended_so (row_of name number) row line (flat row line) (λ draft. body_laid known draft row line) (body_so row line) draft around (nearest ∷ others))
        row (rows_in value)
    field_so (Switch cases) value = case_so cases value

    case_so : (cases : PlainCases) (value : Option Tree) → Lays_so (flat_case cases value) (λ draft. case_laid known draft cases value)
    case_so no_cases value = λ draft around ends. refl
    case_so (case_and name row others) value =
        either_so (is_case name value) (flat_row row (line_in value)) (flat_case others value) (λ draft. row_laid known None row draft (line_in value)) (λ draft. case_laid known draft others value)
        (case_row_so row (line_in value) (flat row (line_in value)) (λ draft. body_laid known draft row (line_in value)) (body_so row (line_in value)))
        (case_so others value)

    body_so : (body : PlainBody) (values : List Tree) → Lays_so (flat body values) (λ draft. body_laid known draft body values)
    body_so no_fields values = λ draft around ends. refl
    body_so (field_and field fields) values =
        one_and (flat_field field (first_value (takes_value field) values)) (flat fields (other_values (takes_value field) values))
        (λ draft. field_laid known draft field (first_value (takes_value field) values))
        (λ draft. body_laid known draft fields (other_values (takes_value field) values))
        (field_so field (first_value (takes_value field) values)) (body_so fields (other_values (takes_value field) values))

  pub row_drafted : (body : PlainBody) (row : List Tree) → steps_drafted known nothing_drafted (flat_row body row) ≡ alone (row_laid known None body nothing_laid row)
  row_drafted body row = case_row_so body row (flat body row) (λ draft. body_laid known draft body row) (body_so body row) nothing_laid [] []

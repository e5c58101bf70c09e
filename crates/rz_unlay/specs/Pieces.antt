-- What stands at a place as a piece of whatever kind, and as all pieces of a field. (Inside Macintosh: More Macintosh Toolbox,
-- Resource Manager; MPW Rez.)
use Rattle.std.specs.Prelude.{ℕ, ◌+◌, ◌*◌, false, ◌||◌, if◌then◌else◌, List, [], ◌∷◌, length, Option, Some, None, option_and_then, option_map}
use Rattle.rz_expr.specs.Environment.{Environment}
use Rattle.rz_expr.specs.Term.{Term}
use Rattle.rz_bits.specs.BitBuf.{missing}
use Rattle.rz_types_fields.specs.declared.field.TextForm.{TextForm}
use Rattle.rz_types_fields.specs.Field.{PlainField, PlainText, Points}
use Rattle.rz_types_fields.specs.Passed.{is_label, Names}
use Rattle.rz_types_fields.specs.Piece.{pieces_of, terms_of_text, Filler, OneNumber, OneText, Piece, Place, Zeros}
use Rattle.rz_types_fields.specs.Sees.{Late}
use Rattle.rz_types_fields.specs.Spells.{is_one_late, put}
use Rattle.rz_types_fields.specs.Text.{PlainPart}
use Rattle.rz_types_fields.specs.Width.{fixed_widths}
use Rattle.rz_types_fields.specs.declared.tree.Tree.{out-Tree, Tree}
use Rattle.rz_types_fields.specs.declared.tree.Tree.TheOpen.{Tree-F}
use Rattle.rz_types_fields.specs.declared.tree.Tree.TheVariants as trees
use Rattle.rz_unlay_pieces.specs.Ahead.{open_size, told_label}
use Rattle.rz_unlay_pieces.specs.Pieces.{label_step, late_behind, number_step, seen_at, zeros_step, Here, Step}
use Rattle.rz_unlay_texts.specs.Texts.{size_read, text_size, text_value}

-- Texts.

-- how many bytes an open text has there
abbrev pub room : Here → Environment → ℕ → Option ℕ
room here names at = open_size (length here.all) (told_label (length here.all) here.rest names) (fixed_widths here.rest) at

-- how many bytes the stored form of a text has there
abbrev pub size_here : Here → Environment → TextForm → Option ℕ → Option (List PlainPart) → ℕ → Option ℕ
size_here here names form size fixed at = text_size here.known (seen_at here names at) here.all (room here names at) form size fixed at

-- a text whose stored form has so many bytes
abbrev pub sized_step : Here → PlainText → Option ℕ → Environment → ℕ → Late → ℕ → Option Step
sized_step here text size names at late count =
    option_map (λ value. record { value = value; after = at + 8 * count; names = names; late = late_behind late (8 * count) false })
    (text_value here.known (seen_at here names at) here.all text size count at)

-- a text of this size
abbrev pub sized_text : Here → PlainText → Option ℕ → Environment → ℕ → Late → Option Step
sized_text here text size names at late = option_and_then (sized_step here text size names at late) (size_here here names text.form size text.fixed at)

-- a text none of whose expressions is late
abbrev pub early_text : Here → PlainText → Environment → ℕ → Late → Option Step
early_text here text names at late =
    option_and_then (λ size. sized_text here text size names at late) (size_read text.form text.size (seen_at here names at))

abbrev pub text_step : Here → PlainText → Environment → ℕ → Late → Option Step
text_step here text names at late =
    if is_one_late here.met late (terms_of_text text) (seen_at here names at) then None else early_text here text names at late

-- Pieces.

abbrev pub piece_step : Here → Piece → Environment → ℕ → Late → Option Step
piece_step here (OneNumber number) names at late = number_step here number.form number.width number.fixed names at late
piece_step here (OneText text) names at late = text_step here text names at late
piece_step here (Zeros count) names at late = zeros_step here.all count names at late
piece_step here (Filler unit) names at late = zeros_step here.all (missing unit at) names at late
piece_step here (Place name) names at late = label_step name names at late

-- Pieces in order.

-- what is read of pieces or of a body: its row, the place after it, and what is known there of names and of late bits
pub record Found : Type 0 where
  pub row : List Tree
  pub after : ℕ
  pub names : Environment
  pub late : Late

abbrev pub with_value : Option Tree → Option Found → Option Found
with_value value found = option_map (λ f. record { row = put value f.row; after = f.after; names = f.names; late = f.late }) found

abbrev pub pieces_found : Here → List Piece → Environment → ℕ → Late → Option Found
pieces_found here [] names at late = Some (record { row = []; after = at; names = names; late = late })
pieces_found here (piece ∷ pieces) names at late =
    option_and_then (λ step. with_value step.value (pieces_found here pieces step.names step.after step.late)) (piece_step here piece names at late)

-- the value of a field of pieces: of a point or a rectangle its numbers as one
abbrev pub number_of_value : Tree-F Tree → ℕ
number_of_value (Tree-F.Number number) = number
number_of_value value = 0

abbrev pub numbers_of_values : List Tree → List ℕ
numbers_of_values [] = []
numbers_of_values (value ∷ values) = number_of_value (out-Tree value) ∷ numbers_of_values values

abbrev pub grouped : Option (List Term) → List Tree → Option Tree
grouped None values = Some (trees.Group (numbers_of_values values))
grouped (Some terms) values = None

abbrev pub first_of_row : List Tree → Option Tree
first_of_row [] = None
first_of_row (value ∷ values) = Some value

abbrev pub value_of_field : PlainField → List Tree → Option Tree
value_of_field (Points points) values = grouped points.fixed values
value_of_field field values = first_of_row values

abbrev pub field_of_pieces : Here → PlainField → Environment → ℕ → Late → Option Step
field_of_pieces here field names at late =
    option_map (λ f. record { value = value_of_field field f.row; after = f.after; names = f.names; late = f.late }) (pieces_found here (pieces_of field) names at late)

-- Labels that are met.

-- after the pieces of a field that is a label it is met
abbrev pub met_past : PlainField → Names → Names
met_past field met key = is_label field key || met key

-- What the calls of the reader give, as the definitions see it.
use Rattle.std.specs.Prelude.{◌≡◌, ℕ, Bool, List, Option, Some, None, option_map}
use Rattle.rz_core.specs.declared.facts.Facts.{Facts}
use Rattle.rz_core.specs.declared.resource.Word.{Word}
use Rattle.rz_expr.specs.Environment.{Environment}
use Rattle.rz_types_fields.specs.declared.tree.Tree.TheVariants as trees
use Rattle.rz_types_fields.specs.declared.field.ArrayField.{ArrayField}
use Rattle.rz_types_fields.specs.declared.field.Field.TheViews.{out-ArrayField}
use Rattle.rz_types.specs.Field.{plain_body, PlainBody}
use Rattle.rz_types_fields.specs.Passed.{met_inside, Names}
use Rattle.rz_types_fields.specs.Sees.{marked, Late}
use Rattle.rz_unlay.specs.Cursor.{body_found, line_of, Line, Lines, ReadsRow}
use Rattle.rz_unlay_pieces.specs.declared.learnt.Learnt.{Learnt}
use Rattle.rz_unlay.specs.Pieces.{Found}
use Rattle.rz_unlay_pieces.specs.Pieces.{Step}
use Rattle.rz_types_fields.specs.FlatRows.{AllPlacesAre, PlacesAre}
use Rattle.rz_types_fields.specs.Front.{names_inside}
use Rattle.rz_types_fields.specs.Known.{known}
use Rattle.rz_types_fields.specs.RowLabels.{row_of, RowOf}
use Rattle.rz_unlay.specs.declared.came.RowCame.{RowCame}
use Rattle.rz_unlay.specs.declared.came.RowsCame.{RowsCame}

-- the row of a body, where so much is known after it
abbrev pub found_of : Learnt → RowCame → Found
found_of learnt came = record { row = came.row; after = came.after; names = known learnt.notes.items; late = marked came.after learnt.marks }

-- a row that came, where names have these values at its end
abbrev pub line_in : List Bool → RowCame → Environment → Line
line_in marks came own = record { row = came.row; own = own; after = came.after; late = marked came.after marks }

-- rows that came, where names have these values at the end of each
abbrev pub lines_in : List Bool → RowsCame → List Environment → Lines
lines_in marks came ends = record { rows = came.rows; ends = ends; after = came.after; late = marked came.after marks }

-- a row came where one is found, with the places of the labels that stand directly in it
abbrev pub IsLine : PlainBody → List Bool → Option RowCame → Option Line → Type 0
IsLine body marks None found = None ≡ found
IsLine body marks (Some came) found = (own : Environment) × (Some (line_in marks came own) ≡ found) × PlacesAre own body came.places.items

-- rows came where they are found, with the places of the labels in each
abbrev pub AreLines : PlainBody → List Bool → Option RowsCame → Option Lines → Type 0
AreLines body marks None found = None ≡ found
AreLines body marks (Some came) found = (ends : List Environment) × (Some (lines_in marks came ends) ≡ found) × AllPlacesAre body ends came.places.items

-- the row of a body within, from a place on, where so much is met and known outside of it
abbrev pub line_at : Facts → List Bool → Option RowOf → PlainBody → Names → Environment → ℕ → Late → Option Line
line_at facts all which body met names place late = line_of (body_found facts all (met_inside body met) body (names_inside which body names) place late)

-- a row of the array of this name
abbrev pub row_at : Facts → List Bool → Option Word → PlainBody → Names → Environment → ReadsRow
row_at facts all name body met names number place late = line_at facts all (row_of name number) body met names place late

-- the fields of its rows
abbrev pub row_body : ArrayField → PlainBody
row_body array = plain_body (out-ArrayField array).row

abbrev pub array_row : Facts → List Bool → ArrayField → Names → Environment → ReadsRow
array_row facts all array met names = row_at facts all (out-ArrayField array).name (row_body array) met names

-- a row as the value of a switch
abbrev pub chosen : Word → Environment → Option Line → Option Step
chosen name names line = option_map (λ l. record { value = Some (trees.Choice name l.row); after = l.after; names = names; late = l.late }) line

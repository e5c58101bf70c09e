-- Pieces: as what fields are laid that have no fields within them; and the expressions of texts. (MPW Rez.)
use Rattle.std.specs.Prelude.{ℕ, ◌*◌, pos, nat_abs, Bool, false, List, [], ◌∷◌, ◌++◌, map, replicate, Option, Some, None}
use Rattle.std.specs.Option.{option_to_list}
use Rattle.rz_core.specs.declared.resource.Word.{Word}
use Rattle.rz_expr.specs.Term.{Term}
use Rattle.rz_types_fields.specs.Field.{Align, Array, Fill, Label, Number, PlainField, PlainNumber, PlainText, Points, Switch, Text}
use Rattle.rz_types_fields.specs.Shape.{numbers_of}
use Rattle.rz_types_fields.specs.Text.{text_terms, PlainPart}
use Rattle.rz_types_fields.specs.declared.field.NumForm.TheVariants.{Integer}
use Rattle.rz_types_fields.specs.declared.field.Radix.TheVariants as radixes

-- what is laid without a cut within it: a number, a text, so many zero bits, zero bits to the next multiple of a unit, or no
-- bits at a place that has a name
pub data Piece : Type 0 where
  OneNumber : (number : PlainNumber) → Piece
  OneText : (text : PlainText) → Piece
  Zeros : (count : ℕ) → Piece
  Filler : (unit : ℕ) → Piece
  Place : (name : Word) → Piece

-- a number of a point or a rectangle is an `integer`
abbrev pub integer : Option Term → PlainNumber
integer fixed = record { form = Integer; width = pos 16; unsigned = false; radix = radixes.Plain; symbols = []; fixed = fixed; key = false }

abbrev pub free_integer : Piece
free_integer = OneNumber (integer None)

abbrev pub fixed_integer : Term → Piece
fixed_integer term = OneNumber (integer (Some term))

-- those of a point or a rectangle: of the row, or of its expressions
abbrev pub integers : Bool → Option (List Term) → List Piece
integers rect None = replicate (numbers_of rect) free_integer
integers rect (Some terms) = map fixed_integer terms

-- the pieces of a field that has no fields within it
abbrev pub pieces_of : PlainField → List Piece
pieces_of (Number number) = OneNumber number ∷ []
pieces_of (Text text) = OneText text ∷ []
pieces_of (Points points) = integers points.rect points.fixed
pieces_of (Fill unit count) = Zeros (unit * nat_abs count) ∷ []
pieces_of (Align unit) = Filler unit ∷ []
pieces_of (Label name) = Place name ∷ []
pieces_of (Array name count row) = []
pieces_of (Switch cases) = []

-- Expressions.

-- the expressions of a text: its size, and the numbers of the formats in its fixed parts
abbrev pub fixed_terms : Option (List PlainPart) → List Term
fixed_terms None = []
fixed_terms (Some parts) = text_terms parts

abbrev pub terms_of_text : PlainText → List Term
terms_of_text text = option_to_list text.size ++ fixed_terms text.fixed

abbrev pub points_terms : Option (List Term) → List Term
points_terms None = []
points_terms (Some terms) = terms

-- the expressions of a field, as they are written: the size of a text stands before the formats in it
abbrev pub expressions_of : PlainField → List Term
expressions_of (Number number) = option_to_list number.fixed
expressions_of (Text text) = terms_of_text text
expressions_of (Points points) = points_terms points.fixed
expressions_of field = []

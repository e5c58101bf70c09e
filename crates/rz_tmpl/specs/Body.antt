-- The fields that the entries of a template are.
use Rattle.std.specs.Prelude.{ℕ, ◌+◌, pos, ℤ, Bool, true, false, if◌then◌else◌, [], ◌∷◌, Some, None}
use Rattle.rz_core.specs.Decimal.{decimal_of}
use Rattle.rz_core.specs.declared.resource.Word as names
use Rattle.rz_expr.specs.Term.{Constant, OfTwo, RowsOf, Term}
use Rattle.rz_expr.specs.declared.expr.BinaryOp.TheVariants.{Minus}
use Rattle.rz_tmpl.specs.Items.{count, list, none, one, Items}
use Rattle.rz_tmpl.specs.declared.entry.CountForm.{CountForm}
use Rattle.rz_tmpl.specs.declared.entry.CountForm.TheVariants.{LessOne, Rows}
use Rattle.rz_tmpl.specs.declared.entry.ListForm.TheVariants.{Counted, Uncounted}
use Rattle.rz_tmpl.specs.declared.entry.Plain.{Plain}
use Rattle.rz_tmpl.specs.declared.entry.Plain.TheVariants as plain
use Rattle.rz_tmpl.specs.declared.entry.Size.{Size}
use Rattle.rz_tmpl.specs.declared.entry.Size.TheVariants.{Byte, Long, Word}
use Rattle.rz_types_fields.specs.Field.{field_and, no_fields, Align, Array, Fill, Number, PlainBody, PlainField, Points, Text}
use Rattle.rz_types_fields.specs.declared.field.NumForm.{NumForm}
use Rattle.rz_types_fields.specs.declared.field.NumForm.TheVariants as forms
use Rattle.rz_types_fields.specs.declared.field.Radix.{Radix}
use Rattle.rz_types_fields.specs.declared.field.Radix.TheVariants as radixes
use Rattle.rz_types_fields.specs.declared.field.TextForm.{TextForm}
use Rattle.rz_types_fields.specs.declared.field.TextForm.TheVariants as texts

-- Fields.

abbrev pub free : NumForm → ℤ → Radix → PlainField
free form width radix = Number (record { form = form; width = width; unsigned = false; radix = radix; symbols = []; fixed = None; key = false })

abbrev pub radix_of : (hex : Bool) → Radix
radix_of hex = if hex then radixes.Hex else radixes.Plain

abbrev pub form_of : Size → NumForm
form_of Byte = forms.Byte
form_of Word = forms.Integer
form_of Long = forms.Longint

-- how many bits they are
abbrev pub bits_of : Size → ℕ
bits_of Byte = 8
bits_of Word = 16
bits_of Long = 32

abbrev pub text_of : TextForm → (hex : Bool) → PlainField
text_of form hex = Text (record { form = form; hex = hex; size = None; fixed = None })

abbrev pub field_of : Plain → PlainField
field_of (plain.Number size hex) = free (form_of size) (pos (bits_of size)) (radix_of hex)
field_of plain.Character = free forms.Char (pos 8) radixes.Plain
field_of plain.TypeName = free forms.Longint (pos 32) radixes.Literal
field_of plain.Rectangle = Points (record { rect = true; fixed = None })
field_of (plain.Zeros size) = Fill (bits_of size) (pos 1)
field_of (plain.Aligned size) = Align (bits_of size)
field_of plain.Pascal = text_of texts.Pascal false
field_of plain.ZeroEnded = text_of texts.Zero false
field_of plain.Rest = text_of texts.Open true

-- Lists.

-- how many counted lists stand in a body
abbrev pub lists_of : Items → ℕ
lists_of none = 0
lists_of (one plain rest) = lists_of rest
lists_of (count form rest) = lists_of rest
lists_of (list Counted row rest) = 1 + (lists_of row + lists_of rest)
lists_of (list Uncounted row rest) = lists_of row + lists_of rest

-- the number of the next counted list of the body itself, where the next of all has this number
abbrev pub next_named : ℕ → Items → ℕ
next_named number none = number
next_named number (one plain rest) = next_named number rest
next_named number (count form rest) = next_named number rest
next_named number (list Counted row rest) = number
next_named number (list Uncounted row rest) = next_named (number + lists_of row) rest

-- `L` and the number
abbrev pub list_name : ℕ → names.Word
list_name number = record { bytes = 76 ∷ decimal_of number }

-- the number of its rows, or that number less one
abbrev pub rows_term : CountForm → ℕ → Term
rows_term Rows number = RowsOf (list_name number).bytes
rows_term LessOne number = OfTwo Minus (RowsOf (list_name number).bytes) (Constant (pos 1))

abbrev pub count_field : CountForm → ℕ → PlainField
count_field stored number = Number (record { form = forms.Integer; width = pos 16; unsigned = false; radix = radixes.Plain; symbols = []; fixed = Some (rows_term stored number); key = false })

-- Bodies.

-- the fields of items, where the next counted list has this number: counted lists are numbered in the order in which
-- they begin, and a count is that of the next one of its own body
abbrev pub body_from : ℕ → Items → PlainBody
body_from number none = no_fields
body_from number (one plain rest) = field_and (field_of plain) (body_from number rest)
body_from number (count form rest) = field_and (count_field form (next_named number rest)) (body_from number rest)
body_from number (list Counted row rest) =
    field_and (Array (Some (list_name number)) None (body_from (number + 1) row)) (body_from (number + 1 + lists_of row) rest)
body_from number (list Uncounted row rest) = field_and (Array None None (body_from number row)) (body_from (number + lists_of row) rest)

-- lists are numbered from 1
abbrev pub tmpl_body : Items → PlainBody
tmpl_body items = body_from 1 items

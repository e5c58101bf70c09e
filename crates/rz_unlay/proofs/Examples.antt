use Rattle.std.proofs.Common.{◌≡◌, refl, ℕ, ℤ, pos, List, [], ◌∷◌, ◌++◌, Option, Some, None, true, false}
use Rattle.std.specs.Prelude.{codes, map, option_map, replicate}
use Rattle.rz_core.specs.declared.facts.Facts.{Facts}
use Rattle.rz_core.specs.declared.resource.Word.{Word}
use Rattle.rz_expr.specs.Term.{BitsAt, Constant, Indexed, Named, OfTwo, RowNumber, RowsOf, Term}
use Rattle.rz_expr.specs.declared.expr.BinaryOp.TheVariants as two
use Rattle.std.specs.Int.{int_wrap}
use Rattle.rz_bits.specs.Bits.{bits_of, number_bits}
use Rattle.rz_types.specs.Passed.{at_front, nothing_passed, outside}
use Rattle.rz_expr.specs.Environment.{place_key}
use Rattle.rz_types_fields.specs.Sees.{Late}
use Rattle.rz_unlay.specs.Cursor.{body_found, reading}
use Rattle.rz_types_fields.specs.Front.{names_inside}
use Rattle.rz_types_fields.specs.declared.field.NumForm.TheVariants as forms
use Rattle.rz_types_fields.specs.declared.field.Radix.TheVariants as radixes
use Rattle.rz_types_fields.specs.declared.field.TextForm.TheVariants as texts
use Rattle.rz_types_fields.specs.declared.tree.Tree.{Tree}
use Rattle.rz_types_fields.specs.declared.tree.Tree.TheVariants as trees
use Rattle.rz_types.specs.Field.{case_and, field_and, no_cases, no_fields, Array, Label, Number, PlainBody, PlainField, Switch, Text}
use Rattle.rz_types.specs.Text.{Plain}

-- a row, the places of the labels that stand directly in it, the place after it, and its late bits
record Shown : Type 0 where
  row : List Tree
  places : List (Option ℤ)
  after : ℕ
  late : Late

abbrev labels_of : PlainBody → List (List ℕ)
labels_of no_fields = []
labels_of (field_and (Label name) fields) = name.bytes ∷ labels_of fields
labels_of (field_and field fields) = labels_of fields

abbrev read : Facts → PlainBody → List ℕ → Option Shown
read known body bytes =
    option_map (λ f. record { row = f.row; places = map (λ label. f.names.give (place_key label)) (labels_of body); after = f.after; late = f.late })
    (body_found known (bits_of bytes) (at_front body nothing_passed).met body (names_inside None body outside) 0 [])

-- so where no bit is late
abbrev line_with : List ℤ → List Tree → ℕ → Option Shown
line_with places row after = Some (record { row = row; places = map (λ place. Some place) places; after = after; late = replicate after false })

-- so without labels
abbrev line : List Tree → ℕ → Option Shown
line = line_with []

abbrev number : Option Term → PlainField
number fixed = Number (record { form = forms.Integer; width = pos 16; unsigned = false; radix = radixes.Plain; symbols = []; fixed = fixed; key = false })

abbrev key : ℤ → PlainField
key value = Number (record { form = forms.Byte; width = pos 8; unsigned = false; radix = radixes.Plain; symbols = []; fixed = Some (Constant value); key = true })

abbrev pstring : PlainField
pstring = Text (record { form = texts.Pascal; hex = false; size = None; fixed = None })

abbrev open_text : PlainField
open_text = Text (record { form = texts.Open; hex = false; size = None; fixed = None })

abbrev word : List ℕ → Word
word name = record { bytes = name }

abbrev named : List ℕ → PlainField → PlainField
named name field = Array (Some (word name)) None (field_and field no_fields)

abbrev list_of_strings : PlainBody
list_of_strings = field_and (number (Some (RowsOf (codes "Strings")))) (field_and (named (codes "strings") pstring) no_fields)

strings : (known : Facts) → read known list_of_strings (0 ∷ 2 ∷ 1 ∷ 65 ∷ 0 ∷ [])
    ≡ line (trees.Rows ((trees.Text (65 ∷ []) ∷ []) ∷ (trees.Text [] ∷ []) ∷ []) ∷ []) 40
unfolding number_bits int_wrap
strings known = refl

abbrev dialog : PlainBody
dialog = field_and (number (Some (OfTwo two.Minus (RowsOf (codes "Parts")) (Constant (pos 1)))))
    (field_and (named (codes "Parts")
    (Switch (case_and (word (codes "A")) (field_and (key (pos 4)) (field_and pstring no_fields)) (case_and (word (codes "B")) (field_and (key (pos 0)) no_fields) no_cases)))) no_fields)

empty : (known : Facts) → read known dialog (255 ∷ 255 ∷ []) ≡ line (trees.Rows [] ∷ []) 16
unfolding number_bits int_wrap
empty known = refl

two_parts : (known : Facts) → read known dialog (0 ∷ 1 ∷ 0 ∷ 4 ∷ 1 ∷ 66 ∷ [])
    ≡ line (trees.Rows ((trees.Choice (word (codes "B")) [] ∷ []) ∷ (trees.Choice (word (codes "A")) (trees.Text (66 ∷ []) ∷ []) ∷ []) ∷ []) ∷ []) 48
unfolding number_bits int_wrap
two_parts known = refl

to_the_end : (known : Facts) → read known (field_and open_text (field_and (number None) no_fields)) (65 ∷ 66 ∷ 1 ∷ 2 ∷ [])
    ≡ line (trees.Text (65 ∷ 66 ∷ []) ∷ trees.Number 258 ∷ []) 32
unfolding number_bits int_wrap
to_the_end known = refl

abbrev fixed_text : List ℕ → PlainField
fixed_text bytes = Text (record { form = texts.Zero; hex = false; size = None; fixed = Some (Plain bytes ∷ []) })

-- a fixed text has its own length, also where a zero byte stands within it
zero_within : (known : Facts) → read known (field_and (fixed_text (97 ∷ 0 ∷ 98 ∷ [])) (field_and (number None) no_fields)) (97 ∷ 0 ∷ 98 ∷ 0 ∷ 1 ∷ 2 ∷ [])
    ≡ line (trees.Number 258 ∷ []) 48
unfolding number_bits int_wrap
zero_within known = refl

-- Labels.

abbrev label : List ℕ → PlainField
label name = Label (word name)

abbrev place : List ℕ → Term
place name = Named name

-- the distance from one label to another in bytes
abbrev bytes_to : List ℕ → List ℕ → Term
bytes_to end start = OfTwo two.Divide (OfTwo two.Minus (place end) (place start)) (Constant (pos 8))

abbrev zero_ended : PlainField
zero_ended = Text (record { form = texts.Zero; hex = false; size = None; fixed = None })

abbrev byte : Option Term → PlainField
byte fixed = Number (record { form = forms.Byte; width = pos 8; unsigned = false; radix = radixes.Plain; symbols = []; fixed = fixed; key = false })

-- a label that is passed
behind_text : (known : Facts) → read known (field_and zero_ended (field_and (label (codes "e")) (field_and (number (Some (place (codes "E")))) no_fields)))
    (103 ∷ 111 ∷ 114 ∷ 102 ∷ 0 ∷ 0 ∷ 40 ∷ []) ≡ line_with (pos 40 ∷ []) (trees.Text (codes "gorf") ∷ []) 56
unfolding number_bits int_wrap
behind_text known = refl

-- a number tells where a text ends, a label after it
abbrev ends : PlainBody
ends = field_and (number (Some (bytes_to (codes "e") (codes "s"))))
    (field_and (label (codes "s")) (field_and open_text (field_and (label (codes "e")) (field_and (number None) no_fields))))

text_to_a_label : (known : Facts) → read known ends (0 ∷ 2 ∷ 1 ∷ 2 ∷ 0 ∷ 5 ∷ []) ≡ Some (record {
  row = trees.Text (1 ∷ 2 ∷ []) ∷ trees.Number 5 ∷ [];
  places = Some (pos 16) ∷ Some (pos 32) ∷ [];
  after = 48;
  late = replicate 16 true ++ replicate 32 false;
})
unfolding number_bits int_wrap
text_to_a_label known = refl

-- then what stands after it isn't there
text_too_long : (known : Facts) → read known ends (0 ∷ 3 ∷ 1 ∷ 2 ∷ 0 ∷ 5 ∷ []) ≡ None
unfolding number_bits int_wrap
text_too_long known = refl

-- rows end there too
rows_to_a_label : (known : Facts)
    → read known
    (field_and (number (Some (bytes_to (codes "e") (codes "s"))))
    (field_and (label (codes "s")) (field_and (Array None None (field_and (byte None) no_fields)) (field_and (label (codes "e")) (field_and (byte (Some (Constant (pos 7)))) no_fields)))))
    (0 ∷ 3 ∷ 1 ∷ 0 ∷ 2 ∷ 7 ∷ []) ≡ Some (record {
      row = trees.Rows ((trees.Number 1 ∷ []) ∷ (trees.Number 0 ∷ []) ∷ (trees.Number 2 ∷ []) ∷ []) ∷ [];
      places = Some (pos 16) ∷ Some (pos 40) ∷ [];
      after = 48;
      late = replicate 16 true ++ replicate 32 false;
    })
unfolding number_bits int_wrap
rows_to_a_label known = refl

-- a size that is read from the bits before
size_by_word : (known : Facts)
    → read known
    (field_and (label (codes "n"))
    (field_and (number None)
    (field_and (label (codes "s")) (field_and (Text (record { form = texts.Open; hex = false; size = Some (BitsAt (codes "n") (Constant (pos 0)) (Constant (pos 16))); fixed = None })) no_fields))))
    (0 ∷ 3 ∷ 97 ∷ 98 ∷ 99 ∷ []) ≡ line_with (pos 0 ∷ pos 16 ∷ []) (trees.Number 3 ∷ trees.Text (codes "abc") ∷ []) 40
unfolding number_bits int_wrap
size_by_word known = refl

-- a size that reads a late number is none
late_size : (known : Facts)
    → read known
    (field_and (label (codes "n"))
    (field_and (number (Some (bytes_to (codes "e") (codes "s"))))
    (field_and (label (codes "s"))
    (field_and (Text (record { form = texts.Open; hex = false; size = Some (BitsAt (codes "n") (Constant (pos 0)) (Constant (pos 16))); fixed = None })) (field_and (label (codes "e")) no_fields)))))
    (0 ∷ 2 ∷ 97 ∷ 98 ∷ []) ≡ None
unfolding number_bits int_wrap
late_size known = refl

-- Labels in rows.

abbrev divided : Term → ℕ → Term
divided term by = OfTwo two.Divide term (Constant (pos by))

-- the place of a label in a row, in bytes
abbrev bytes_in : List ℕ → ℕ → Term
bytes_in name row = divided (Indexed name (Constant (pos row))) 8

abbrev one_byte : ℕ → List Tree
one_byte number = trees.Number number ∷ []

-- each row tells where its text ends
abbrev records : PlainBody
records = field_and (number (Some (RowsOf (codes "recs"))))
    (field_and (Array (Some (word (codes "recs"))) None
    (field_and (label (codes "b")) (field_and (byte (Some (bytes_to (codes "e") (codes "b")))) (field_and open_text (field_and (label (codes "e")) no_fields))))) no_fields)

rows_tell : (known : Facts) → read known records (0 ∷ 2 ∷ 2 ∷ 170 ∷ 3 ∷ 187 ∷ 204 ∷ []) ≡ Some (record {
  row = trees.Rows ((trees.Text (170 ∷ []) ∷ []) ∷ (trees.Text (187 ∷ 204 ∷ []) ∷ []) ∷ []) ∷ [];
  places = [];
  after = 56;
  late = replicate 16 false ++ replicate 8 true ++ replicate 8 false ++ replicate 8 true ++ replicate 16 false;
})
unfolding number_bits int_wrap
rows_tell known = refl

row_too_long : (known : Facts) → reading known records (0 ∷ 2 ∷ 2 ∷ 170 ∷ 4 ∷ 187 ∷ 204 ∷ []) ≡ None
unfolding number_bits int_wrap
row_too_long known = refl

-- a label in a row by its number, and the number of the row around
abbrev tail : PlainBody
tail = field_and (number (Some (RowsOf (codes "rows"))))
    (field_and (Array (Some (word (codes "rows"))) None (field_and (label (codes "p")) (field_and (number (Some (RowNumber (codes "rows")))) (field_and pstring no_fields))))
    (field_and (number (Some (bytes_in (codes "P") 2))) no_fields))

second_row : (known : Facts) → read known tail (0 ∷ 2 ∷ 0 ∷ 1 ∷ 1 ∷ 65 ∷ 0 ∷ 2 ∷ 2 ∷ 66 ∷ 67 ∷ 0 ∷ 6 ∷ [])
    ≡ line (trees.Rows ((trees.Text (codes "A") ∷ []) ∷ (trees.Text (codes "BC") ∷ []) ∷ []) ∷ []) 104
unfolding number_bits int_wrap
second_row known = refl

first_in_place : (known : Facts) → reading known tail (0 ∷ 2 ∷ 0 ∷ 1 ∷ 1 ∷ 65 ∷ 0 ∷ 2 ∷ 2 ∷ 66 ∷ 67 ∷ 0 ∷ 2 ∷ []) ≡ None
unfolding number_bits int_wrap
first_in_place known = refl

-- an index after the last row isn't taken for the last
no_second : (known : Facts) → reading known tail (0 ∷ 1 ∷ 0 ∷ 1 ∷ 1 ∷ 65 ∷ 0 ∷ 2 ∷ []) ≡ None
unfolding number_bits int_wrap
no_second known = refl

-- nor for one where there is none
no_rows : (known : Facts)
    → reading known (field_and (Array None (Some (pos 0)) (field_and (label (codes "w")) (field_and (byte None) no_fields))) (field_and (byte (Some (Indexed (codes "w") (Constant (pos 1))))) no_fields)) (0 ∷ []) ≡ None
unfolding number_bits int_wrap
no_rows known = refl

-- two labels in a row have places of their own
abbrev two_labels : PlainBody
two_labels = field_and (Array None (Some (pos 2)) (field_and (label (codes "g")) (field_and (byte None) (field_and (label (codes "h")) (field_and (byte None) no_fields)))))
    (field_and (byte (Some (bytes_in (codes "h") 1))) no_fields)

second_label : (known : Facts) → read known two_labels (170 ∷ 187 ∷ 204 ∷ 221 ∷ 1 ∷ [])
    ≡ line (trees.Rows ((trees.Number 170 ∷ trees.Number 187 ∷ []) ∷ (trees.Number 204 ∷ trees.Number 221 ∷ []) ∷ []) ∷ []) 40
unfolding number_bits int_wrap
second_label known = refl

first_label : (known : Facts) → reading known two_labels (170 ∷ 187 ∷ 204 ∷ 221 ∷ 0 ∷ []) ≡ None
unfolding number_bits int_wrap
first_label known = refl

-- a number tells a label after it by one in a row
abbrev from_row : PlainBody
from_row = field_and (Array None (Some (pos 2)) (field_and (label (codes "g")) (field_and (byte None) no_fields)))
    (field_and (byte (Some (divided (OfTwo two.Minus (place (codes "e")) (Indexed (codes "g") (Constant (pos 2)))) 8))) (field_and open_text (field_and (label (codes "e")) (field_and (byte None) no_fields))))

text_from_row : (known : Facts) → read known from_row (170 ∷ 187 ∷ 4 ∷ 65 ∷ 66 ∷ 42 ∷ []) ≡ Some (record {
  row = trees.Rows (one_byte 170 ∷ one_byte 187 ∷ []) ∷ trees.Text (codes "AB") ∷ trees.Number 42 ∷ [];
  places = Some (pos 40) ∷ [];
  after = 48;
  late = replicate 16 false ++ replicate 8 true ++ replicate 24 false;
})
unfolding number_bits int_wrap
text_from_row known = refl

short_from_row : (known : Facts) → reading known from_row (170 ∷ 187 ∷ 3 ∷ 65 ∷ 66 ∷ 42 ∷ []) ≡ None
unfolding number_bits int_wrap
short_from_row known = refl

-- the number of the row of the outer array, in the rows of an inner one
abbrev nested : PlainBody
nested = field_and (byte (Some (RowsOf (codes "a"))))
    (field_and (Array (Some (word (codes "a"))) None
    (field_and (Array None (Some (pos 1)) (field_and (byte (Some (RowNumber (codes "A")))) (field_and (byte None) no_fields))) no_fields)) no_fields)

outer_number : (known : Facts) → read known nested (2 ∷ 1 ∷ 170 ∷ 2 ∷ 187 ∷ []) ≡ line (trees.Rows ((trees.Rows (one_byte 170 ∷ []) ∷ []) ∷ (trees.Rows (one_byte 187 ∷ []) ∷ []) ∷ []) ∷ []) 40
unfolding number_bits int_wrap
outer_number known = refl

inner_number : (known : Facts) → reading known nested (2 ∷ 1 ∷ 170 ∷ 1 ∷ 187 ∷ []) ≡ None
unfolding number_bits int_wrap
inner_number known = refl

-- labels in the rows of an array within are known until the row around ends
abbrev within : PlainBody
within = field_and (byte (Some (RowsOf (codes "a"))))
    (field_and (Array (Some (word (codes "a"))) None
    (field_and (byte (Some (RowsOf (codes "c"))))
    (field_and (Array (Some (word (codes "c"))) None (field_and (label (codes "w")) (field_and (byte None) no_fields)))
    (field_and (byte (Some (bytes_in (codes "w") 1))) no_fields)))) no_fields)

each_within : (known : Facts) → read known within (2 ∷ 1 ∷ 170 ∷ 2 ∷ 2 ∷ 187 ∷ 204 ∷ 5 ∷ [])
    ≡ line (trees.Rows ((trees.Rows (one_byte 170 ∷ []) ∷ []) ∷ (trees.Rows (one_byte 187 ∷ one_byte 204 ∷ []) ∷ []) ∷ []) ∷ []) 64
unfolding number_bits int_wrap
each_within known = refl

first_within : (known : Facts) → reading known within (2 ∷ 1 ∷ 170 ∷ 2 ∷ 2 ∷ 187 ∷ 204 ∷ 2 ∷ []) ≡ None
unfolding number_bits int_wrap
first_within known = refl

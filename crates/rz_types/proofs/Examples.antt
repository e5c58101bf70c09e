-- Which declarations can be read, what numbers tell of counts, and which labels and names break a rule: examples that compute.
use Rattle.std.proofs.Common.{◌≡◌, refl, ℕ, pos, List, [], ◌∷◌, Option, Some, None, true, false}
use Rattle.std.specs.Prelude.{codes}
use Rattle.rz_expr.specs.Environment.{count_key}
use Rattle.rz_expr.specs.Constant.{constant_sight}
use Rattle.rz_expr.specs.Term.{BitsAt, Constant, Indexed, Named, OfTwo, RowNumber, RowsOf, Term}
use Rattle.rz_expr.specs.declared.expr.BinaryOp.TheVariants as two
use Rattle.rz_types_fields.specs.Field.{case_and, field_and, no_cases, no_fields, Align, Array, Label, Number, PlainBody, PlainField, Switch, Text}
use Rattle.rz_types_fields.specs.Solve.{solved_count}
use Rattle.rz_types_fields.specs.Text as parts
use Rattle.rz_types_fields.specs.declared.field.NumForm.TheVariants as forms
use Rattle.rz_types_fields.specs.declared.field.Radix.TheVariants as radixes
use Rattle.rz_types_fields.specs.declared.field.TextForm.TheVariants as texts
use Rattle.rz_types.specs.Readable.{is_readable}
use Rattle.rz_types.specs.Rules.{broken, name_fault, unknown_fault}

abbrev less_one : List ℕ → Term
less_one name = OfTwo two.Minus (RowsOf name) (Constant (pos 1))

empty_list : solved_count 16 (count_key (codes "parts")) constant_sight (less_one (codes "Parts")) 65535 ≡ Some (pos 0)
empty_list = refl

three : solved_count 16 (count_key (codes "parts")) constant_sight (less_one (codes "Parts")) 2 ≡ Some (pos 3)
three = refl

abbrev number : Option Term → PlainField
number fixed = Number (record { form = forms.Integer; width = pos 16; unsigned = false; radix = radixes.Plain; symbols = []; fixed = fixed; key = false })

abbrev pstring : PlainField
pstring = Text (record { form = texts.Pascal; hex = false; size = None; fixed = None })

abbrev open_text : PlainField
open_text = Text (record { form = texts.Open; hex = false; size = None; fixed = None })

abbrev named : List ℕ → PlainField → PlainField
named name field = Array (Some (record { bytes = name })) None (field_and field no_fields)

strings : is_readable (field_and (number (Some (RowsOf (codes "Strings")))) (field_and (named (codes "strings") pstring) no_fields)) ≡ true
strings = refl

twice : is_readable (field_and (number (Some (RowsOf (codes "a")))) (field_and (number (Some (OfTwo two.Times (RowsOf (codes "a")) (RowsOf (codes "A"))))) (field_and (named (codes "a") pstring) no_fields))) ≡ true
twice = refl

squared : is_readable (field_and (number (Some (OfTwo two.Times (RowsOf (codes "a")) (RowsOf (codes "A"))))) (field_and (named (codes "a") pstring) no_fields)) ≡ false
squared = refl

to_the_end : is_readable (field_and (Array None None (field_and pstring no_fields)) (field_and (number None) no_fields)) ≡ true
to_the_end = refl

open_rows : is_readable (field_and (Array None None (field_and open_text no_fields)) no_fields) ≡ false
open_rows = refl

aligned : is_readable (field_and open_text (field_and (Align 2) no_fields)) ≡ false
aligned = refl

inside : is_readable (field_and (named (codes "a") (named (codes "b") (number None))) no_fields) ≡ false
inside = refl

outer_count : is_readable (field_and (named (codes "a") (number (Some (RowsOf (codes "a"))))) no_fields) ≡ false
outer_count = refl

abbrev counting : List ℕ → PlainField
counting name = Text (record { form = texts.Pascal; hex = false; size = None; fixed = Some (parts.Format (codes "%d") (parts.argument_and (parts.Number (RowsOf name)) parts.no_arguments) ∷ []) })

format_before : is_readable (field_and (counting (codes "a")) (field_and (number (Some (RowsOf (codes "a")))) (field_and (named (codes "a") pstring) no_fields))) ≡ false
format_before = refl

format_told : is_readable (field_and (number (Some (RowsOf (codes "a")))) (field_and (counting (codes "A")) (field_and (named (codes "a") pstring) no_fields))) ≡ true
format_told = refl

format_behind : is_readable (field_and (number (Some (RowsOf (codes "a")))) (field_and (named (codes "a") pstring) (field_and (counting (codes "a")) no_fields))) ≡ true
format_behind = refl

-- Labels.

abbrev label : List ℕ → PlainField
label name = Label (record { bytes = name })

labelled : is_readable (field_and (number None) (field_and (label (codes "e")) no_fields)) ≡ true
labelled = refl

labelled_inside : is_readable (field_and (Array None (Some (pos 2)) (field_and (number None) (field_and (label (codes "e")) no_fields))) no_fields) ≡ true
labelled_inside = refl

abbrev place : List ℕ → PlainField
place name = number (Some (Named name))

-- a number tells where a text ends, or rows do
to_a_label : is_readable (field_and (place (codes "e")) (field_and open_text (field_and (label (codes "E")) (field_and pstring no_fields)))) ≡ true
to_a_label = refl

rows_to_a_label : is_readable (field_and (place (codes "e")) (field_and (Array None None (field_and pstring no_fields)) (field_and (label (codes "e")) (field_and pstring no_fields)))) ≡ true
rows_to_a_label = refl

-- but not after an `align`
label_aligned : is_readable (field_and (place (codes "e")) (field_and open_text (field_and (Align 2) (field_and (label (codes "e")) (field_and pstring no_fields))))) ≡ false
label_aligned = refl

untold : is_readable (field_and open_text (field_and (label (codes "e")) (field_and pstring no_fields))) ≡ false
untold = refl

-- a near label is known
abbrev twice_named : PlainField
twice_named = number (Some (OfTwo two.Plus (Named (codes "a")) (Named (codes "b"))))

near_both : is_readable (field_and twice_named (field_and (label (codes "a")) (field_and (Align 8) (field_and (label (codes "b")) no_fields)))) ≡ true
near_both = refl

far_both : is_readable (field_and twice_named (field_and pstring (field_and (label (codes "a")) (field_and (label (codes "b")) no_fields)))) ≡ false
far_both = refl

-- only at the field itself
near_once : is_readable (field_and twice_named (field_and (label (codes "a")) (field_and pstring (field_and twice_named (field_and pstring (field_and (label (codes "b")) no_fields)))))) ≡ true
near_once = refl

-- bits are asked for only at a label that stands before
abbrev bits : List ℕ → PlainField
bits name = number (Some (BitsAt name (Constant (pos 0)) (Constant (pos 8))))

bits_before : is_readable (field_and (label (codes "e")) (field_and (number None) (field_and (bits (codes "e")) no_fields))) ≡ true
bits_before = refl

bits_near : is_readable (field_and (bits (codes "e")) (field_and (label (codes "e")) no_fields)) ≡ false
bits_near = refl

label_again : broken (field_and (label (codes "e")) (field_and (label (codes "E")) no_fields)) ≡ Some (name_fault 230 1 (record { bytes = codes "E" }))
label_again = refl

label_and_array : broken (field_and (label (codes "e")) (field_and (named (codes "e") pstring) no_fields)) ≡ None
label_and_array = refl

label_named : broken (field_and (number (Some (OfTwo two.Minus (Named (codes "E")) (BitsAt (codes "e") (Constant (pos 0)) (Constant (pos 8)))))) (field_and (label (codes "e")) no_fields)) ≡ None
label_named = refl

label_missing : broken (field_and (number (Some (Named (codes "f")))) (field_and (label (codes "e")) no_fields)) ≡ Some (unknown_fault 0 (codes "f"))
label_missing = refl

bits_missing : broken (field_and (number (Some (BitsAt (codes "true") (Named (codes "e")) (Constant (pos 8))))) (field_and (label (codes "e")) no_fields)) ≡ Some (unknown_fault 0 (codes "true"))
bits_missing = refl

predefined_named : broken (field_and (number (Some (Named (codes "TRUE")))) no_fields) ≡ None
predefined_named = refl

-- Labels in rows.

abbrev rows : List ℕ → PlainBody → PlainField
rows name row = Array (Some (record { bytes = name })) None row

abbrev some_rows : ℕ → PlainBody → PlainField
some_rows count row = Array None (Some (pos count)) row

-- the label with a number after it
abbrev marked : List ℕ → PlainBody
marked name = field_and (label name) (field_and (number None) no_fields)

abbrev bytes_at : Term → PlainField
bytes_at place = number (Some (OfTwo two.Divide place (Constant (pos 8))))

abbrev first_row : List ℕ → Term
first_row name = Indexed name (Constant (pos 1))

abbrev count : List ℕ → PlainField
count name = number (Some (RowsOf name))

-- of an array that has ended, in a row too
indexed_behind : is_readable (field_and (count (codes "a"))
    (field_and (rows (codes "a") (field_and (count (codes "c")) (field_and (rows (codes "c") (marked (codes "w"))) (field_and (bytes_at (first_row (codes "W"))) no_fields)))) no_fields)) ≡ true
indexed_behind = refl

-- not before it
indexed_before : is_readable (field_and (bytes_at (first_row (codes "p"))) (field_and (count (codes "rows")) (field_and (rows (codes "rows") (field_and (label (codes "p")) (field_and pstring no_fields))) no_fields))) ≡ false
indexed_before = refl

-- and not within
indexed_inside : is_readable (field_and (count (codes "a")) (field_and (rows (codes "a") (field_and (label (codes "b")) (field_and (bytes_at (first_row (codes "b"))) (field_and (number None) no_fields)))) no_fields)) ≡ false
indexed_inside = refl

-- of no rows
indexed_none : is_readable (field_and (some_rows 0 (marked (codes "w"))) (field_and (number (Some (first_row (codes "w")))) no_fields)) ≡ true
indexed_none = refl

-- an index isn't solved
index_twice : is_readable (field_and (some_rows 2 (marked (codes "g"))) (field_and (number (Some (OfTwo two.Plus (Indexed (codes "g") (Named (codes "e"))) (Named (codes "e"))))) (field_and open_text (field_and (label (codes "e")) no_fields)))) ≡ false
index_twice = refl

index_near : is_readable (field_and (some_rows 2 (marked (codes "g"))) (field_and (number (Some (Indexed (codes "g") (Named (codes "e"))))) (field_and (label (codes "e")) (field_and (number None) no_fields)))) ≡ true
index_near = refl

beside_indexed : is_readable (field_and (some_rows 2 (marked (codes "g"))) (field_and (bytes_at (OfTwo two.Minus (Named (codes "e")) (Indexed (codes "g") (Constant (pos 2))))) (field_and open_text (marked (codes "e"))))) ≡ true
beside_indexed = refl

-- the number of the row around is known
abbrev row_number : List ℕ → PlainField
row_number name = number (Some (RowNumber name))

numbered_rows : is_readable (field_and (count (codes "a")) (field_and (rows (codes "a") (field_and (row_number (codes "a")) (field_and pstring no_fields))) no_fields)) ≡ true
numbered_rows = refl

number_around : broken (field_and (rows (codes "rows") (field_and (some_rows 1 (field_and (row_number (codes "Rows")) (field_and pstring no_fields))) no_fields)) no_fields) ≡ None
number_around = refl

number_outside : broken (field_and (row_number (codes "rows")) (field_and (named (codes "rows") pstring) no_fields)) ≡ Some (unknown_fault 0 (codes "rows"))
number_outside = refl

-- a label directly in the rows of an array, not in a case of the row, and not in a row's row
indexed_named : broken (field_and (number (Some (first_row (codes "P")))) (field_and (some_rows 1 (marked (codes "p"))) no_fields)) ≡ None
indexed_named = refl

abbrev key : PlainField
key = Number (record { form = forms.Integer; width = pos 16; unsigned = false; radix = radixes.Plain; symbols = []; fixed = Some (Constant (pos 1)); key = true })

in_a_case : broken (field_and (some_rows 1 (field_and (Switch (case_and (record { bytes = codes "Only" }) (field_and key (marked (codes "p"))) no_cases)) no_fields)) (field_and (number (Some (first_row (codes "p")))) no_fields))
    ≡ Some (unknown_fault 5 (codes "p"))
in_a_case = refl

rows_in_rows : broken (field_and (some_rows 1 (field_and (some_rows 1 (marked (codes "p"))) no_fields)) (field_and (number (Some (first_row (codes "p")))) no_fields)) ≡ Some (unknown_fault 4 (codes "p"))
rows_in_rows = refl

indexed_alone : broken (field_and (some_rows 1 (marked (codes "p"))) (field_and (place (codes "p")) no_fields)) ≡ Some (unknown_fault 3 (codes "p"))
indexed_alone = refl

-- the label before its index
label_first : broken (field_and (number (Some (Indexed (codes "p") (Named (codes "q"))))) no_fields) ≡ Some (unknown_fault 0 (codes "p"))
label_first = refl

index_then : broken (field_and (number (Some (Indexed (codes "p") (Named (codes "q"))))) (field_and (some_rows 1 (marked (codes "p"))) no_fields)) ≡ Some (unknown_fault 0 (codes "q"))
index_then = refl

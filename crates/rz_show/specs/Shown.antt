-- Rows as they are shown. (As MPW DeRez shows them.)
use Rattle.std.specs.Prelude.{ℕ, Bool, true, false, ◌||◌, if◌then◌else◌, List, [], ◌∷◌, map, Option}
use Rattle.std.specs.List.{list_any}
use Rattle.rz_types_fields.specs.declared.tree.Tree.{Tree}
use Rattle.rz_types_fields.specs.Laid.{first_value, line_in, number_in, other_values, rows_in, text_in}
use Rattle.rz_types_fields.specs.Spells.{group_in, is_case}
use Rattle.rz_types.specs.Field.{case_and, field_and, no_cases, no_fields, takes_value, Align, Array, Fill, Label, Number, PlainBody, PlainCases, PlainField, Points, Switch, Text}
use Rattle.rz_show.specs.Number.{number_shown}
use Rattle.rz_show_lines.specs.Print.{block, in_group, named_block, no_prints, pieces, print, signed_number, single, Print, Prints}
use Rattle.rz_show_lines.specs.Pieces.{text_pieces}

-- Texts.

abbrev pub text_print : (hex : Bool) → List ℕ → Print
text_print hex bytes = pieces hex (text_pieces hex bytes).first (text_pieces hex bytes).others

-- Rows.

-- an item in front, where there is one
abbrev pub print_if : Bool → Print → Prints → Prints
print_if true item others = print item others
print_if false item others = others

-- the items of rows, by those of a row in front of more
abbrev pub rows_prints : (List Tree → Prints → Prints) → List (List Tree) → Prints
rows_prints row_in_front [] = no_prints
rows_prints row_in_front (row ∷ rows) = row_in_front row (rows_prints row_in_front rows)

module _ (hidden : List ℕ → Bool) where
  abbrev mutual
    -- the item of a field's value, where these are the live macros
    pub field_print : PlainField → Option Tree → Print
    field_print (Number number) value = single (number_shown hidden number (number_in value))
    field_print (Text text) value = text_print text.hex (text_in value)
    field_print (Points points) value = single (in_group (map (signed_number 16) (group_in value)))
    field_print (Fill unit count) value = block no_prints
    field_print (Align unit) value = block no_prints
    field_print (Label name) value = block no_prints
    field_print (Array name count row) value = block (rows_prints (row_prints row) (rows_in value))
    field_print (Switch cases) value = case_print cases value

    -- the items of a row in front of more: one for each field that takes a value; the others show nothing
    pub row_prints : PlainBody → List Tree → Prints → Prints
    row_prints no_fields row more = more
    row_prints (field_and field fields) row more =
        print_if (takes_value field) (field_print field (first_value (takes_value field) row)) (row_prints fields (other_values (takes_value field) row) more)

    -- the case that is chosen, by its name as it is declared
    pub case_print : PlainCases → Option Tree → Print
    case_print no_cases value = block no_prints
    case_print (case_and name row others) value =
        if is_case name value then named_block name.bytes (row_prints row (line_in value) no_prints) else case_print others value

-- Whether a row can be shown at all.

module _ (hidden : List ℕ → Bool) where
  abbrev mutual
    -- a case that is chosen in the value has the name of a live macro
    pub field_uses : PlainField → Option Tree → Bool
    field_uses (Array name count row) value = list_any (row_uses row) (rows_in value)
    field_uses (Switch cases) value = case_uses cases value
    field_uses field value = false

    pub row_uses : PlainBody → List Tree → Bool
    row_uses no_fields row = false
    row_uses (field_and field fields) row = field_uses field (first_value (takes_value field) row) || row_uses fields (other_values (takes_value field) row)

    pub case_uses : PlainCases → Option Tree → Bool
    case_uses no_cases value = false
    case_uses (case_and name row others) value = if is_case name value then hidden name.bytes || row_uses row (line_in value) else case_uses others value

-- The type of a sample and its resources, as lists and numbers.
use Rattle.std.specs.Prelude.{ℕ, ◌+◌, ◌*◌, ◌%◌, pos, false, List, [], ◌∷◌, ◌++◌, codes, length, map, replicate, Some, None}
use Rattle.std.specs.List.{flat_map, range_with_len}
use Rattle.rz_core.specs.Numbers.{be}
use Rattle.rz_core.specs.declared.resource.OsType.{OsType}
use Rattle.rz_core.specs.declared.resource.Resource.{Resource}
use Rattle.rz_core.specs.declared.resource.Word.{Word}
use Rattle.rz_expr.specs.Term.{RowsOf}
use Rattle.rz_types_fields.specs.Field.{field_and, no_fields, Array, Number, PlainBody, PlainNumber, PlainText, Text}
use Rattle.rz_types_fields.specs.declared.field.NumForm.TheVariants.{Byte, Integer}
use Rattle.rz_types_fields.specs.declared.field.Radix.TheVariants.{Plain}
use Rattle.rz_types_fields.specs.declared.field.TextForm.TheVariants.{Pascal}
use Rattle.rz_types_fields.specs.declared.tree.Tree.{Tree}
use Rattle.rz_types_fields.specs.declared.tree.Tree.TheVariants as trees

-- The type: a count of rows, and rows of a byte and a text.

-- `Samp`
abbrev pub sample_kind : OsType
sample_kind = record { code = 1398893936 }

-- the array is named `r`
abbrev pub rows_name : Word
rows_name = record { bytes = codes "r" }

-- `integer = $$CountOf(r)`
abbrev pub count_of_rows : PlainNumber
count_of_rows = record { form = Integer; width = pos 16; unsigned = false; radix = Plain; symbols = []; fixed = Some (RowsOf (codes "r")); key = false }

-- `byte`
abbrev pub one_byte : PlainNumber
one_byte = record { form = Byte; width = pos 8; unsigned = false; radix = Plain; symbols = []; fixed = None; key = false }

-- `pstring`
abbrev pub one_text : PlainText
one_text = record { form = Pascal; hex = false; size = None; fixed = None }

-- `byte; pstring;`
abbrev pub row_fields : PlainBody
row_fields = field_and (Number one_byte) (field_and (Text one_text) no_fields)

-- `integer = $$CountOf(r); array r { byte; pstring; };`
abbrev pub sample_fields : PlainBody
sample_fields = field_and (Number count_of_rows) (field_and (Array (Some rows_name) None row_fields) no_fields)

-- The resources: resource k has `k % 8` rows.

-- the number in row j of resource k, which is below 128
abbrev pub row_number : ℕ → ℕ → ℕ
row_number k j = (7 * k + 13 * j) % 128

-- its text: at most four times the letter a
abbrev pub row_letters : ℕ → ℕ → List ℕ
row_letters k j = replicate ((k + j) % 5) 97

-- the row as values, and as bytes: the number, the length of the text, and the text
abbrev pub row_values : ℕ → ℕ → List Tree
row_values k j = trees.Number (row_number k j) ∷ trees.Text (row_letters k j) ∷ []

abbrev pub row_bytes : ℕ → ℕ → List ℕ
row_bytes k j = row_number k j ∷ length (row_letters k j) ∷ row_letters k j

-- all rows as values, and as bytes after their number in two bytes
abbrev pub sample_values : ℕ → List Tree
sample_values k = trees.Rows (map (row_values k) (range_with_len 0 (k % 8))) ∷ []

abbrev pub sample_bytes : ℕ → List ℕ
sample_bytes k = be 2 (k % 8) ++ flat_map (row_bytes k) (range_with_len 0 (k % 8))

-- resource k has the id k, no name and no attributes
abbrev pub sample_resource : ℕ → Resource
sample_resource k = record { kind = sample_kind; id = pos k; name = []; attr = 0; bytes = sample_bytes k }

-- so many resources, from resource 0 on
abbrev pub sample_list : ℕ → List Resource
sample_list count = map sample_resource (range_with_len 0 count)

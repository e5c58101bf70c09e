-- Rows of arrays by their numbers, and the labels that stand directly in them.
use Rattle.std.specs.Prelude.{ℕ, zero, suc, ℤ, pos, negsuc, Bool, false, if◌then◌else◌, List, length, slice_get, Option, Some, None, option_and_then, option_map}
use Rattle.rz_core.specs.declared.resource.Word.{Word}
use Rattle.rz_expr.specs.Environment.{place_in, place_of, row_key, rows_of, Environment, Key}
use Rattle.rz_types_fields.specs.Field.{PlainBody}
use Rattle.rz_types_fields.specs.Passed.{gives_rows}
use Rattle.rz_types_fields.specs.Solve.{is_same_key}

-- Numbers of rows.

-- the row of an array: the name of the array, where it has one, and the number of the row, from 1
pub record RowOf : Type 0 where
  pub name : Option Word
  pub number : ℕ

abbrev pub row_of : Option Word → ℕ → Option RowOf
row_of name number = Some (record { name = name; number = number })

-- the key is the number of the row of this array
abbrev pub numbers_row : Option Word → Key → Bool
numbers_row None key = false
numbers_row (Some name) key = is_same_key (row_key name.bytes) key

-- the key is the number of this row, where it is one
abbrev pub is_row : Option RowOf → Key → Bool
is_row None key = false
is_row (Some row) key = numbers_row row.name key

abbrev pub row_number : Option RowOf → Option ℤ
row_number which = option_map (λ row. pos row.number) which

-- Labels in rows.

-- what names have at the end of the row of this number, from 1, where there is one
abbrev pub row_end : List Environment → ℤ → Option Environment
row_end ends (pos zero) = None
row_end ends (pos (suc before)) = slice_get ends before
row_end ends (negsuc n) = None

-- what rows give a key, where names have these values at the end of each of them: a label in them the number of the rows, and by
-- the number of a row the place that it has in it
abbrev pub rows_give : List Environment → Key → Option ℤ
rows_give ends (rows_of label) = Some (pos (length ends))
rows_give ends (place_in label number) = option_and_then (λ own. own.give (place_of label)) (row_end ends number)
rows_give ends key = None

-- after the rows of an array the labels in them have these values, and every other name what it has
abbrev pub also_rows : PlainBody → List Environment → Environment → Environment
also_rows row ends names = record { give = λ key. if gives_rows row key then rows_give ends key else names.give key }

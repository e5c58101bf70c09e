-- What names have at the front of a body. (MPW Rez.)
use Rattle.std.specs.Prelude.{ℤ, if◌then◌else◌, Option, None}
use Rattle.rz_core.specs.Lists.{or_else}
use Rattle.rz_core.specs.declared.resource.Word.{Word}
use Rattle.rz_expr.specs.Environment.{Environment, Key}
use Rattle.rz_types_fields.specs.Field.{field_and, no_fields, Array, PlainBody, PlainField}
use Rattle.rz_types_fields.specs.Passed.{declares, states_count}
use Rattle.rz_types_fields.specs.RowLabels.{is_row, row_number, RowOf}

-- a body's own names have no value but their stated counts
abbrev pub stated_value : Option Word → Option ℤ → Key → Option ℤ
stated_value name count key = if states_count name count key then count else None

-- the number of rows that is stated of an array
abbrev pub stated_by : PlainField → Key → Option ℤ
stated_by (Array name count row) key = stated_value name count key
stated_by field key = None

abbrev pub stated_in : PlainBody → Key → Option ℤ
stated_in no_fields key = None
stated_in (field_and (Array name count row) fields) key = or_else (stated_value name count key) (stated_in fields key)
stated_in (field_and field fields) key = stated_in fields key

-- at the front of a row of an array the name of the array has its number, too
abbrev pub value_inside : Option RowOf → PlainBody → Key → Option ℤ → Option ℤ
value_inside which body key other = if is_row which key then row_number which else if declares body key then stated_in body key else other

abbrev pub names_inside : Option RowOf → PlainBody → Environment → Environment
names_inside which body names = record { give = λ key. value_inside which body key (names.give key) }

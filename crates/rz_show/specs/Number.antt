-- Numbers of rows as they are shown. (As MPW DeRez shows them.)
pub use Rattle.rz_types_fields.specs.Symbols.{is_stored, symbol_for}
use Rattle.std.specs.Prelude.{ℕ, ◌+◌, ◌/◌, ◌%◌, ◌==◌, ◌||◌, pos, nat_abs, Bool, true, false, if◌then◌else◌, codes, List, [], ◌∷◌, Option, Some, None}
use Rattle.rz_core.specs.Numbers.{be}
use Rattle.rz_core.specs.declared.resource.Word.{Word}
use Rattle.rz_types_fields.specs.declared.field.NumForm.{NumForm}
use Rattle.rz_types_fields.specs.declared.field.NumForm.TheVariants.{Boolean, Char}
use Rattle.rz_types_fields.specs.declared.field.Radix.{Radix}
use Rattle.rz_types_fields.specs.declared.field.Radix.TheVariants.{Binary, Decimal, Hex, Literal, Octal, Plain}
use Rattle.rz_types_fields.specs.declared.field.Symbol.{Symbol}
use Rattle.rz_types.specs.Field.{PlainNumber}
use Rattle.rz_types.specs.Shape.{is_empty}
use Rattle.rz_show_lines.specs.Print.{by_name, in_binary, in_decimal, in_hex, in_literal, in_octal, in_text, signed_number, Single}

-- By value.

abbrev pub by_decimal : (unsigned : Bool) → (width number : ℕ) → Single
by_decimal true width number = in_decimal (pos number)
by_decimal false width number = in_decimal (signed_number width number)

-- a hex digit for each four bits
abbrev pub by_hex : (width number : ℕ) → Single
by_hex width number = in_hex ((width + 3) / 4) number

-- the widths of literals: one, two and four bytes
abbrev pub is_literal_width : ℕ → Bool
is_literal_width width = (width == 8) || (width == 16) || (width == 32)

abbrev pub by_literal : (width number : ℕ) → Single
by_literal width number = if is_literal_width width then in_literal (be (width / 8) number) else by_hex width number

-- `unsigned` has no effect beside another radix than `decimal`
abbrev pub by_radix : Radix → (unsigned : Bool) → (width number : ℕ) → Single
by_radix Plain unsigned width number = by_decimal unsigned width number
by_radix Decimal unsigned width number = by_decimal unsigned width number
by_radix Hex unsigned width number = by_hex width number
by_radix Octal unsigned width number = in_octal number
by_radix Binary unsigned width number = in_binary width number
by_radix Literal unsigned width number = by_literal width number

abbrev pub truth : ℕ → Single
truth number = by_name (if number == 0 then codes "false" else codes "true")

-- a `boolean` without symbols is `false` or `true`, and with symbols 0 or 1
abbrev pub by_truth : List Symbol → ℕ → Single
by_truth symbols number = if is_empty symbols then truth number else in_decimal (pos number)

-- a `char` is a text of one byte
abbrev pub by_form : NumForm → PlainNumber → ℕ → Single
by_form Char field number = in_text ((number % 256) ∷ [])
by_form Boolean field number = by_truth field.symbols number
by_form form field number = by_radix field.radix field.unsigned (nat_abs field.width) number

abbrev pub by_value : PlainNumber → ℕ → Single
by_value field number = by_form field.form field number

-- By a symbol.

-- a name, where there is one that is no live macro
abbrev pub named_or : (hidden : List ℕ → Bool) → Option Word → Single → Single
named_or hidden None other = other
named_or hidden (Some name) other = if hidden name.bytes then other else by_name name.bytes

-- a number of a field is shown by the first of its symbols that gives it, unless that is a live macro, and else by value
abbrev pub number_shown : (hidden : List ℕ → Bool) → PlainNumber → ℕ → Single
number_shown hidden field number = named_or hidden (symbol_for field.symbols (nat_abs field.width) number field.symbols) (by_value field number)

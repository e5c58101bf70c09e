-- The names in the items of a row are those of its type's declaration.
use Rattle.std.proofs.Common.{◌≡◌, ℕ, ℤ, List, [], ◌∷◌, Option, Some, None, refl}
use Rattle.std.specs.Prelude.{Bool, true, false, nat_abs, ◌==◌, ◌&&◌, codes}
use Rattle.std.specs.List.{list_all}
use Rattle.std.proofs.lemmas.Bool.{and_parts}
use Rattle.rz_core.proofs.Tests.{by_test}
use Rattle.rz_core.specs.declared.resource.Word.{Word}
use Rattle.rz_words.specs.Attribute.{attribute_word}
use Rattle.rz_words.specs.Words.{is_name, role_of}
use Rattle.rz_types_fields.specs.declared.field.NumForm.{NumForm}
use Rattle.rz_types_fields.specs.declared.field.NumForm.TheVariants.{Boolean, Char}
use Rattle.rz_types_fields.specs.declared.field.Radix.{Radix}
use Rattle.rz_types_fields.specs.declared.field.Radix.TheVariants.{Binary, Decimal, Hex, Literal, Octal, Plain}
use Rattle.rz_types_fields.specs.declared.field.Symbol.{Symbol}
use Rattle.rz_types_fields.specs.declared.tree.Tree.{Tree}
use Rattle.rz_lex.specs.Lexeme.{is_lexed_word}
use Rattle.rz_types_fields.specs.Laid.{first_value, line_in, number_in, other_values, rows_in}
use Rattle.rz_types_fields.specs.Spells.{is_case}
use Rattle.rz_types.specs.Field.{case_and, field_and, no_cases, no_fields, takes_value, Align, Array, Fill, Label, Number, PlainBody, PlainCases, PlainField, PlainNumber, Points, Switch, Text}
use Rattle.rz_types.specs.Shape.{are_cases_shaped, are_shaped, is_none_or, is_number_shaped, is_own_name, is_own_width, is_fixed_number, is_shaped, is_symbol_name, is_symbol_of}
use Rattle.rz_types.specs.Value.{symbol_value}
use Rattle.rz_show_laws.proofs.Items.{AreNamingPrints, IsNaming, IsNamingPrint, IsNamingSingle}
use Rattle.rz_show.specs.Number.{by_form, by_literal, by_radix, by_truth, is_literal_width, is_stored, named_or, symbol_for, truth}
use Rattle.rz_show_lines.specs.Print.{no_prints, Print, Prints, Single}
use Rattle.rz_show.specs.Shown.{case_print, field_print, print_if, row_prints, rows_prints}

-- Numbers.

literal_naming : (width number : ℕ) → IsNamingSingle (by_literal width number)
literal_naming width number = by_test (IsNamingSingle (by_literal width number)) (is_literal_width width) (λ h. rw h tt) (λ h. rw h tt)

decimal_naming : (unsigned : Bool) (width number : ℕ) → IsNamingSingle (by_radix Plain unsigned width number)
decimal_naming true width number = tt
decimal_naming false width number = tt

radix_naming : (radix : Radix) (unsigned : Bool) (width number : ℕ) → IsNamingSingle (by_radix radix unsigned width number)
radix_naming Plain unsigned width number = decimal_naming unsigned width number
radix_naming Decimal unsigned width number = decimal_naming unsigned width number
radix_naming Hex unsigned width number = tt
radix_naming Octal unsigned width number = tt
radix_naming Binary unsigned width number = tt
radix_naming Literal unsigned width number = literal_naming width number

-- `true` and `false` are reserved words that may name
truth_is : IsNaming (codes "true")
unfolding attribute_word
truth_is = refl

falsity_is : IsNaming (codes "false")
unfolding attribute_word
falsity_is = refl

truth_naming : (number : ℕ) → IsNamingSingle (truth number)
truth_naming number = by_test (IsNamingSingle (truth number)) (number == 0) (λ h. rw h falsity_is) (λ h. rw h truth_is)

boolean_naming : (symbols : List Symbol) (number : ℕ) → IsNamingSingle (by_truth symbols number)
boolean_naming [] number = truth_naming number
boolean_naming (symbol ∷ symbols) number = tt

form_naming : (form : NumForm) (field : PlainNumber) (number : ℕ) → IsNamingSingle (by_form form field number)
form_naming Char field number = tt
form_naming Boolean field number = boolean_naming field.symbols number
form_naming form field number = radix_naming field.radix field.unsigned _ number

-- a name of a declaration
symbol_naming : (name : List ℕ) → is_symbol_name name ≡ true → IsNaming name
symbol_naming name is = (and_parts (is_lexed_word name) (is_name (role_of name)) is).1

abbrev IsNamingWord : Option Word → Type 0
IsNamingWord None = Unit {0}
IsNamingWord (Some word) = IsNaming word.bytes

found_naming : (form : NumForm) (range : ℤ) (all : List Symbol) (width number : ℕ) (symbols : List Symbol) → list_all (is_symbol_of form range) symbols ≡ true
    → IsNamingWord (symbol_for all width number symbols)
found_naming form range all width number [] are = tt
found_naming form range all width number (one ∷ symbols) are =
    let parts = and_parts (is_symbol_of form range one) (list_all (is_symbol_of form range) symbols) are in
    by_test (IsNamingWord (symbol_for all width number (one ∷ symbols))) (is_stored width number (symbol_value all one.name.bytes))
    (λ h. rw h (symbol_naming one.name.bytes (and_parts (is_symbol_name one.name.bytes) _ parts.0).0))
    (λ h. rw h (found_naming form range all width number symbols parts.1))

named_naming : (hidden : List ℕ → Bool) (name : Option Word) (other : Single) → IsNamingWord name → IsNamingSingle other → IsNamingSingle (named_or hidden name other)
named_naming hidden None other naming else_so = else_so
named_naming hidden (Some name) other naming else_so = by_test (IsNamingSingle (named_or hidden (Some name) other)) (hidden name.bytes) (λ h. rw h else_so) (λ h. rw h naming)

symbols_of : (in_case : Bool) (number : PlainNumber) → is_number_shaped in_case number ≡ true → list_all (is_symbol_of number.form number.width) number.symbols ≡ true
symbols_of in_case number is =
    let first = and_parts (is_own_width number.form number.width && list_all (is_symbol_of number.form number.width) number.symbols && is_fixed_number number.symbols number.fixed) _ is in
    let second = and_parts (is_own_width number.form number.width && list_all (is_symbol_of number.form number.width) number.symbols) (is_fixed_number number.symbols number.fixed) first.0 in
    (and_parts (is_own_width number.form number.width) (list_all (is_symbol_of number.form number.width) number.symbols) second.0).1

-- Rows.

rows_naming : (row_in_front : List Tree → Prints → Prints) → ((row : List Tree) (more : Prints) → AreNamingPrints more → AreNamingPrints (row_in_front row more))
    → (rows : List (List Tree)) → AreNamingPrints (rows_prints row_in_front rows)
rows_naming row_in_front each [] = tt
rows_naming row_in_front each (row ∷ rows) = each row (rows_prints row_in_front rows) (rows_naming row_in_front each rows)

if_naming : (shown : Bool) (one : Print) (others : Prints) → IsNamingPrint one → AreNamingPrints others → AreNamingPrints (print_if shown one others)
if_naming true one others first rest = (first, rest)
if_naming false one others first rest = rest

module _ (hidden : List ℕ → Bool) where
  mutual
    field_naming : (in_case : Bool) (field : PlainField) (value : Option Tree) → is_shaped in_case field ≡ true → IsNamingPrint (field_print hidden field value)
    field_naming in_case (Number number) value is =
        named_naming hidden _ _ (found_naming number.form number.width number.symbols (nat_abs number.width) (number_in value) number.symbols (symbols_of in_case number is))
        (form_naming number.form number (number_in value))
    field_naming in_case (Text text) value is = tt
    field_naming in_case (Points points) value is = tt
    field_naming in_case (Fill unit count) value is = tt
    field_naming in_case (Align unit) value is = tt
    field_naming in_case (Label name) value is = tt
    field_naming in_case (Array name count row) value is =
        rows_naming (row_prints hidden row) (λ line more h. row_naming false row line more (and_parts (is_none_or is_own_name name) (are_shaped false row) is).1 h) (rows_in value)
    field_naming in_case (Switch cases) value is = case_naming cases value is

    -- such items in front of more
    pub row_naming : (in_case : Bool) (body : PlainBody) (row : List Tree) (more : Prints) → are_shaped in_case body ≡ true → AreNamingPrints more
        → AreNamingPrints (row_prints hidden body row more)
    row_naming in_case no_fields row more is behind = behind
    row_naming in_case (field_and field fields) row more is behind =
        let parts = and_parts (is_shaped in_case field) (are_shaped in_case fields) is in
        let value = first_value (takes_value field) row in
        let others = other_values (takes_value field) row in
        if_naming (takes_value field) (field_print hidden field value) (row_prints hidden fields others more) (field_naming in_case field value parts.0)
        (row_naming in_case fields others more parts.1 behind)

    case_naming : (cases : PlainCases) (value : Option Tree) → are_cases_shaped cases ≡ true → IsNamingPrint (case_print hidden cases value)
    case_naming no_cases value is = tt
    case_naming (case_and name row others) value is =
        let parts = and_parts (is_own_name name) (are_shaped true row && are_cases_shaped others) is in
        let rest = and_parts (are_shaped true row) (are_cases_shaped others) parts.1 in
        let chosen = row_naming true row (line_in value) no_prints rest.0 tt in
        let otherwise = case_naming others value rest.1 in
        by_test (IsNamingPrint (case_print hidden (case_and name row others) value)) (is_case name value)
        (λ h. rw h (symbol_naming name.bytes parts.0, chosen))
        (λ h. rw h otherwise)

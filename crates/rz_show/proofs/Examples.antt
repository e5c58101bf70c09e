-- Numbers and items as they are shown: examples that compute.
use Rattle.std.proofs.Common.{◌≡◌, refl, ℕ, pos, negsuc, Bool, List, [], ◌∷◌, replicate, None, true, false}
use Rattle.std.specs.Prelude.{codes, ℤ}
use Rattle.rz_core.specs.Decimal.{decimal_of}
use Rattle.std.specs.Fmt.{digits}
use Rattle.std.specs.Int.{int_wrap}
use Rattle.rz_core.specs.Numbers.{be}
use Rattle.rz_types_fields.specs.declared.field.NumForm.{NumForm}
use Rattle.rz_types_fields.specs.declared.field.NumForm.TheVariants as forms
use Rattle.rz_types_fields.specs.declared.field.Radix.{Radix}
use Rattle.rz_types_fields.specs.declared.field.Radix.TheVariants as radixes
use Rattle.rz_types_fields.specs.declared.field.Symbol.{Symbol}
use Rattle.rz_types.specs.Field.{PlainNumber}
use Rattle.rz_core.specs.declared.facts.Facts.{Facts}
use Rattle.rz_core.specs.declared.moment.Moment.{Moment}
use Rattle.rz_show.specs.Head.{head_end, head_lines}
use Rattle.rz_show_lines.specs.Head.{head_front}
use Rattle.rz_show.specs.Number.{by_value, number_shown}
use Rattle.rz_show_lines.specs.Print.{block, by_name, in_decimal, in_group, in_hex, in_literal, in_text, list_lines, named_block, no_prints, pieces, print, single}
use Rattle.rz_show.specs.Shown.{text_print}
use Rattle.rz_show.specs.Statement.{data_lines, statement_lines}
use Rattle.rz_show_lines.specs.Written.{lines_text}

abbrev field : NumForm → ℤ → Bool → Radix → List Symbol → PlainNumber
field form width unsigned radix symbols = record { form = form; width = width; unsigned = unsigned; radix = radix; symbols = symbols; fixed = None; key = false }

abbrev symbol : List ℕ → ℤ → Symbol
symbol name value = record { name = record { bytes = name }; value = value }

-- no name is a live macro
abbrev none : List ℕ → Bool
none name = false

abbrev all : List ℕ → Bool
all name = true

byte_255 : by_value (field forms.Byte (pos 8) false radixes.Plain []) 255 ≡ in_decimal (negsuc 0)
byte_255 = refl

unsigned_255 : by_value (field forms.Byte (pos 8) true radixes.Plain []) 255 ≡ in_decimal (pos 255)
unsigned_255 = refl

least_long : by_value (field forms.Longint (pos 32) false radixes.Decimal []) 2147483648 ≡ in_decimal (negsuc 2147483647)
least_long = refl

three_bits : by_value (field forms.Bits (pos 3) false radixes.Plain []) 5 ≡ in_decimal (negsuc 2)
three_bits = refl

unsigned_hex : by_value (field forms.Bits (pos 5) true radixes.Hex []) 30 ≡ in_hex 2 30
unsigned_hex = refl

a_truth : by_value (field forms.Boolean (pos 1) false radixes.Hex []) 1 ≡ by_name (codes "true")
a_truth = refl

a_char : by_value (field forms.Char (pos 8) false radixes.Hex []) 65 ≡ in_text (65 ∷ [])
a_char = refl

first_symbol : number_shown none (field forms.Byte (pos 8) false radixes.Hex (symbol (codes "on") (pos 1) ∷ symbol (codes "ON") (pos 2) ∷ symbol (codes "full") (negsuc 0) ∷ [])) 255 ≡ by_name (codes "full")
unfolding int_wrap
first_symbol = refl

later_symbol_of_a_name : number_shown none (field forms.Byte (pos 8) false radixes.Hex (symbol (codes "on") (pos 1) ∷ symbol (codes "ON") (pos 2) ∷ [])) 2 ≡ in_hex 2 2
unfolding int_wrap
later_symbol_of_a_name = refl

hidden_symbol : number_shown all (field forms.Byte (pos 8) false radixes.Hex (symbol (codes "on") (pos 1) ∷ [])) 1 ≡ in_hex 2 1
unfolding int_wrap
hidden_symbol = refl

empty_piece : lines_text (list_lines 1 (print (text_print true []) no_prints)) ≡ codes "    $\"\"\n"
empty_piece = refl

strings : lines_text (list_lines 1 (print (block (print (text_print false (codes "A")) (print (text_print false (codes "BC")) no_prints))) no_prints))
    ≡ codes "    {\n        \"A\",\n        \"BC\"\n    }\n"
strings = refl

case_of_two : lines_text (list_lines 1 (print (single (in_group (pos 1 ∷ negsuc 1 ∷ []))) (print (named_block (codes "Button") (print (single (by_name (codes "on"))) no_prints)) no_prints)))
    ≡ codes "    {1, -2},\n    Button {\n        on\n    }\n"
unfolding decimal_of digits
case_of_two = refl

two_pieces : text_print true (0 ∷ 1 ∷ 2 ∷ 3 ∷ 4 ∷ 5 ∷ 6 ∷ 7 ∷ 8 ∷ 9 ∷ 10 ∷ 11 ∷ 12 ∷ 13 ∷ 14 ∷ 15 ∷ 16 ∷ [])
    ≡ pieces true (0 ∷ 1 ∷ 2 ∷ 3 ∷ 4 ∷ 5 ∷ 6 ∷ 7 ∷ 8 ∷ 9 ∷ 10 ∷ 11 ∷ 12 ∷ 13 ∷ 14 ∷ 15 ∷ []) ((16 ∷ []) ∷ [])
two_pieces = refl

one_piece : text_print true (0 ∷ 1 ∷ 2 ∷ 3 ∷ 4 ∷ 5 ∷ 6 ∷ 7 ∷ 8 ∷ 9 ∷ 10 ∷ 11 ∷ 12 ∷ 13 ∷ 14 ∷ 15 ∷ [])
    ≡ pieces true (0 ∷ 1 ∷ 2 ∷ 3 ∷ 4 ∷ 5 ∷ 6 ∷ 7 ∷ 8 ∷ 9 ∷ 10 ∷ 11 ∷ 12 ∷ 13 ∷ 14 ∷ 15 ∷ []) []
one_piece = refl

literal : by_value (field forms.Longint (pos 32) false radixes.Literal []) 1413829460 ≡ in_literal (84 ∷ 69 ∷ 83 ∷ 84 ∷ [])
unfolding be
literal = refl

-- Statements.

-- a resource of the type `TEST` with these facts; the moment isn't shown
abbrev facts : ℤ → List ℕ → ℕ → Moment → Facts
facts id name attr moment = record { kind = record { code = 1413829460 }; id = id; name = name; attr = attr; moment = moment }

no_bytes : (moment : Moment) → lines_text (data_lines (facts (pos 128) [] 0 moment) []) ≡ codes "data 'TEST' (128) {\n    $\"\"\n};\n\n"
unfolding statement_lines head_lines head_front head_end be decimal_of digits
no_bytes moment = refl

named_preload : (moment : Moment) → lines_text (head_lines (codes "resource") 1413829460 (negsuc 0) (codes "Bird") 4) ≡ codes "resource 'TEST' (-1, \"Bird\", preload) {\n"
unfolding head_lines head_front head_end be decimal_of digits
named_preload moment = refl

attributes_by_number : lines_text (head_lines (codes "data") 1413829460 (pos 1) [] 129) ≡ codes "data 'TEST' (1, $81) {\n"
unfolding head_lines head_front head_end be decimal_of digits
attributes_by_number = refl

long_name : lines_text (head_lines (codes "data") 1413829460 (pos 1) (codes "0123456789012345678901234567890123456789012345678901234567890123AB") 0)
    ≡ codes "data 'TEST' (1,\n    \"0123456789012345678901234567890123456789012345678901234567890123\"\n    \"AB\") {\n"
unfolding head_lines head_front head_end be decimal_of digits
long_name = refl

-- forty bytes: two whole lines, and one of eight bytes
forty_bytes : (moment : Moment) → lines_text (data_lines (facts (pos 1) [] 0 moment) (replicate 40 170))
    ≡ codes "data 'TEST' (1) {\n    $\"AAAA AAAA AAAA AAAA AAAA AAAA AAAA AAAA\"\n    $\"AAAA AAAA AAAA AAAA AAAA AAAA AAAA AAAA\"\n    $\"AAAA AAAA AAAA AAAA\"\n};\n\n"
unfolding statement_lines head_lines head_front head_end be decimal_of digits
forty_bytes moment = refl

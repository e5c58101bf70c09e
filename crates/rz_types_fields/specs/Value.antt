-- What the expressions of fields, heads and declarations see, and their values. (MPW Rez.)
use Rattle.std.specs.Prelude.{◌≡◌, ℕ, ℤ, pos, Bool, true, false, if◌then◌else◌, List, [], ◌∷◌, Option, Some, None, Ok, Err}
use Rattle.std.specs.List.{list_all}
use Rattle.std.specs.Str.{str_eq_ignore_ascii_case}
use Rattle.std.specs.declared.result.Result.{Result}
use Rattle.rz_core.specs.Lists.{or_else}
use Rattle.rz_core.specs.declared.facts.Facts.{Facts}
use Rattle.rz_core.specs.declared.fault.Fault.{Fault}
use Rattle.rz_core.specs.declared.fault.Kept.TheVariants as kept
use Rattle.rz_core.specs.declared.fault.Mark.{Mark}
use Rattle.rz_expr.specs.Constant.{constant_sight}
use Rattle.rz_expr.specs.Environment.{place_of, predefined, Environment, Key, Sight}
use Rattle.rz_expr.specs.Mention.{alone, counted, fact, is_true_or_false, mentions, Mention}
use Rattle.rz_expr.specs.Term.{Term}
use Rattle.rz_expr.specs.Value.{value_of}
use Rattle.rz_expr.specs.declared.value.EvalFault.{EvalFault}
use Rattle.rz_expr.specs.declared.value.EvalFault.TheVariants.{BadIndex, BadShift, DataWidth, LaterData, UnknownName, ZeroDivisor}
use Rattle.rz_words.specs.declared.words.FactWord.{FactWord}
use Rattle.rz_words.specs.declared.words.FactWord.TheVariants as facts
use Rattle.rz_types_fields.specs.declared.field.Symbol.{Symbol}

-- Facts.

-- what is known of the resource and of the moment, as a number
abbrev pub fact_of : Facts → FactWord → ℤ
fact_of known facts.Id = known.id
fact_of known facts.Kind = pos known.kind.code
fact_of known facts.Attributes = pos known.attr
fact_of known facts.Year = known.moment.year
fact_of known facts.Month = pos known.moment.month
fact_of known facts.Day = pos known.moment.day
fact_of known facts.Hour = pos known.moment.hour
fact_of known facts.Minute = pos known.moment.minute
fact_of known facts.Second = pos known.moment.second
fact_of known facts.Weekday = pos known.moment.weekday

-- whether it is known before a resource is
abbrev pub is_date_fact : FactWord → Bool
is_date_fact facts.Id = false
is_date_fact facts.Kind = false
is_date_fact facts.Attributes = false
is_date_fact other = true

-- What expressions may mention, by where they stand.

-- in the head of a new resource: of the functions the numbers of the date and the time alone
abbrev pub in_new_head : Mention → Bool
in_new_head (fact which) = is_date_fact which
in_new_head other = is_true_or_false other

-- in the head for chosen resources, and in that of `data`: all facts
abbrev pub in_head : Mention → Bool
in_head (fact which) = true
in_head other = is_true_or_false other

-- in an item: all names by themselves, but no rows and no bits of what is laid out
abbrev pub in_item : Mention → Bool
in_item (alone name) = true
in_item (fact which) = true
in_item other = false

-- in the size of a text: labels, by themselves, in a row and with the bits after them, and the row around
abbrev pub in_size : Mention → Bool
in_size (counted name) = false
in_size other = true

-- in a fixed value: also arrays, by the number of their rows
abbrev pub in_fixed : Mention → Bool
in_fixed one = true

abbrev pub is_head_expression : Term → Bool
is_head_expression term = list_all in_new_head (mentions term)

abbrev pub is_field_expression : Term → Bool
is_field_expression term = list_all in_head (mentions term)

abbrev pub is_item_expression : Term → Bool
is_item_expression term = list_all in_item (mentions term)

abbrev pub is_size_expression : Term → Bool
is_size_expression term = list_all in_size (mentions term)

abbrev pub is_fixed_expression : Term → Bool
is_fixed_expression term = list_all in_fixed (mentions term)

-- What is seen.

-- the value of the first symbol of a name, in whatever case
abbrev pub symbol_value : List Symbol → List ℕ → Option ℤ
symbol_value [] name = None
symbol_value (symbol ∷ symbols) name = if str_eq_ignore_ascii_case symbol.name.bytes name then Some symbol.value else symbol_value symbols name

-- a name is a symbol of the field, else `true` or `false`
abbrev pub symbol_key : List Symbol → Key → Option ℤ
symbol_key symbols (place_of name) = or_else (symbol_value symbols name) (predefined name)
symbol_key symbols key = None

-- with the facts of a resource and a field's symbols
abbrev pub field_sight : Facts → List Symbol → Sight
field_sight known symbols = record { names = record { give = symbol_key symbols }; bits = λ first width. None; fact = fact_of known }

-- with the facts of a resource, bits, and names that have these values
abbrev pub see : Facts → (ℤ → ℤ → Option ℤ) → Environment → Sight
see known bits names = record { names = names; bits = bits; fact = fact_of known }

-- where no bits are there
abbrev pub no_bits : ℤ → ℤ → Option ℤ
no_bits first width = None

-- Values.

-- the fault of a value that is computed on this line
abbrev pub value_fault : Mark → EvalFault → Fault
value_fault mark ZeroDivisor = record { number = 211; mark = Some mark; kept = kept.Nothing }
value_fault mark (UnknownName word) = record { number = 203; mark = Some mark; kept = kept.Name word.bytes }
value_fault mark (BadIndex number) = record { number = 223; mark = Some mark; kept = kept.Number number }
value_fault mark (LaterData first behind) = record { number = 213; mark = Some mark; kept = kept.Number behind }
value_fault mark (DataWidth width) = record { number = 213; mark = Some mark; kept = kept.Number width }
value_fault mark (BadShift count) = record { number = 215; mark = Some mark; kept = kept.Number count }

abbrev pub with_fault : Mark → Result ℤ EvalFault → Result ℤ Fault
with_fault mark (Ok value) = Ok value
with_fault mark (Err fault) = Err (value_fault mark fault)

-- the value of an expression with the facts of a resource and the symbols of a field, or its first fault
abbrev pub symbol_number_of : Mark → Facts → List Symbol → Term → Result ℤ Fault
symbol_number_of mark known symbols term = with_fault mark (value_of term (field_sight known symbols))

-- the same without symbols
abbrev pub number_of : Mark → Facts → Term → Result ℤ Fault
number_of mark known term = symbol_number_of mark known [] term

-- the value of a constant, or its first fault
abbrev pub constant_value : Mark → Term → Result ℤ Fault
constant_value mark term = with_fault mark (value_of term constant_sight)

-- a value, a divisor of 0 or a bad shift, and nothing else
abbrev pub IsArithmetic : Result ℤ EvalFault → Type 0
IsArithmetic (Ok value) = Unit {0}
IsArithmetic (Err ZeroDivisor) = Unit {0}
IsArithmetic (Err (BadShift count)) = Unit {0}
IsArithmetic (Err other) = ⊥

-- 211 or 215 on this line
abbrev pub IsArithmeticFault : Mark → Fault → Type 0
IsArithmeticFault mark fault = (cause : EvalFault) × IsArithmetic (Err cause) × (fault ≡ value_fault mark cause)

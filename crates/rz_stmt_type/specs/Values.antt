-- The values of symbols. (MPW Rez.)
use Rattle.std.specs.Prelude.{ℤ, pos, ◌+ℤ◌, Bool, if◌then◌else◌, List, [], ◌∷◌, Option, Some, None, Ok, Err}
use Rattle.std.specs.declared.result.Result.{Result}
use Rattle.rz_core.specs.Stop.{◌>>=◌}
use Rattle.rz_core.specs.declared.fault.Fault.{Fault}
use Rattle.rz_core.specs.declared.fault.Kept.TheVariants as kept
use Rattle.rz_core.specs.declared.fault.Mark.{Mark}
use Rattle.rz_core.specs.declared.resource.Word.{Word}
use Rattle.rz_expr.specs.Term.{Term}
use Rattle.rz_expr.specs.Value.{reduced}
use Rattle.rz_stmt_fields.specs.Form.{NamedTerm}
use Rattle.rz_types_fields.specs.Value.{constant_value}
use Rattle.rz_types_fields.specs.declared.field.Symbol.{Symbol}

-- the value that is given, or else the next one
abbrev pub given_or : Mark → ℤ → Option Term → Result ℤ Fault
given_or mark next None = Ok next
given_or mark next (Some term) = constant_value mark term

-- 207 for a value outside the range
abbrev pub out_of_range : Mark → ℤ → Fault
out_of_range mark value = record { number = 207; mark = Some mark; kept = kept.Number value }

-- a symbol with its value in front of those after it, which go on from the next value
abbrev pub with_value : (ℤ → Bool) → Mark → Word → (ℤ → Result (List Symbol) Fault) → ℤ → Result (List Symbol) Fault
with_value fits mark name more value =
    if fits value then more (reduced (value +ℤ pos 1)) >>= (λ others. Ok (record { name = name; value = value } ∷ others))
    else Err (out_of_range mark value)

-- the symbols with their values, or the first fault; one without a value has the next, which is one more than the one
-- before, wrapped to 32 bits
abbrev pub values_of : (ℤ → Bool) → Mark → ℤ → List NamedTerm → Result (List Symbol) Fault
values_of fits mark next [] = Ok []
values_of fits mark next (symbol ∷ symbols) =
    given_or mark next symbol.value >>= with_value fits mark symbol.name (λ value. values_of fits mark value symbols)

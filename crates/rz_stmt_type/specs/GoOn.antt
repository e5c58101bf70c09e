-- The symbols of a number in the words of the language.
use Rattle.std.specs.Prelude.{◌≡◌, ◌⊎◌, ℕ, zero, suc, ℤ, pos, ◌+ℤ◌, Bool, true, false, List, length, slice_get, take, Some, None, Ok, Err}
use Rattle.rz_core.specs.declared.fault.Fault.{Fault}
use Rattle.rz_core.specs.declared.fault.Mark.{Mark}
use Rattle.rz_expr.specs.Term.{Term}
use Rattle.rz_expr.specs.Value.{reduced}
use Rattle.rz_types_fields.specs.Value.{constant_value}
use Rattle.rz_stmt_fields.specs.Form.{NamedTerm}
use Rattle.rz_stmt_type.specs.Values.{given_or, out_of_range}
use Rattle.rz_types_fields.specs.declared.field.Symbol.{Symbol}

-- one more than the symbol before, or at the front the first value
abbrev pub IsNext : ℤ → ℕ → List Symbol → ℤ → Type 0
IsNext first zero symbols value = value ≡ first
IsNext first (suc k) symbols value = (before : Symbol) → slice_get symbols k ≡ Some before → value ≡ reduced (before.value +ℤ pos 1)

-- the symbol at this position has its name, a value in the range, and the one that is given, or else the next
pub record HasItsValue (fits : ℤ → Bool) (mark : Mark) (first : ℤ) (symbols : List Symbol) (k : ℕ) (named : NamedTerm) (symbol : Symbol) : Type 0 where
  pub name : symbol.name ≡ named.name
  pub in_range : fits symbol.value ≡ true
  pub given : (term : Term) → named.value ≡ Some term → constant_value mark term ≡ Ok symbol.value
  pub onward : named.value ≡ None → IsNext first k symbols symbol.value

-- so have they all
pub record HaveValues (fits : ℤ → Bool) (mark : Mark) (first : ℤ) (names : List NamedTerm) (symbols : List Symbol) : Type 0 where
  pub each : (k : ℕ) (named : NamedTerm) (symbol : Symbol) → slice_get names k ≡ Some named → slice_get symbols k ≡ Some symbol
      → HasItsValue fits mark first symbols k named symbol
  pub as_many : length symbols ≡ length names

-- the fault of a symbol whose next value is this one: that of the value that is given, or 207 for a value outside the range
abbrev pub IsFaultOf : (ℤ → Bool) → Mark → ℤ → NamedTerm → Fault → Type 0
IsFaultOf fits mark next named fault =
    (given_or mark next named.value ≡ Err fault)
    ⊎ ((value : ℤ) × (given_or mark next named.value ≡ Ok value) × (fits value ≡ false) × (fault ≡ out_of_range mark value))

-- so many symbols have their values, and the one after them has this fault
pub record GoWrong (fits : ℤ → Bool) (mark : Mark) (first : ℤ) (names : List NamedTerm) (fault : Fault) : Type 0 where
  pub count : ℕ
  pub symbols : List Symbol
  pub front : HaveValues fits mark first (take count names) symbols
  pub named : NamedTerm
  pub stands : slice_get names count ≡ Some named
  pub next : ℤ
  pub onward : IsNext first count symbols next
  pub wrong : IsFaultOf fits mark next named fault

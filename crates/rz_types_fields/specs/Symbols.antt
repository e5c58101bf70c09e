-- The symbols of a number, looked up by their names, and which of them gives a number. (MPW Rez; as MPW DeRez shows them.)
use Rattle.std.specs.Prelude.{◌≡◌, ℕ, ◌==◌, ℤ, nat_abs, nat_eq, Bool, false, bytes_eq, if◌then◌else◌, List, [], ◌∷◌, Option, Some, None, Vec}
use Rattle.std.specs.HashMap.{get, get_by, HashMap}
use Rattle.std.specs.List.{position_from}
use Rattle.std.specs.Str.{str_to_ascii_lowercase}
use Rattle.rz_core.specs.declared.resource.Word.{Word}
use Rattle.rz_expr.specs.Value.{reduced}
use Rattle.rz_types_fields.specs.Stored.{stored_number}
use Rattle.rz_types_fields.specs.Value.{symbol_value}
use Rattle.rz_types_fields.specs.declared.field.Symbol.{Symbol}
use Rattle.rz_types_fields.specs.declared.symbol_list.SymbolIndex.{SymbolIndex}

-- a value of a symbol, reduced to 32 bits as that of an expression is, is stored as the number
abbrev pub is_stored : (width number : ℕ) → Option ℤ → Bool
is_stored width number None = false
is_stored width number (Some value) = stored_number width (reduced value) == number

-- the first of these symbols that, looked up among all by its name, gives the number
abbrev pub symbol_for : (all : List Symbol) → (width number : ℕ) → List Symbol → Option Word
symbol_for all width number [] = None
symbol_for all width number (one ∷ symbols) =
    if is_stored width number (symbol_value all one.name.bytes) then Some one.name else symbol_for all width number symbols

-- What the code holds.

-- a symbol has this name in lower case
abbrev pub is_low : List ℕ → Symbol → Bool
is_low low symbol = bytes_eq (str_to_ascii_lowercase symbol.name.bytes) low

-- a symbol, looked up among all by its name, gives the number
abbrev pub gives : (all : List Symbol) → (width number : ℕ) → Symbol → Bool
gives all width number symbol = is_stored width number (symbol_value all symbol.name.bytes)

-- by each name in lower case the position of the first symbol of the name
abbrev pub AreFirsts : {A S : Type 0} → List Symbol → HashMap (Vec ℕ A) ℕ S → Type 0
AreFirsts symbols firsts = (low : List ℕ) → get_by (λ key. bytes_eq low key.items) firsts ≡ position_from (is_low low) 0 symbols

-- by each number the position of the first symbol that gives it
abbrev pub ArePlaces : {S : Type 0} → List Symbol → (width : ℕ) → HashMap ℕ ℕ S → Type 0
ArePlaces symbols width places = (number : ℕ) → get nat_eq places number ≡ position_from (gives symbols width number) 0 symbols

pub record IsIndexOf (symbols : List Symbol) (index : SymbolIndex) : Type 0 where
  pub firsts : AreFirsts symbols index.firsts
  pub places : ArePlaces symbols (nat_abs index.width) index.places

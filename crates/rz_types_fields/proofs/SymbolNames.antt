-- A symbol is found by its name in whatever case.
use Rattle.std.proofs.Common.{◌≡◌, ℕ, ℤ, List, [], ◌∷◌, Option, Some, None, refl, sym, ap, ◌∙◌}
use Rattle.std.specs.Prelude.{if◌then◌else◌}
use Rattle.std.specs.Str.{str_to_ascii_lowercase}
use Rattle.rz_core.specs.Lists.{or_else}
use Rattle.rz_expr.specs.Environment.{predefined}
use Rattle.rz_types_fields.specs.Value.{symbol_value}
use Rattle.rz_types_fields.specs.declared.field.Symbol.{Symbol}
use Rattle.rz_types_fields.proofs.SameNames.{lower_name}

lower_symbol : (symbols : List Symbol) (name : List ℕ) → symbol_value symbols (str_to_ascii_lowercase name) ≡ symbol_value symbols name
lower_symbol [] name = refl
lower_symbol (symbol ∷ symbols) name =
    (λ i. if lower_name symbol.name.bytes name i then Some symbol.value else lower_symbol symbols name i)

pub as_symbol : (symbols : List Symbol) (name : List ℕ) (value : ℤ) → symbol_value symbols name ≡ Some value
    → Some value ≡ or_else (symbol_value symbols (str_to_ascii_lowercase name)) (predefined (str_to_ascii_lowercase name))
as_symbol symbols name value is = sym (ap (λ (o : Option ℤ). or_else o (predefined (str_to_ascii_lowercase name))) (lower_symbol symbols name ∙ is))

pub no_symbol : (symbols : List Symbol) (name : List ℕ) → symbol_value symbols name ≡ None
    → predefined (str_to_ascii_lowercase name) ≡ or_else (symbol_value symbols (str_to_ascii_lowercase name)) (predefined (str_to_ascii_lowercase name))
no_symbol symbols name is = sym (ap (λ (o : Option ℤ). or_else o (predefined (str_to_ascii_lowercase name))) (lower_symbol symbols name ∙ is))

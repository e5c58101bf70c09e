-- Symbols have their values.
use Rattle.std.proofs.Common.{◌≡◌, ℕ, zero, suc, ℤ, Bool, true, false, if◌then◌else◌, List, [], ◌∷◌, Option, Some, None, Ok, Err, refl, sym, ap, subst, ◌∙◌}
use Rattle.std.specs.Prelude.{pos, ◌+ℤ◌, slice_get}
use Rattle.std.specs.declared.result.Result.{Result}
use Rattle.std.proofs.lemmas.Option.{same_Some}
use Rattle.rz_core.specs.Stop.{◌>>=◌}
use Rattle.rz_core.specs.declared.fault.Fault.{Fault}
use Rattle.rz_core.specs.declared.fault.Mark.{Mark}
use Rattle.rz_expr.specs.Term.{Term}
use Rattle.rz_expr.specs.Value.{reduced}
use Rattle.rz_stmt_type.specs.GoOn.{HasItsValue, HaveValues, IsNext}
use Rattle.rz_types_fields.specs.Value.{constant_value}
use Rattle.rz_stmt_fields.specs.Form.{NamedTerm}
use Rattle.rz_stmt_type.specs.Values.{given_or, out_of_range, values_of, with_value}
use Rattle.rz_types_fields.specs.declared.field.Symbol.{Symbol}

module _ (fits : ℤ → Bool) (mark : Mark) where
  given_value : (next : ℤ) (given : Option Term) (value : ℤ) → given_or mark next given ≡ Ok value → (term : Term) → given ≡ Some term → constant_value mark term ≡ Ok value
  given_value next None value is term given = cc
  given_value next (Some other) value is term given = ap (constant_value mark) (sym (same_Some other term given)) ∙ is

  next_value : (next : ℤ) (given : Option Term) (value : ℤ) → given_or mark next given ≡ Ok value → given ≡ None → value ≡ next
  next_value next None value is none = cc
  next_value next (Some other) value is none = cc

  module _ (next : ℤ) (named : NamedTerm) (names : List NamedTerm) (value : ℤ) (is : given_or mark next named.value ≡ Ok value) (inside : fits value ≡ true)
      (others : List Symbol) (rest : HaveValues fits mark (reduced (value +ℤ pos 1)) names others) where
    pub behind : (k : ℕ) (own : ℤ) → IsNext (reduced (value +ℤ pos 1)) k others own → IsNext next (suc k) (record { name = named.name; value = value } ∷ others) own
    behind zero own so = λ before here. so ∙ ap (λ (s : Symbol). reduced (s.value +ℤ pos 1)) (same_Some (record { name = named.name; value = value }) before here)
    behind (suc k) own so = so

    pub onto : HaveValues fits mark next (named ∷ names) (record { name = named.name; value = value } ∷ others)
    onto = record { each = each; as_many = ap suc rest.as_many }
      where
        each : (k : ℕ) (n : NamedTerm) (s : Symbol) → slice_get (named ∷ names) k ≡ Some n → slice_get (record { name = named.name; value = value } ∷ others) k ≡ Some s
            → HasItsValue fits mark next (record { name = named.name; value = value } ∷ others) k n s
        each zero n s here there =
            let same : named ≡ n = same_Some named n here in
            let also : record { name = named.name; value = value } ≡ s = same_Some (record { name = named.name; value = value }) s there in
            subst (λ (m : NamedTerm). HasItsValue fits mark next (record { name = named.name; value = value } ∷ others) zero m s) same
            (subst (λ (t : Symbol). HasItsValue fits mark next (record { name = named.name; value = value } ∷ others) zero named t) also
            (record { name = refl; in_range = inside; given = given_value next named.value value is; onward = next_value next named.value value is }))
        each (suc k) n s here there =
            let it = rest.each k n s here there in
            record { name = it.name; in_range = it.in_range; given = it.given; onward = λ none. behind k s.value (it.onward none) }

  by_rest : (next : ℤ) (named : NamedTerm) (names : List NamedTerm) (value : ℤ) → given_or mark next named.value ≡ Ok value → fits value ≡ true
      → (more : Result (List Symbol) Fault) → ((others : List Symbol) → more ≡ Ok others → HaveValues fits mark (reduced (value +ℤ pos 1)) names others)
      → (symbols : List Symbol) → (more >>= (λ others. Ok (record { name = named.name; value = value } ∷ others))) ≡ Ok symbols → HaveValues fits mark next (named ∷ names) symbols
  by_rest next named names value is inside (Ok others) rest symbols made =
      let same : record { name = named.name; value = value } ∷ others ≡ symbols = cc in
      subst (HaveValues fits mark next (named ∷ names)) same (onto next named names value is inside others (rest others refl))
  by_rest next named names value is inside (Err fault) rest symbols made = cc

  by_range : (next : ℤ) (named : NamedTerm) (names : List NamedTerm) (value : ℤ) → given_or mark next named.value ≡ Ok value → (b : Bool) → fits value ≡ b
      → ((others : List Symbol) → values_of fits mark (reduced (value +ℤ pos 1)) names ≡ Ok others → HaveValues fits mark (reduced (value +ℤ pos 1)) names others)
      → (symbols : List Symbol)
      → (if b then values_of fits mark (reduced (value +ℤ pos 1)) names >>= (λ others. Ok (record { name = named.name; value = value } ∷ others)) else Err (out_of_range mark value)) ≡ Ok symbols
      → HaveValues fits mark next (named ∷ names) symbols
  by_range next named names value is true inside rest symbols made =
      by_rest next named names value is inside (values_of fits mark (reduced (value +ℤ pos 1)) names) rest symbols made
  by_range next named names value is false inside rest symbols made = cc

  by_given : (next : ℤ) (named : NamedTerm) (names : List NamedTerm) (found : Result ℤ Fault) → given_or mark next named.value ≡ found
      → ((start : ℤ) (others : List Symbol) → values_of fits mark start names ≡ Ok others → HaveValues fits mark start names others)
      → (symbols : List Symbol) → (found >>= with_value fits mark named.name (λ start. values_of fits mark start names)) ≡ Ok symbols → HaveValues fits mark next (named ∷ names) symbols
  by_given next named names (Ok value) is rest symbols made =
      by_range next named names value is (fits value) refl (rest (reduced (value +ℤ pos 1))) symbols made
  by_given next named names (Err fault) is rest symbols made = cc

  pub have_values : (names : List NamedTerm) (next : ℤ) (symbols : List Symbol) → values_of fits mark next names ≡ Ok symbols → HaveValues fits mark next names symbols
  have_values [] next symbols made =
      let none : [] ≡ symbols = cc in
      subst (HaveValues fits mark next []) none (record { each = λ k named symbol here there. cc; as_many = refl })
  have_values (named ∷ names) next symbols made = by_given next named names (given_or mark next named.value) refl (have_values names) symbols made

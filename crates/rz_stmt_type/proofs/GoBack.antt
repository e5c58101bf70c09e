-- Symbols that have their values are those that are computed, and so is the fault of the first that has none.
use Rattle.std.proofs.Common.{◌≡◌, ℕ, zero, suc, ℤ, Bool, if◌then◌else◌, inl, inr, List, [], ◌∷◌, take, Option, Some, None, Ok, Err, refl, sym, ap, subst, ◌∙◌, arith}
use Rattle.std.specs.Prelude.{pos, ◌+ℤ◌, slice_get}
use Rattle.std.specs.declared.result.Result.{Result}
use Rattle.std.proofs.lemmas.Option.{same_Some}
use Rattle.rz_core.specs.Stop.{◌>>=◌}
use Rattle.rz_core.specs.declared.fault.Fault.{Fault}
use Rattle.rz_core.specs.declared.fault.Mark.{Mark}
use Rattle.rz_expr.specs.Term.{Term}
use Rattle.rz_expr.specs.Value.{reduced}
use Rattle.rz_stmt_fields.specs.Form.{NamedTerm}
use Rattle.rz_stmt_type.specs.GoOn.{GoWrong, HasItsValue, HaveValues, IsFaultOf, IsNext}
use Rattle.rz_stmt_type.specs.Values.{given_or, out_of_range, values_of, with_value}
use Rattle.rz_types_fields.specs.declared.field.Symbol.{Symbol}

module _ (fits : ℤ → Bool) (mark : Mark) where
  onto_next : (first : ℤ) (k : ℕ) (symbol : Symbol) (symbols : List Symbol) (value : ℤ) → IsNext first (suc k) (symbol ∷ symbols) value
      → IsNext (reduced (symbol.value +ℤ pos 1)) k symbols value
  onto_next first zero symbol symbols value so = so symbol refl
  onto_next first (suc k) symbol symbols value so = so

  module _ (first : ℤ) (named : NamedTerm) (names : List NamedTerm) (symbol : Symbol) (symbols : List Symbol) (have : HaveValues fits mark first (named ∷ names) (symbol ∷ symbols)) where
    behind_first : HaveValues fits mark (reduced (symbol.value +ℤ pos 1)) names symbols
    behind_first = record { each = each; as_many = omega (arith, have.as_many) }
      where
        each : (k : ℕ) (n : NamedTerm) (s : Symbol) → slice_get names k ≡ Some n → slice_get symbols k ≡ Some s
            → HasItsValue fits mark (reduced (symbol.value +ℤ pos 1)) symbols k n s
        each k n s here there =
            let it = have.each (suc k) n s here there in
            record { name = it.name; in_range = it.in_range; given = it.given; onward = λ none. onto_next first k symbol symbols s.value (it.onward none) }

    own : HasItsValue fits mark first (symbol ∷ symbols) zero named symbol
    own = have.each zero named symbol refl refl

    own_value : given_or mark first named.value ≡ Ok symbol.value
    own_value = by named.value refl
      where
        by : (given : Option Term) → named.value ≡ given → given_or mark first given ≡ Ok symbol.value
        by None none = ap (λ (z : ℤ). Ok z) (sym (own.onward none))
        by (Some term) has = own.given term has

    -- the first symbol, and what comes of those after it
    goes_on : values_of fits mark first (named ∷ names)
        ≡ (values_of fits mark (reduced (symbol.value +ℤ pos 1)) names >>= (λ others. Ok (record { name = named.name; value = symbol.value } ∷ others)))
    goes_on =
        ap (λ (r : Result ℤ Fault). r >>= with_value fits mark named.name (λ value. values_of fits mark value names)) own_value
        ∙ ap (λ b. if b then values_of fits mark (reduced (symbol.value +ℤ pos 1)) names >>= (λ others. Ok (record { name = named.name; value = symbol.value } ∷ others))
        else Err (out_of_range mark symbol.value)) own.in_range

  pub have_back : (names : List NamedTerm) (first : ℤ) (symbols : List Symbol) → HaveValues fits mark first names symbols → values_of fits mark first names ≡ Ok symbols
  have_back [] first [] have = refl
  have_back [] first (symbol ∷ symbols) have = absurd (omega (arith, have.as_many))
  have_back (named ∷ names) first [] have = absurd (omega (arith, have.as_many))
  have_back (named ∷ names) first (symbol ∷ symbols) have =
      goes_on first named names symbol symbols have
      ∙ ap (λ (r : Result (List Symbol) Fault). r >>= (λ others. Ok (record { name = named.name; value = symbol.value } ∷ others)))
      (have_back names (reduced (symbol.value +ℤ pos 1)) symbols (behind_first first named names symbol symbols have))
      ∙ ap (λ (s : Symbol). Ok (s ∷ symbols)) (same (own first named names symbol symbols have).name)
    where
      same : symbol.name ≡ named.name → record { name = named.name; value = symbol.value } ≡ symbol
      same is = λ i. record { name = sym is i; value = symbol.value }

  at_once : (next : ℤ) (named : NamedTerm) (names : List NamedTerm) (fault : Fault) → IsFaultOf fits mark next named fault → values_of fits mark next (named ∷ names) ≡ Err fault
  at_once next named names fault (inl faulty) =
      ap (λ (r : Result ℤ Fault). r >>= with_value fits mark named.name (λ value. values_of fits mark value names)) faulty
  at_once next named names fault (inr (value, is, outside, so)) =
      ap (λ (r : Result ℤ Fault). r >>= with_value fits mark named.name (λ value. values_of fits mark value names)) is
      ∙ ap (λ b. if b then values_of fits mark (reduced (value +ℤ pos 1)) names >>= (λ others. Ok (record { name = named.name; value = value } ∷ others))
      else Err (out_of_range mark value)) outside
      ∙ ap (λ (f : Fault). Err f) (sym so)

  -- the same, where more names follow than have values
  goes_on_all : (first : ℤ) (named : NamedTerm) (names : List NamedTerm) (symbol : Symbol) (symbols : List Symbol) (count : ℕ)
      → HaveValues fits mark first (named ∷ take count names) (symbol ∷ symbols) → values_of fits mark first (named ∷ names)
      ≡ (values_of fits mark (reduced (symbol.value +ℤ pos 1)) names >>= (λ others. Ok (record { name = named.name; value = symbol.value } ∷ others)))
  goes_on_all first named names symbol symbols count have =
      ap (λ (r : Result ℤ Fault). r >>= with_value fits mark named.name (λ value. values_of fits mark value names)) (own_value first named (take count names) symbol symbols have)
      ∙ ap (λ b. if b then values_of fits mark (reduced (symbol.value +ℤ pos 1)) names >>= (λ others. Ok (record { name = named.name; value = symbol.value } ∷ others))
      else Err (out_of_range mark symbol.value)) (own first named (take count names) symbol symbols have).in_range

  behind : (count : ℕ) (names : List NamedTerm) (first : ℤ) (symbols : List Symbol) (named : NamedTerm) (next : ℤ) (fault : Fault)
      → HaveValues fits mark first (take count names) symbols → slice_get names count ≡ Some named → IsNext first count symbols next → IsFaultOf fits mark next named fault
      → values_of fits mark first names ≡ Err fault
  behind zero [] first symbols named next fault have stands onward wrong = cc
  behind (suc count) [] first symbols named next fault have stands onward wrong = cc
  behind zero (name ∷ names) first symbols named next fault have stands onward wrong =
      at_once first name names fault
      (subst (λ (n : NamedTerm). IsFaultOf fits mark first n fault) (sym (same_Some name named stands))
      (subst (λ (z : ℤ). IsFaultOf fits mark z named fault) onward wrong))
  behind (suc count) (name ∷ names) first [] named next fault have stands onward wrong = absurd (omega (arith, have.as_many))
  behind (suc count) (name ∷ names) first (symbol ∷ symbols) named next fault have stands onward wrong =
      goes_on_all first name names symbol symbols count have
      ∙ ap (λ (r : Result (List Symbol) Fault). r >>= (λ others. Ok (record { name = name.name; value = symbol.value } ∷ others)))
      (behind count names (reduced (symbol.value +ℤ pos 1)) symbols named next fault (behind_first first name (take count names) symbol symbols have) stands
      (onto_next first count symbol symbols next onward) wrong)

  pub wrong_back : (names : List NamedTerm) (first : ℤ) (fault : Fault) → GoWrong fits mark first names fault → values_of fits mark first names ≡ Err fault
  wrong_back names first fault it = behind it.count names first it.symbols it.named it.next fault it.front it.stands it.onward it.wrong

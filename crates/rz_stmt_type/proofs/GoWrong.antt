-- The first symbol that has no value.
use Rattle.std.proofs.Common.{◌≡◌, inl, inr, suc, ℤ, Bool, true, false, if◌then◌else◌, List, [], ◌∷◌, take, Ok, Err, refl, ap, subst, ◌∙◌}
use Rattle.std.specs.Prelude.{pos, ◌+ℤ◌}
use Rattle.std.specs.declared.result.Result.{Result}
use Rattle.rz_core.specs.Stop.{◌>>=◌}
use Rattle.rz_core.specs.declared.fault.Fault.{Fault}
use Rattle.rz_core.specs.declared.fault.Mark.{Mark}
use Rattle.rz_expr.specs.Value.{reduced}
use Rattle.rz_stmt_type.specs.GoOn.{GoWrong, HaveValues, IsFaultOf}
use Rattle.rz_stmt_fields.specs.Form.{NamedTerm}
use Rattle.rz_stmt_type.specs.Values.{given_or, out_of_range, values_of, with_value}
use Rattle.rz_stmt_type.proofs.GoOn.{behind, onto}
use Rattle.rz_types_fields.specs.declared.field.Symbol.{Symbol}

module _ (fits : ℤ → Bool) (mark : Mark) where
  nothing : (next : ℤ) → HaveValues fits mark next [] []
  nothing next = record { each = λ k named symbol here there. cc; as_many = refl }

  at_front : (next : ℤ) (named : NamedTerm) (names : List NamedTerm) (fault : Fault) → IsFaultOf fits mark next named fault → GoWrong fits mark next (named ∷ names) fault
  at_front next named names fault wrong =
      record { count = 0; symbols = []; front = nothing next; named = named; stands = refl; next = next; onward = refl; wrong = wrong }

  module _ (next : ℤ) (named : NamedTerm) (names : List NamedTerm) (value : ℤ) (is : given_or mark next named.value ≡ Ok value) (fault : Fault) where
    later : fits value ≡ true → GoWrong fits mark (reduced (value +ℤ pos 1)) names fault → GoWrong fits mark next (named ∷ names) fault
    later inside rest = record {
      count = suc rest.count;
      symbols = record { name = named.name; value = value } ∷ rest.symbols;
      front = onto fits mark next named (take rest.count names) value is inside rest.symbols rest.front;
      named = rest.named;
      stands = rest.stands;
      next = rest.next;
      onward = behind fits mark next named (take rest.count names) value is inside rest.symbols rest.front rest.count rest.next rest.onward;
      wrong = rest.wrong;
    }

    by_rest : fits value ≡ true → (more : Result (List Symbol) Fault) → ((other : Fault) → more ≡ Err other → GoWrong fits mark (reduced (value +ℤ pos 1)) names other)
        → (more >>= (λ others. Ok (record { name = named.name; value = value } ∷ others))) ≡ Err fault → GoWrong fits mark next (named ∷ names) fault
    by_rest inside (Ok others) rest made = cc
    by_rest inside (Err other) rest made =
        let same : other ≡ fault = cc in
        later inside (subst (GoWrong fits mark (reduced (value +ℤ pos 1)) names) same (rest other refl))

    by_range : (b : Bool) → fits value ≡ b → ((other : Fault) → values_of fits mark (reduced (value +ℤ pos 1)) names ≡ Err other → GoWrong fits mark (reduced (value +ℤ pos 1)) names other)
        → (if b then values_of fits mark (reduced (value +ℤ pos 1)) names >>= (λ others. Ok (record { name = named.name; value = value } ∷ others)) else Err (out_of_range mark value)) ≡ Err fault
        → GoWrong fits mark next (named ∷ names) fault
    by_range true inside rest made = by_rest inside (values_of fits mark (reduced (value +ℤ pos 1)) names) rest made
    by_range false outside rest made =
        let same : fault ≡ out_of_range mark value = cc in
        at_front next named names fault (inr (value, is, outside, same))

  by_given : (next : ℤ) (named : NamedTerm) (names : List NamedTerm) (found : Result ℤ Fault) → given_or mark next named.value ≡ found
      → ((start : ℤ) (other : Fault) → values_of fits mark start names ≡ Err other → GoWrong fits mark start names other)
      → (fault : Fault) → (found >>= with_value fits mark named.name (λ start. values_of fits mark start names)) ≡ Err fault → GoWrong fits mark next (named ∷ names) fault
  by_given next named names (Ok value) is rest fault made = by_range next named names value is fault (fits value) refl (rest (reduced (value +ℤ pos 1))) made
  by_given next named names (Err other) is rest fault made =
      let same : other ≡ fault = cc in
      at_front next named names fault (inl (is ∙ ap (λ (f : Fault). Err f) same))

  pub go_wrong : (names : List NamedTerm) (next : ℤ) (fault : Fault) → values_of fits mark next names ≡ Err fault → GoWrong fits mark next names fault
  go_wrong [] next fault made = cc
  go_wrong (named ∷ names) next fault made = by_given next named names (given_or mark next named.value) refl (go_wrong names) fault made

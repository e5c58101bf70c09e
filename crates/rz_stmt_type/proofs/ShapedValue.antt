-- The values of numbers that are written are well shaped.
use Rattle.std.proofs.Common.{◌≡◌, ℤ, ◌&&◌, Bool, true, false, if◌then◌else◌, List, [], ◌∷◌, Option, Some, None, Ok, Err, refl, sym, ap, subst, ◌∙◌}
use Rattle.std.specs.Prelude.{pos, ◌+ℤ◌}
use Rattle.std.specs.List.{list_all}
use Rattle.std.specs.Option.{is_some}
use Rattle.std.specs.Ordering.{int_eq}
use Rattle.std.specs.Result.{result_ok}
use Rattle.std.specs.declared.result.Result.{Result}
use Rattle.std.proofs.lemmas.Bool.Decides.{Decides-int_eq}
use Rattle.std.proofs.lemmas.Option.{same_Some}
use Rattle.rz_core.proofs.Tests.{both, true_false}
use Rattle.rz_core.specs.Stop.{◌>>=◌}
use Rattle.rz_core.specs.declared.fault.Fault.{Fault}
use Rattle.rz_core.specs.declared.fault.Mark.{Mark}
use Rattle.rz_expr.specs.Term.{Term}
use Rattle.rz_expr.specs.Constant.{constant_sight, is_constant}
use Rattle.rz_expr.specs.Value.{reduced, value_of}
use Rattle.rz_expr.specs.declared.value.EvalFault.{EvalFault}
use Rattle.rz_stmt_type.specs.Constants.{key_value, number_value, width_value}
use Rattle.rz_stmt_fields.specs.Form.{NamedTerm, NumberForm, Own, WidthForm, Written}
use Rattle.rz_stmt_type.specs.Values.{given_or, out_of_range, values_of, with_value}
use Rattle.rz_stmt_fields.proofs.Answering.{same_ok, then_ok}
use Rattle.rz_stmt_fields.proofs.ShapedNumber.{AreNamesShaped, IsFixedShaped, IsKeyFormed, IsKeyFormedBy, IsNumberFormed, IsWidthOf}
use Rattle.rz_types_fields.specs.Field.{PlainNumber}
use Rattle.rz_types_fields.specs.Range.{fits_number, own_width}
use Rattle.rz_types_fields.specs.Shape.{has_value, is_empty, is_fixed_number, is_none_or, is_number_shaped, is_own_width, is_symbol_name, is_symbol_of, may_be_key}
use Rattle.rz_types_fields.specs.Value.{is_fixed_expression, with_fault}
use Rattle.rz_types_fields.specs.declared.field.NumForm.{NumForm}
use Rattle.rz_types_fields.specs.declared.field.Symbol.{Symbol}

-- Symbols with their values.

module _ (form : NumForm) (width : ℤ) (mark : Mark) where
  abbrev AreShaped : List Symbol → Type 0
  AreShaped symbols = list_all (is_symbol_of form width) symbols ≡ true

  by_rest : (named : NamedTerm) (value : ℤ) → is_symbol_name named.name.bytes ≡ true → fits_number form width value ≡ true
      → (more : Result (List Symbol) Fault) → ((others : List Symbol) → more ≡ Ok others → AreShaped others)
      → (symbols : List Symbol) → (more >>= (λ others. Ok (record { name = named.name; value = value } ∷ others))) ≡ Ok symbols → AreShaped symbols
  by_rest named value name inside (Ok others) rest symbols made =
      let same : record { name = named.name; value = value } ∷ others ≡ symbols = cc in
      let behind = rest others refl in
      subst AreShaped same (λ i. (name i && inside i) && behind i)
  by_rest named value name inside (Err fault) rest symbols made = cc

  module _ (named : NamedTerm) (names : List NamedTerm) (name : is_symbol_name named.name.bytes ≡ true)
      (rest : (start : ℤ) (others : List Symbol) → values_of (fits_number form width) mark start names ≡ Ok others → AreShaped others) where
    by_range : (value : ℤ) (b : Bool) → fits_number form width value ≡ b → (symbols : List Symbol)
        → (if b then values_of (fits_number form width) mark (reduced (value +ℤ pos 1)) names >>= (λ others. Ok (record { name = named.name; value = value } ∷ others))
        else Err (out_of_range mark value)) ≡ Ok symbols → AreShaped symbols
    by_range value true inside symbols made =
        by_rest named value name inside (values_of (fits_number form width) mark (reduced (value +ℤ pos 1)) names) (rest (reduced (value +ℤ pos 1))) symbols made
    by_range value false inside symbols made = cc

    by_given : (found : Result ℤ Fault) (symbols : List Symbol)
        → (found >>= with_value (fits_number form width) mark named.name (λ start. values_of (fits_number form width) mark start names)) ≡ Ok symbols → AreShaped symbols
    by_given (Ok value) symbols made = by_range value (fits_number form width value) refl symbols made
    by_given (Err fault) symbols made = cc

  symbols_shaped : (names : List NamedTerm) → AreNamesShaped names → (next : ℤ) (symbols : List Symbol)
      → values_of (fits_number form width) mark next names ≡ Ok symbols → AreShaped symbols
  symbols_shaped [] shaped next symbols made =
      let none : [] ≡ symbols = cc in
      subst AreShaped none refl
  symbols_shaped (named ∷ names) shaped next symbols made =
      by_given named names shaped.0 (symbols_shaped names shaped.1) (given_or mark next named.value) symbols made

  fixed_shaped : (names : List NamedTerm) (fixed : Option Term) → IsFixedShaped names fixed → (next : ℤ) (symbols : List Symbol)
      → values_of (fits_number form width) mark next names ≡ Ok symbols → is_fixed_number symbols fixed ≡ true
  fixed_shaped names None is next symbols made = refl
  fixed_shaped names (Some term) is next symbols made =
      subst (λ (l : List Symbol). is_fixed_number l (Some term) ≡ true)
      (none (ap (λ (l : List NamedTerm). values_of (fits_number form width) mark next l) (sym is.1) ∙ made))
      (λ i. is.0 i && true)
    where
      none : ◌≡◌ {A = Result (List Symbol) Fault} (Ok []) (Ok symbols) → [] ≡ symbols
      none e = cc e

-- Widths.

own_by : (width bits : ℤ) (own : Option ℤ) → own ≡ Some bits → bits ≡ width → is_none_or (int_eq width) own ≡ true
own_by width bits (Some other) is same = (Decides-int_eq width other).1 (sym same ∙ sym (same_Some other bits is))
own_by width bits None is same = refl

none_own : (width : ℤ) (own : Option ℤ) → own ≡ None → is_none_or (int_eq width) own ≡ true
none_own width None is = refl
none_own width (Some bits) is = cc

width_shaped : (mark : Mark) (form : NumForm) (written : WidthForm) (width : ℤ) → IsWidthOf form written → width_value mark written ≡ Ok width → is_own_width form width ≡ true
width_shaped mark form (Own bits) width is made = own_by width bits (own_width form) is (same made)
  where
    same : ◌≡◌ {A = Result ℤ Fault} (Ok bits) (Ok width) → bits ≡ width
    same e = cc e
width_shaped mark form (Written term) width is made = none_own width (own_width form) is

-- Keys.

-- a constant that was computed has a value
constant_has : (mark : Mark) (term : Term) (done : Unit {0}) → is_constant term ≡ true → key_value mark true (Some term) ≡ Ok done → has_value (Some term) ≡ true
constant_has mark term done constant is = by (is_constant term) (value_of term constant_sight) constant is
  where
    by : (b : Bool) (found : Result ℤ EvalFault) → b ≡ true → (with_fault mark found >>= (λ value. Ok tt)) ≡ Ok done → is_some (if b then result_ok found else None) ≡ true
    by true (Ok value) one so = refl
    by true (Err fault) one so = cc
    by false found one so = cc

module _ (mark : Mark) (in_case : Bool) (form : NumForm) (symbols : List Symbol) where
  -- the last part of the shape of a number
  abbrev IsKeyMade : Bool → Option Term → Type 0
  IsKeyMade key fixed = (if key then in_case && may_be_key form && is_empty symbols && has_value fixed else true) ≡ true

  key_made : (key : Bool) (fixed : Option Term) (done : Unit {0}) → IsKeyFormedBy key in_case form fixed → is_fixed_number symbols fixed ≡ true → key_value mark key fixed ≡ Ok done
      → IsKeyMade key fixed
  key_made false fixed done formed shaped is = refl
  key_made true None done formed shaped is = absurd (true_false (sym formed.2))
  key_made true (Some term) done formed shaped is =
      let none = (both (is_fixed_expression term) (is_empty symbols) shaped).1 in
      let has = constant_has mark term done formed.2 is in
      λ i. formed.0 i && formed.1 i && none i && has i

-- Numbers.

module _ (mark : Mark) (in_case : Bool) (number : NumberForm) (formed : IsNumberFormed number) (key : IsKeyFormed in_case number) where
  pub number_shaped : (made : PlainNumber) → number_value mark number ≡ Ok made → is_number_shaped in_case made ≡ true
  number_shaped made is =
      let width = then_ok (width_value mark number.width) _ made is in
      let done = then_ok (key_value mark number.key number.fixed) _ made width.2 in
      let symbols = then_ok (values_of (fits_number number.form width.0) mark (pos 0) number.symbols) _ made done.2 in
      let own = width_shaped mark number.form number.width width.0 formed.width width.1 in
      let shaped = symbols_shaped number.form width.0 mark number.symbols formed.names (pos 0) symbols.0 symbols.1 in
      let fixed = fixed_shaped number.form width.0 mark number.symbols number.fixed formed.fixed (pos 0) symbols.0 symbols.1 in
      let last = key_made mark in_case number.form symbols.0 number.key number.fixed done.0 key fixed done.1 in
      subst (λ (n : PlainNumber). is_number_shaped in_case n ≡ true) (same_ok _ made symbols.2) (λ i. own i && shaped i && fixed i && last i)

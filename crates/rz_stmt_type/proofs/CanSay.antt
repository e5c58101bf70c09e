-- Faults of `type` statements that a message can say.
use Rattle.std.proofs.Common.{ℕ, ℤ, ◌<◌, Bool, true, false, if◌then◌else◌, List, [], ◌∷◌, Option, Some, None, Ok, Err, refl, subst}
use Rattle.std.specs.declared.result.Result.{Result}
use Rattle.std.specs.Prelude.{pos, ◌+ℤ◌}
use Rattle.rz_core.specs.Message.{IsNameable}
use Rattle.rz_core.specs.Stop.{◌>>=◌, Gives, OnFault, seen}
use Rattle.rz_core.specs.declared.fault.Fault.{Fault}
use Rattle.rz_core.specs.declared.fault.Mark.{Mark}
use Rattle.rz_core.specs.declared.resource.Word.{Word}
use Rattle.rz_core.specs.declared.stop.Stop.{Stop}
use Rattle.rz_core.specs.declared.stop.Stop.TheVariants.{NoMemory, Refused}
use Rattle.rz_expr.specs.Term.{Term}
use Rattle.rz_expr.specs.Value.{reduced, value_of}
use Rattle.rz_expr.specs.Constant.{constant_sight}
use Rattle.rz_expr.specs.declared.value.EvalFault.{EvalFault}
use Rattle.rz_expr.specs.declared.value.EvalFault.TheVariants.{BadIndex, BadShift, DataWidth, LaterData, UnknownName, ZeroDivisor}
use Rattle.rz_stmt_type.specs.Constants.{body_value, cases_value, count_value, declare_of, declared, field_value, given_value, key_value, made_value, number_of_width, number_value, scope_value, width_value}
use Rattle.rz_stmt_fields.specs.Form.{BodyForm, CasesForm, DeclareForm, FieldForm, MadeForm, NamedTerm, NumberForm, Own, ScopeForm, WidthForm, Written}
use Rattle.rz_stmt_fields.specs.Form as form
use Rattle.rz_types_fields.specs.Value.{constant_value, value_fault, with_fault}
use Rattle.rz_types_fields.specs.Range.{fits_number}
use Rattle.rz_stmt_type.specs.Values.{given_or, out_of_range, values_of, with_value}
use Rattle.rz_stmt_type.specs.declared.constants.TypeStmt.{TypeStmt}
use Rattle.rz_types_fields.specs.declared.field.Symbol.{Symbol}

-- where it is a fault, a message can say it
abbrev pub CanSay : {X : Type 0} → ℕ → Result X Fault → Type 0
CanSay files (Ok value) = Unit {0}
CanSay files (Err fault) = IsNameable files fault

then_say : {X Y : Type 0} (files : ℕ) (r : Result X Fault) (next : X → Result Y Fault) → CanSay files r → ((x : X) → CanSay files (next x)) → CanSay files (r >>= next)
then_say files (Ok x) next says after = after x
then_say files (Err fault) next says after = says

module _ (files : ℕ) (mark : Mark) (within : mark.file < files) where
  say_value : (fault : EvalFault) → IsNameable files (value_fault mark fault)
  say_value ZeroDivisor = record { number = refl; place = within }
  say_value (UnknownName word) = record { number = refl; place = within }
  say_value (BadIndex number) = record { number = refl; place = within }
  say_value (LaterData first behind) = record { number = refl; place = within }
  say_value (DataWidth width) = record { number = refl; place = within }
  say_value (BadShift count) = record { number = refl; place = within }

  say_with : (r : Result ℤ EvalFault) → CanSay files (with_fault mark r)
  say_with (Ok value) = tt
  say_with (Err fault) = say_value fault

  say_constant : (term : Term) → CanSay files (constant_value mark term)
  say_constant term = say_with (value_of term constant_sight)

  say_given : (next : ℤ) (given : Option Term) → CanSay files (given_or mark next given)
  say_given next None = tt
  say_given next (Some term) = say_constant term

  -- a symbol, where the next ones can be said
  say_symbol : (fits : ℤ → Bool) (name : Word) (more : ℤ → Result (List Symbol) Fault) → ((n : ℤ) → CanSay files (more n)) → (value : ℤ)
      → CanSay files (with_value fits mark name more value)
  say_symbol fits name more after value = by (fits value)
    where
      by : (b : Bool) → CanSay files (if b then more (reduced (value +ℤ pos 1)) >>= (λ others. Ok (record { name = name; value = value } ∷ others)) else Err (out_of_range mark value))
      by true = then_say files (more (reduced (value +ℤ pos 1))) (λ others. Ok (record { name = name; value = value } ∷ others)) (after (reduced (value +ℤ pos 1))) (λ others. tt)
      by false = record { number = refl; place = within }

  say_values : (fits : ℤ → Bool) (symbols : List NamedTerm) (next : ℤ) → CanSay files (values_of fits mark next symbols)
  say_values fits [] next = tt
  say_values fits (symbol ∷ symbols) next =
      then_say files (given_or mark next symbol.value) (with_value fits mark symbol.name (λ value. values_of fits mark value symbols)) (say_given next symbol.value)
      (say_symbol fits symbol.name (λ value. values_of fits mark value symbols) (say_values fits symbols))

  say_width : (width : WidthForm) → CanSay files (width_value mark width)
  say_width (Own bits) = tt
  say_width (Written term) = say_constant term

  say_of_width : (number : NumberForm) (width : ℤ) → CanSay files (number_of_width mark number width)
  say_of_width number width =
      then_say files (values_of (fits_number number.form width) mark (pos 0) number.symbols) _ (say_values (fits_number number.form width) number.symbols (pos 0)) (λ symbols. tt)

  say_key : (key : Bool) (fixed : Option Term) → CanSay files (key_value mark key fixed)
  say_key true (Some term) = then_say files (constant_value mark term) _ (say_constant term) (λ value. tt)
  say_key true None = tt
  say_key false fixed = tt

  say_number : (number : NumberForm) → CanSay files (number_value mark number)
  say_number number =
      then_say files (width_value mark number.width) _ (say_width number.width)
      (λ width. then_say files (key_value mark number.key number.fixed) _ (say_key number.key number.fixed) (λ done. say_of_width number width))

  say_count : (count : Option Term) → CanSay files (count_value mark count)
  say_count None = tt
  say_count (Some term) = say_constant term

  say_where_given : (given : Option Term) → CanSay files (given_value mark given)
  say_where_given None = tt
  say_where_given (Some term) = then_say files (constant_value mark term) _ (say_constant term) (λ value. tt)

  mutual
    say_field : (field : FieldForm) → CanSay files (field_value mark field)
    say_field (form.Number number) = then_say files (number_value mark number) _ (say_number number) (λ value. tt)
    say_field (form.Text text) = tt
    say_field (form.Points points) = tt
    say_field (form.Fill unit count) = then_say files (count_value mark count) _ (say_count count) (λ value. tt)
    say_field (form.Align unit) = tt
    say_field (form.Label name) = tt
    say_field (form.Array name count row) =
        then_say files (given_value mark count) _ (say_where_given count) (λ rows. then_say files (body_value mark row) _ (say_body row) (λ fields. tt))
    say_field (form.Switch cases) = then_say files (cases_value mark cases) _ (say_cases cases) (λ made. tt)

    say_body : (body : BodyForm) → CanSay files (body_value mark body)
    say_body form.no_fields = tt
    say_body (form.field_and field fields) =
        then_say files (field_value mark field) _ (say_field field) (λ one. then_say files (body_value mark fields) _ (say_body fields) (λ others. tt))

    say_cases : (cases : CasesForm) → CanSay files (cases_value mark cases)
    say_cases form.no_cases = tt
    say_cases (form.case_and name row cases) =
        then_say files (body_value mark row) _ (say_body row) (λ fields. then_say files (cases_value mark cases) _ (say_cases cases) (λ others. tt))

  say_scope : (scope : ScopeForm) → CanSay files (scope_value mark scope)
  say_scope form.Any = tt
  say_scope (form.One id) = then_say files (constant_value mark id) _ (say_constant id) (λ value. tt)
  say_scope (form.Two first last) =
      then_say files (constant_value mark first) _ (say_constant first) (λ from. then_say files (constant_value mark last) _ (say_constant last) (λ to. tt))

  say_made : (made : MadeForm) → CanSay files (made_value mark made)
  say_made (form.Fields body) = then_say files (body_value mark body) _ (say_body body) (λ fields. tt)
  say_made (form.CopyOf kind id) = then_say files (given_value mark id) _ (say_where_given id) (λ value. tt)

  say_declared : (stmt : DeclareForm) → CanSay files (declared mark stmt)
  say_declared stmt =
      then_say files (scope_value mark stmt.scope) _ (say_scope stmt.scope) (λ bounds. then_say files (made_value mark stmt.made) _ (say_made stmt.made) (λ made. tt))

  pub say_result : (stmt : DeclareForm) (result : Result TypeStmt (Stop Fault)) → Gives (declared mark stmt) (seen declare_of result) → OnFault result (IsNameable files)
  say_result stmt (Ok value) gives = tt
  say_result stmt (Err (Refused fault)) gives = subst (CanSay files) gives (say_declared stmt)
  say_result stmt (Err NoMemory) gives = tt

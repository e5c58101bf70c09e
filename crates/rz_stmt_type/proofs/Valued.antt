-- Symbols and their values, one more at a time.
use Rattle.std.proofs.Common.{◌≡◌, ℤ, Bool, true, false, List, [], ◌∷◌, ◌++◌, if◌then◌else◌, Ok, Err, refl, sym, ap, ◌∙◌, append_assoc}
use Rattle.std.specs.Prelude.{pos, ◌+ℤ◌}
use Rattle.std.specs.declared.result.Result.{Result}
use Rattle.rz_core.specs.Stop.{◌>>=◌}
use Rattle.rz_core.specs.declared.fault.Fault.{Fault}
use Rattle.rz_core.specs.declared.fault.Mark.{Mark}
use Rattle.rz_expr.specs.Value.{reduced}
use Rattle.rz_stmt_fields.specs.Form.{NamedTerm}
use Rattle.rz_stmt_type.specs.Values.{given_or, out_of_range, values_of, with_value}
use Rattle.rz_types_fields.specs.declared.field.Symbol.{Symbol}

-- the symbols so far before those that follow
abbrev pub behind_symbols : List Symbol → Result (List Symbol) Fault → Result (List Symbol) Fault
behind_symbols before more = more >>= λ others. Ok (before ++ others)

pub no_symbols : (more : Result (List Symbol) Fault) → more ≡ behind_symbols [] more
no_symbols (Ok others) = refl
no_symbols (Err fault) = refl

module _ (fits : ℤ → Bool) (mark : Mark) (all : Result (List Symbol) Fault) (before : List Symbol) (next : ℤ) (symbol : NamedTerm) (symbols rest : List NamedTerm)
    (so_far : all ≡ behind_symbols before (values_of fits mark next rest)) (are : rest ≡ symbol ∷ symbols) where
  stands : all ≡ behind_symbols before (given_or mark next symbol.value >>= with_value fits mark symbol.name (λ value. values_of fits mark value symbols))
  stands = so_far ∙ ap (λ (l : List NamedTerm). behind_symbols before (values_of fits mark next l)) are

  pub no_value : (fault : Fault) → given_or mark next symbol.value ≡ Err fault → all ≡ Err fault
  no_value fault faulty = stands ∙ ap (λ (r : Result ℤ Fault). behind_symbols before (r >>= with_value fits mark symbol.name (λ value. values_of fits mark value symbols))) faulty

  module _ (value : ℤ) (is : given_or mark next symbol.value ≡ Ok value) where
    valued : all ≡ behind_symbols before (with_value fits mark symbol.name (λ value. values_of fits mark value symbols) value)
    valued = stands ∙ ap (λ (r : Result ℤ Fault). behind_symbols before (r >>= with_value fits mark symbol.name (λ value. values_of fits mark value symbols))) is

    pub no_room : fits value ≡ false → all ≡ Err (out_of_range mark value)
    no_room outside =
        valued
        ∙ ap (λ b. behind_symbols before (if b then values_of fits mark (reduced (value +ℤ pos 1)) symbols >>= (λ others. Ok (record { name = symbol.name; value = value } ∷ others))
        else Err (out_of_range mark value))) outside

    pub one_more : (after : List Symbol) → after ≡ before ++ record { name = symbol.name; value = value } ∷ [] → fits value ≡ true
        → all ≡ behind_symbols after (values_of fits mark (reduced (value +ℤ pos 1)) symbols)
    one_more after pushed inside =
        valued
        ∙ ap (λ b. behind_symbols before (if b then values_of fits mark (reduced (value +ℤ pos 1)) symbols >>= (λ others. Ok (record { name = symbol.name; value = value } ∷ others))
        else Err (out_of_range mark value))) inside
        ∙ by (record { name = symbol.name; value = value }) (values_of fits mark (reduced (value +ℤ pos 1)) symbols)
        ∙ ap (λ (l : List Symbol). behind_symbols l (values_of fits mark (reduced (value +ℤ pos 1)) symbols)) (sym pushed)
      where
        by : (one : Symbol) (more : Result (List Symbol) Fault) → behind_symbols before (more >>= λ others. Ok (one ∷ others)) ≡ behind_symbols (before ++ one ∷ []) more
        by one (Ok others) = ap (λ (l : List Symbol). Ok l) (sym (append_assoc before (one ∷ []) others))
        by one (Err fault) = refl

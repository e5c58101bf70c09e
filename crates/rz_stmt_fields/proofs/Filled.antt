-- A `fill` that can't be.
use Rattle.std.proofs.Common.{◌≡◌, ◌==◌, ℕ, true, false, List, [], ◌∷◌, length, subst}
use Rattle.rz_expr.specs.Term.{Term}
use Rattle.rz_lex.specs.declared.token.Token.{Token}
use Rattle.rz_stmt_fields.specs.FieldForm.{IsCount, IsFill, IsFillOf}
use Rattle.rz_stmt_fields.specs.Form.{FieldForm}

no_fill_of : (unit : ℕ) (rest : List Token) (field : FieldForm) → (length rest == 0) ≡ false → ((count : Term) → IsCount rest count → ⊥) → IsFillOf unit rest field → ⊥
no_fill_of unit [] field some never is = let wrong : true ≡ false = some in cc
no_fill_of unit (token ∷ rest) field some never is = never is.0 is.1

pub no_fill : (tokens rest : List Token) (first : Token) → tokens ≡ first ∷ rest → (length rest == 0) ≡ false → ((count : Term) → IsCount rest count → ⊥)
    → (field : FieldForm) → IsFill tokens field → ⊥
no_fill tokens rest first are some never field is =
    let fill = subst (λ (ts : List Token). IsFill ts field) are is in
    no_fill_of fill.0 rest field some never fill.2

-- A number token alone is an item.
use Rattle.std.proofs.Common.{◌≡◌, ℕ, ◌<◌, ◌≤◌, pos, List, [], ◌∷◌, length, get_or, refl, sym, ap, subst, arith}
use Rattle.rz_core.specs.declared.fault.Mark.{Mark}
use Rattle.rz_expr.specs.Grammar.{operand, start_of, tighter, IsExpression}
use Rattle.rz_expr.specs.Term.{Constant}
use Rattle.rz_expr.specs.Value.{reduced}
use Rattle.rz_stmt_items.specs.Item as plain
use Rattle.rz_stmt_items.specs.Item.{PlainItem}
use Rattle.rz_stmt_items.specs.Simple.{IsSimple, IsSimpleBy}
use Rattle.rz_lex.specs.declared.token.Shape.{Shape}
use Rattle.rz_lex.specs.declared.token.Shape.TheVariants as shapes
use Rattle.rz_lex.specs.declared.token.Token.{Token}
use Rattle.rz_stmt_data.specs.Texts.{starts_text}

derives : (token : Token) (number : ℕ) → token.shape ≡ shapes.Number number → IsExpression (token ∷ []) (Constant (reduced (pos number)))
derives token number is = tighter (tighter (tighter (tighter (tighter (tighter (tighter (tighter (tighter (tighter (operand (ap start_of is)))))))))))

pub number_alone : (mark : Mark) (tokens : List Token) (token : Token) (number : ℕ) (item : PlainItem) → tokens ≡ token ∷ [] → token.shape ≡ shapes.Number number
    → item ≡ plain.Number (Constant (reduced (pos number))) mark → IsSimple mark tokens item
number_alone mark tokens token number item are is made =
    subst (λ (ts : List Token). IsSimple mark ts item) (sym are)
    (subst (λ (shape : Shape). IsSimpleBy (starts_text shape) mark (token ∷ []) item) (sym is)
    (Constant (reduced (pos number)), (derives token number is, refl), made))

pub one_item : {A : Type 0} (xs : List A) (x : A) → 1 ≤ length xs → length xs < 2 → x ≡ get_or xs 0 x → xs ≡ x ∷ []
one_item [] x some few is = absurd (omega (arith, some))
one_item (y ∷ []) x some few is = ap (λ z. z ∷ []) (sym is)
one_item (y ∷ z ∷ xs) x some few is = absurd (omega (arith, few))

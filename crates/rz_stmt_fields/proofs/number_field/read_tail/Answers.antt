use Rattle.std.proofs.Common.{◌∷◌, Bool, List, sym, subst}
use Rattle.std.specs.Prelude.{IfOk, option_map}
use Rattle.rz_lex.specs.declared.token.Token.{Token}
use Rattle.rz_core.specs.Decided.{Decided}
use Rattle.rz_stmt_fields.specs.NumberField.{tail_of, AreNamed, IsTail, IsTailBy}
use Rattle.rz_stmt_fields.proofs.number_field.read_tail.Goals as goal

pub returns-then-is_equals : goal.returns-then-is_equals
returns-then-is_equals c =
    let first = c.in-Some.first.now in
    let rest = c.in-Some.rest.now in
    subst (λ (ts : List Token). IfOk c.read_fixed.result (λ tail. Decided (IsTail c.args.form ts) (option_map tail_of tail))) (sym c.in-Some.ensures.cases.0)
    (subst (λ (b : Bool). IfOk c.read_fixed.result (λ tail. Decided (IsTailBy b c.args.form (first ∷ rest) rest) (option_map tail_of tail))) c.if-is_equals.ensures c.read_fixed.ensures)

pub returns-else-is_equals : goal.returns-else-is_equals
returns-else-is_equals c =
    let first = c.in-Some.first.now in
    let rest = c.in-Some.rest.now in
    let is = c.in-Some.ensures.cases.0 in
    subst (λ (ts : List Token). IfOk c.read_named.result (λ tail. Decided (IsTail c.args.form ts) (option_map tail_of tail))) (sym is)
    (subst (λ (b : Bool). IfOk c.read_named.result (λ tail. Decided (IsTailBy b c.args.form (first ∷ rest) rest) (option_map tail_of tail))) c.if-is_equals.ensures
    (subst (λ (ts : List Token). IfOk c.read_named.result (λ tail. Decided (AreNamed c.args.form ts) (option_map tail_of tail))) is c.read_named.ensures))

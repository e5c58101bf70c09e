use Rattle.std.proofs.Common.{sym, subst, List}
use Rattle.rz_lex.specs.declared.token.Token.{Token}
use Rattle.rz_stmt_fields.specs.Each.{AreEach}
use Rattle.rz_stmt_fields.specs.Symbols.{IsSymbol}
use Rattle.rz_stmt_fields.proofs.number_field.read_named.Goals as goal

pub returns : goal.returns
returns c tail is =
    let never = rw (c.in-None.is, c.deref.ensures.value) at c.in_ok-symbols.ensures in
    never is.1 (subst (λ (ps : List (List Token)). AreEach (IsSymbol c.args.form) ps is.1) (sym (c.in_ok-pieces.ensures.every is.0 is.2)) is.3)

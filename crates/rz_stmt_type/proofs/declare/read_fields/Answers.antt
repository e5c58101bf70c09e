use Rattle.std.proofs.Common.{false, sym, ap, subst, ◌∙◌}
use Rattle.rz_core.proofs.Tests.{true_false}
use Rattle.rz_stmt_brackets.specs.Held.{held_split}
use Rattle.rz_stmt_brackets.specs.Pieces.{Parted}
use Rattle.rz_stmt_brackets.specs.Statements.{is_empty}
use Rattle.rz_stmt_brackets.specs.declared.bracket.Bracket.TheVariants.{Curly}
use Rattle.rz_stmt_type.specs.Body.{IsBody}
use Rattle.rz_stmt_brackets.proofs.OneBracket.{never_within, same_within}
use Rattle.rz_stmt_type.proofs.declare.read_fields.Goals as goal

pub returns-in_default : goal.returns-in_default
returns-in_default c made is = never_within Curly c.args.tokens.now c.in_default.ensures.every is.0 is.2

pub returns-then-not-is_empty_statement : goal.returns-then-not-is_empty_statement
returns-then-not-is_empty_statement c made is =
    let same = same_within Curly c.args.tokens.now (held_split c.in-Some.split) c.in-Some.ensures.every is.0 is.2 in
    true_false (sym is.3 ∙ ap (λ (p : Parted). is_empty p.behind) (sym same) ∙ sym c.if-not-is_empty_statement.ensures)

pub returns-in-None : goal.returns-in-None
returns-in-None c made is =
    let same = same_within Curly c.args.tokens.now (held_split c.in-Some.split) c.in-Some.ensures.every is.0 is.2 in
    let never = rw c.in-None.is at c.in_ok-body.ensures in
    never is.1 (subst (λ (p : Parted). IsBody false p.front is.1) (sym same) is.4)

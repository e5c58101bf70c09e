use Rattle.std.proofs.Common.{sym, ap, ◌∙◌}
use Rattle.rz_core.proofs.Tests.{true_false}
use Rattle.rz_stmt_brackets.proofs.OneBracket.{never_within, same_within}
use Rattle.rz_stmt_brackets.specs.Held.{held_split}
use Rattle.rz_stmt_brackets.specs.Pieces.{Parted}
use Rattle.rz_stmt_brackets.specs.Statements.{is_empty}
use Rattle.rz_stmt_brackets.specs.declared.bracket.Bracket.TheVariants.{Curly}
use Rattle.rz_stmt_data.proofs.frame.in_braces.Goals as goal

pub returns-in_default : goal.returns-in_default
returns-in_default c inside is = never_within Curly c.args.tokens.now c.in_default.ensures.every is.0 is.1

pub returns-else-is_empty_statement : goal.returns-else-is_empty_statement
returns-else-is_empty_statement c inside is =
    let same = same_within Curly c.args.tokens.now (held_split c.in-Some.split) c.in-Some.ensures.every is.0 is.1 in
    true_false (sym is.2 ∙ ap (λ (p : Parted). is_empty p.behind) (sym same) ∙ sym c.if-is_empty_statement.ensures)

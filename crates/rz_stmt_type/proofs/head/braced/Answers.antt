use Rattle.std.proofs.Common.{List, length, sym, ap, ◌∙◌}
use Rattle.std.proofs.lemmas.Bool.{eqb-false}
use Rattle.rz_stmt_brackets.specs.Held.{held_split}
use Rattle.rz_stmt_brackets.specs.Pieces.{Parted}
use Rattle.rz_stmt_brackets.specs.declared.bracket.Bracket.TheVariants.{Curly}
use Rattle.rz_lex.specs.declared.token.Token.{Token}
use Rattle.rz_stmt_brackets.proofs.OneBracket.{never_within, same_within}
use Rattle.rz_stmt_type.proofs.head.braced.Goals as goal

pub returns-in_default : goal.returns-in_default
returns-in_default c inside is = never_within Curly c.args.tokens.now c.in_default.ensures.every is.0 is.1

pub returns-else-is_empty : goal.returns-else-is_empty
returns-else-is_empty c inside is =
    let same = same_within Curly c.args.tokens.now (held_split c.in-Some.split) c.in-Some.ensures.every is.0 is.1 in
    eqb-false (length c.in-Some.split.behind.now) 0 (sym c.if-is_empty.ensures)
    (ap (λ (p : Parted). length p.behind) same ∙ ap (λ (ts : List Token). length ts) is.2)

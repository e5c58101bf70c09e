use Rattle.std.proofs.Common.{sym, subst}
use Rattle.rz_stmt_brackets.specs.Pieces.{IsParted}
use Rattle.rz_stmt_brackets.specs.declared.pieces.Divider.{Divider}
use Rattle.rz_stmt_brackets.proofs.OneBracket.{same_rest}
use Rattle.rz_stmt_brackets.proofs.bracket.bracketed.Goals as goal

pub returns-then-opens-clause-every : goal.returns-then-opens-clause-every
returns-then-opens-clause-every c parted is =
    c.split_at.ensures.every parted
    (subst (λ (d : Divider). IsParted d c.in-Some.rest.now parted) (sym c.closer.ensures)
    (same_rest c.args.bracket c.args.tokens.now c.in-Some.rest.now c.in-Some.first.now parted c.in-Some.ensures.cases.0 is))

use Rattle.std.proofs.Common.{sym, refl}
use Rattle.rz_stmt_brackets.specs.Held.{held_split}
use Rattle.rz_stmt_lists.specs.Brackets.{given, left_out}
use Rattle.rz_stmt_lists.proofs.Maybes.{given_so, left_so, open_so}
use Rattle.rz_stmt_lists.proofs.brackets.maybe_bracketed.Goals as goal

pub returns-then-not-begins-clause-found : goal.returns-then-not-begins-clause-found
returns-then-not-begins-clause-found c = left_out (sym c.if-not-begins.ensures) refl refl

pub returns-then-not-begins-clause-every : goal.returns-then-not-begins-clause-every
returns-then-not-begins-clause-every c = left_so c.args.tokens.now (sym c.if-not-begins.ensures)

pub returns-in-Some-clause-found : goal.returns-in-Some-clause-found
returns-in-Some-clause-found c = given (held_split c.in-Some.split) c.in-Some.ensures.found refl refl

pub returns-in-Some-clause-every : goal.returns-in-Some-clause-every
returns-in-Some-clause-every c = given_so c.args.tokens.now (held_split c.in-Some.split) (sym c.if-not-begins.ensures) c.in-Some.ensures.every

pub returns-in-None-clause-every : goal.returns-in-None-clause-every
returns-in-None-clause-every c = open_so c.args.tokens.now (sym c.if-not-begins.ensures) c.in-None.ensures.every

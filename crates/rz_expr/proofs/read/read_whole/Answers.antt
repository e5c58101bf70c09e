use Rattle.rz_expr.specs.Term.{term_of}
use Rattle.rz_expr.proofs.Whole.{front_in, none_whole, not_whole, whole}
use Rattle.rz_expr.proofs.read.read_whole.Goals as goal

pub returns-then-front-tokens : goal.returns-then-front-tokens
returns-then-front-tokens c =
    whole c.args.tokens.now c.in-Some.front.length (term_of c.in-Some.front.expr)
    (front_in c.loosest_in.result c.args.tokens.now c.in-Some.front.length (term_of c.in-Some.front.expr) c.loosest_in.ensures.level (rw c.in-Some.is at c.in_ok-front.ensures))
    c.if-front-tokens.true

pub returns-else-front-tokens : goal.returns-else-front-tokens
returns-else-front-tokens c =
    not_whole c.args.tokens.now c.in-Some.front.length (term_of c.in-Some.front.expr)
    (front_in c.loosest_in.result c.args.tokens.now c.in-Some.front.length (term_of c.in-Some.front.expr) c.loosest_in.ensures.level (rw c.in-Some.is at c.in_ok-front.ensures))
    c.if-front-tokens.false

pub returns-in-None : goal.returns-in-None
returns-in-None c = none_whole c.args.tokens.now (rw c.in-None.is at c.in_ok-front.ensures)

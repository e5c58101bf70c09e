use Rattle.rz_expr.specs.Term.{term_of}
use Rattle.rz_expr.proofs.Steps.{none_at_all, read_end, read_longest}
use Rattle.rz_expr.proofs.read.read_at.Goals as goal

pub returns-in-Some-clause-found : goal.returns-in-Some-clause-found
returns-in-Some-clause-found c =
    let read = rw (c.in-Some.is, c.behind-rest.ensures, c.as_slice.ensures) at c.in_ok-front.ensures in
    read_longest c.args.start c.args.tokens.now c.in-Some.front.length (term_of c.in-Some.front.expr) read

pub returns-in-Some-clause-end : goal.returns-in-Some-clause-end
returns-in-Some-clause-end c =
    let read = rw (c.in-Some.is, c.behind-rest.ensures, c.as_slice.ensures) at c.in_ok-front.ensures in
    read_end c.args.start c.args.tokens.now c.in-Some.front.length (term_of c.in-Some.front.expr) c.requires read

pub returns-in-None-clause-found : goal.returns-in-None-clause-found
returns-in-None-clause-found c =
    let none = rw (c.in-None.is, c.behind-rest.ensures, c.as_slice.ensures) at c.in_ok-front.ensures in
    none_at_all _ none

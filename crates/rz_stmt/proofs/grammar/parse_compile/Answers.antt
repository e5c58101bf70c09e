use Rattle.std.proofs.Common.{inl, inr, refl}
use Rattle.rz_stmt_items.specs.Compile.{compile_of}
use Rattle.rz_stmt.proofs.Parsed.{gave_so}
use Rattle.rz_stmt.specs.Grammar.{Compiled, Declared}
use Rattle.rz_stmt.proofs.grammar.parse_compile.Goals as goal

pub returns-in-Some-clause-parsed : goal.returns-in-Some-clause-parsed
returns-in-Some-clause-parsed c = inl (compile_of c.in-Some.stmt, rw c.in-Some.is at c.in_ok-stmt.ensures, refl)

pub returns-in-Some-clause-placed : goal.returns-in-Some-clause-placed
returns-in-Some-clause-placed c files stand =
    c.items_are_within.ensures files c.args.tokens.now (compile_of c.in-Some.stmt) stand (rw c.in-Some.is at c.in_ok-stmt.ensures)

pub returns-in-None-clause-parsed : goal.returns-in-None-clause-parsed
returns-in-None-clause-parsed c =
    gave_so (Declared c.args.mark c.args.tokens.now) (Compiled c.args.mark c.args.tokens.now) (λ answer is. inr (rw c.in-None.is at c.in_ok-stmt.ensures, is)) c.parse_declare.result
    c.parse_declare.ensures.parsed

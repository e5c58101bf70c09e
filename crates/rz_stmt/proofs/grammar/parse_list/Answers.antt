use Rattle.std.proofs.Common.{inl, inr, refl}
use Rattle.rz_stmt_lists.specs.Lists.{list_of}
use Rattle.rz_stmt.proofs.Parsed.{gave_so}
use Rattle.rz_stmt.specs.Grammar.{Compiled, Listed}
use Rattle.rz_stmt.proofs.grammar.parse_list.Goals as goal

pub returns-in-Some-clause-parsed : goal.returns-in-Some-clause-parsed
returns-in-Some-clause-parsed c = inl (list_of c.in-Some.stmt, rw c.in-Some.is at c.in_ok-stmt.ensures, refl)

pub returns-in-None-clause-parsed : goal.returns-in-None-clause-parsed
returns-in-None-clause-parsed c =
    gave_so (Compiled c.args.mark c.args.tokens.now) (Listed c.args.mark c.args.tokens.now) (λ answer is. inr (rw c.in-None.is at c.in_ok-stmt.ensures, is)) c.parse_compile.result
    c.parse_compile.ensures.parsed

use Rattle.std.proofs.Common.{List, sym, subst, ◌∙◌}
use Rattle.rz_core.proofs.Tests.{none_some}
use Rattle.rz_lex.specs.declared.token.Token.{Token}
use Rattle.rz_stmt_lists.proofs.Apart.{include_is, included}
use Rattle.rz_stmt_lists.specs.Include.{part_of, IsPart}
use Rattle.rz_stmt_lists.proofs.include.read_include.Goals as goal

pub returns-in_default-2 : goal.returns-in_default-2
returns-in_default-2 c include is =
    let it = included c.args.tokens.now c.in-Some.behind.now c.in-Some.word.now c.in-Some.ensures.cases.0 include is in
    none_some include.file (sym c.in_default-2.is ∙ c.in_ok-file.ensures ∙ it.0)

pub returns-in-Some-3 : goal.returns-in-Some-3
returns-in-Some-3 c =
    let part = part_of c.in-Some-3.part in
    include_is c.args.tokens.now c.in-Some.behind.now c.in-Some.word.now c.in-Some.ensures.cases.0 (sym c.if-not-is_keyword.ensures) _ (sym c.in_ok-file.ensures ∙ c.in-Some-2.is)
    (subst (λ (ts : List Token). IsPart ts part) c.behind_texts.ensures (rw c.in-Some-3.is at c.in_ok-part.ensures))

pub returns-in-None : goal.returns-in-None
returns-in-None c include is =
    let it = included c.args.tokens.now c.in-Some.behind.now c.in-Some.word.now c.in-Some.ensures.cases.0 include is in
    let never = rw c.in-None.is at c.in_ok-part.ensures in
    never include.part (subst (λ (ts : List Token). IsPart ts include.part) (sym c.behind_texts.ensures) it.1)

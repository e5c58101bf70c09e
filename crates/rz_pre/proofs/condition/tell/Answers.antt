use Rattle.std.proofs.Common.{List, [], ◌∷◌, ◌++◌, sym, ap, subst, ◌∙◌, arith}
use Rattle.rz_lex.specs.declared.token.Token.{Token}
use Rattle.rz_pre.specs.Condition.{asked}
use Rattle.rz_pre.specs.Live.{live_in}
use Rattle.rz_pre.specs.Macros.{rows_of}
use Rattle.rz_pre.proofs.Bodies.{no_token}
use Rattle.rz_pre.proofs.Asking.{all_told, one_other, one_question, Telling}
use Rattle.rz_pre.proofs.condition.tell.Goals as goal

pub loop-first-preserved-in-Some-asked : goal.loop-first-preserved-in-Some-asked
loop-first-preserved-in-Some-asked c =
    subst (λ (ts : List Token). Telling (live_in (rows_of c.args.macros.now)) c.args.tokens.now c.in-Some-asked.after.now ts)
    (sym (c.in_ok-push-in-Some-asked.ensures.ok ∙ ap (λ (t : Token). c.loop-first.told ++ t ∷ []) c.in_ok-answer-in-Some-asked.ensures))
    (one_question (live_in (rows_of c.args.macros.now)) c.args.tokens.now c.in-Some.first.now c.in-Some.behind.now c.loop-first.told
    (subst (λ (ts : List Token). Telling (live_in (rows_of c.args.macros.now)) c.args.tokens.now ts c.loop-first.told) c.in-Some.ensures.cases.0 c.loop-first.invariant)
    c.in-Some-asked.name.now.bytes c.in-Some-asked.after.now
    (sym (c.in-Some-asked.ensures.question ∙ ap asked c.in-Some.ensures.cases.0)))

pub loop-first-preserved : goal.loop-first-preserved
loop-first-preserved c =
    subst (λ (ts : List Token). Telling (live_in (rows_of c.args.macros.now)) c.args.tokens.now c.in-Some.behind.now ts)
    (sym (c.in_ok-push-in-None.ensures.ok ∙ ap (λ (t : Token). c.loop-first.told ++ t ∷ []) c.in_ok-copy_at-in-None.ensures))
    (one_other (live_in (rows_of c.args.macros.now)) c.args.tokens.now c.in-Some.first.now c.in-Some.behind.now c.loop-first.told
    (subst (λ (ts : List Token). Telling (live_in (rows_of c.args.macros.now)) c.args.tokens.now ts c.loop-first.told) c.in-Some.ensures.cases.0 c.loop-first.invariant)
    (sym (c.in-None.ensures.question ∙ ap asked c.in-Some.ensures.cases.0)))

pub returns : goal.returns
returns c = all_told (live_in (rows_of c.args.macros.now)) c.args.tokens.now c.loop-first.told
    (subst (λ (ts : List Token). Telling (live_in (rows_of c.args.macros.now)) c.args.tokens.now ts c.loop-first.told) (no_token c.loop-first.rest.now 0 (omega (arith, c.in_default.ensures.cases))) c.loop-first.invariant)

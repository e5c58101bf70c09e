use Rattle.std.proofs.Common.{◌+◌, List, drop, length, sym, ap, subst, ◌∙◌, arith}
use Rattle.std.proofs.lemmas.Bool.{eqb-true, eqb-false}
use Rattle.std.proofs.lemmas.List.{nil_from_length}
use Rattle.rz_lex.specs.declared.token.Token.{Token}
use Rattle.rz_stmt_brackets.specs.Statements.{spans_from}
use Rattle.rz_stmt_brackets.proofs.Cut.{all_cut, cut_more, Cutting}
use Rattle.rz_stmt_brackets.proofs.cutting.statements.Goals as goal

pub loop-rest-preserved : goal.loop-rest-preserved
loop-rest-preserved c =
    let more = cut_more c.args.tokens.now c.loop-rest.rest.now c.loop-rest.start c.loop-rest.spans c.loop-rest.invariant
    (λ none. eqb-false (length c.loop-rest.rest.now) 0 (sym c.loop-rest-test.ensures) (ap (λ (ts : List Token). length ts) none))
    (c.loop-rest.start + c.statement_size-size.result) c.push.new.self (omega (arith, c.statement_size-size.ensures.size)) c.in_ok-push.ensures.ok in
    subst (λ (ts : List Token). Cutting c.args.tokens.now ts (c.loop-rest.start + c.statement_size-size.result) c.push.new.self)
    (sym (c.split_at.ensures.back ∙ ap (λ n. drop n c.loop-rest.rest.now) c.statement_size-size.ensures.size)) more

pub returns-clause-spans : goal.returns-clause-spans
returns-clause-spans c =
    let none = nil_from_length c.loop-rest.rest.now (eqb-true (length c.loop-rest.rest.now) 0 (sym c.loop-rest-test.ensures)) in
    all_cut c.args.tokens.now c.loop-rest.start c.loop-rest.spans (subst (λ (ts : List Token). Cutting c.args.tokens.now ts c.loop-rest.start c.loop-rest.spans) none c.loop-rest.invariant)

pub returns-clause-every : goal.returns-clause-every
returns-clause-every c spans has =
    let none = nil_from_length c.loop-rest.rest.now (eqb-true (length c.loop-rest.rest.now) 0 (sym c.loop-rest-test.ensures)) in
    let own = all_cut c.args.tokens.now c.loop-rest.start c.loop-rest.spans (subst (λ (ts : List Token). Cutting c.args.tokens.now ts c.loop-rest.start c.loop-rest.spans) none c.loop-rest.invariant) in
    own.2 ∙ ap (λ (all : List (List Token)). spans_from 0 all) (c.one_cutting.ensures c.args.tokens.now own.0 has.0 own.1 has.1) ∙ sym has.2

use Rattle.std.proofs.Common.{List, length, sym, ap, subst, ◌∙◌, arith}
use Rattle.std.specs.Vec.Iter.{into_iter_items}
use Rattle.rz_lex.specs.declared.token.Token.{Token}
use Rattle.rz_pre.specs.Live.{are_bare, live_in}
use Rattle.rz_pre.specs.Macros.{rows_of}
use Rattle.rz_pre.proofs.Replaced.{all_bare, all_replaced, no_rest, one_more_put, none_replaced, Replacing}
use Rattle.rz_pre.proofs.expanded.expand_all.Goals as goal

pub returns-then-branch-clause-tokens : goal.returns-then-branch-clause-tokens
returns-then-branch-clause-tokens c =
    all_bare (rows_of c.args.macros.now) c.args.tokens (sym (c.in_ok-is_free.ensures ∙ ap (are_bare (rows_of c.args.macros.now)) c.as_slice.ensures) ∙ c.if-branch.true)

pub loop-token-init : goal.loop-token-init
loop-token-init c =
    let all = c.into_iter-token-iterator.ensures.into_iter_gives.0 ∙ c.into_vec-token-items.ensures in
    let size = c.into_iter-token-iterator.ensures.into_iter_gives.1 in
    record {
      replacing = subst (λ (ts : List Token). Replacing (live_in (rows_of c.args.macros.now)) c.args.tokens ts c.new-done.result) (sym all)
          (subst (Replacing (live_in (rows_of c.args.macros.now)) c.args.tokens c.args.tokens) (sym c.new-done.ensures) (none_replaced (live_in (rows_of c.args.macros.now)) c.args.tokens));
      counted = size ∙ c.into_vec-token-items.result.ok.0 ∙ ap (λ (ts : List Token). length ts) (sym c.into_iter-token-iterator.ensures.into_iter_gives.0);
    }

pub loop-token-preserved : goal.loop-token-preserved
loop-token-preserved c = record {
  replacing = one_more_put (live_in (rows_of c.args.macros.now)) c.args.tokens c.in-Some.token (into_iter_items c.next.new.self) c.loop-token.done
      (subst (λ (ts : List Token). Replacing (live_in (rows_of c.args.macros.now)) c.args.tokens ts c.loop-token.done) c.in-Some.ensures.steps.0 c.loop-token.invariant.replacing)
      c.put_expanded.new.done c.in_ok-put_expanded.ensures.tokens;
  counted = let more = ap (λ (ts : List Token). length ts) c.in-Some.ensures.steps.0 in omega (arith, more, c.in-Some.ensures.steps.1, c.loop-token.invariant.counted);
}

pub returns-clause-tokens : goal.returns-clause-tokens
returns-clause-tokens c = all_replaced (live_in (rows_of c.args.macros.now)) c.args.tokens c.loop-token.done
    (subst (λ (ts : List Token). Replacing (live_in (rows_of c.args.macros.now)) c.args.tokens ts c.loop-token.done)
    (no_rest (into_iter_items c.loop-token.token-iterator) (sym c.loop-token.invariant.counted ∙ c.in-None.ensures.steps.0)) c.loop-token.invariant.replacing)

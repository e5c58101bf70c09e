use Rattle.std.proofs.Common.{List, [], ◌∷◌, ◌++◌, refl, sym, ap, subst, ◌∙◌, arith}
use Rattle.std.specs.Option.{is_some}
use Rattle.rz_lex.specs.declared.token.Token.{Token}
use Rattle.rz_pre.specs.Macros.{rows_of}
use Rattle.rz_pre.specs.Steps.{Frame, Handles}
use Rattle.rz_pre.proofs.Bodies.{next_shape, no_items, no_shape, some_token}
use Rattle.rz_pre.proofs.Lookups.{inside_found}
use Rattle.rz_pre.proofs.Made.{made_all, made_begun, made_closed, made_more, made_too_long, Making}
use Rattle.rz_pre.proofs.expansion.replace_all.Goals as goal

-- src/expansion.rt:51:5
pub loop-inner-init : goal.loop-inner-init
loop-inner-init c =
    subst (λ (es : List Frame). Making (rows_of c.args.macros.now) c.args.token.now.shape c.args.token.now.mark es c.args.done.now 65535)
    (sym (c.in_ok-push_frame.ensures ∙ ap (λ (es : List Frame). es ++ (c.args.index, 0) ∷ []) c.requires.frames))
    (subst (λ (ts : List Token). Making (rows_of c.args.macros.now) c.args.token.now.shape c.args.token.now.mark ((c.args.index, 0) ∷ []) ts 65535) (sym c.requires.done)
    (made_begun (rows_of c.args.macros.now) c.args.token.now.shape c.args.token.now.mark c.args.index c.requires.live))

-- src/expansion.rt:55:17
pub returns-then-budget-eq0-clause-long : goal.returns-then-budget-eq0-clause-long
returns-then-budget-eq0-clause-long c =
    let token = some_token c.body-body.result.now c.in-Some.next c.if-next-body.true in
    made_too_long (rows_of c.args.macros.now) c.args.token.now.shape c.args.token.now.mark c.pop.new.self.entries c.in-Some.inner c.in-Some.next c.loop-inner.done c.loop-inner.budget token.0
    (subst (λ (es : List Frame). Making (rows_of c.args.macros.now) c.args.token.now.shape c.args.token.now.mark es c.loop-inner.done c.loop-inner.budget) c.in-Some.ensures.entries c.loop-inner.invariant)
    (next_shape c.body-body.result.now _ c.in-Some.next token.0 c.body-body.ensures c.if-next-body.true token.1)
    c.args.token.now refl c.if-budget-eq0.true

-- src/expansion.rt:58:13
pub push_frame-requires-then-next-body : goal.push_frame-requires-then-next-body
push_frame-requires-then-next-body c = sym (inside_found c.in-Some.inner c.pop.new.self.entries) ∙ ap is_some c.in-Some.ensures.updates.1

-- src/expansion.rt:51:5
pub loop-inner-preserved-in-Continue-branch-3 : goal.loop-inner-preserved-in-Continue-branch-3
loop-inner-preserved-in-Continue-branch-3 c =
    made_more (rows_of c.args.macros.now) c.args.token.now.shape c.args.token.now.mark c.pop.new.self.entries c.in-Some.inner c.in-Some.next c.loop-inner.done c.loop-inner.budget c.index-body-next.result
    (subst (λ (es : List Frame). Making (rows_of c.args.macros.now) c.args.token.now.shape c.args.token.now.mark es c.loop-inner.done c.loop-inner.budget) c.in-Some.ensures.entries c.loop-inner.invariant)
    (next_shape c.body-body.result.now _ c.in-Some.next c.index-body-next.result c.body-body.ensures c.if-next-body.true (sym c.index-body-next.is))
    c.handle.new.frames.entries c.handle.new.done (omega (arith, c.if-budget-eq0.false))
    (subst (λ (es : List Frame). Handles (rows_of c.args.macros.now) c.index-body-next.result c.args.token.now.mark es c.handle.new.frames.entries c.loop-inner.done c.handle.new.done) c.in_ok-push_frame-2.ensures c.in_ok-handle.ensures)

-- src/expansion.rt:51:5
pub loop-inner-preserved : goal.loop-inner-preserved
loop-inner-preserved c =
    made_closed (rows_of c.args.macros.now) c.args.token.now.shape c.args.token.now.mark c.pop.new.self.entries c.in-Some.inner c.in-Some.next c.loop-inner.done c.loop-inner.budget
    (subst (λ (es : List Frame). Making (rows_of c.args.macros.now) c.args.token.now.shape c.args.token.now.mark es c.loop-inner.done c.loop-inner.budget) c.in-Some.ensures.entries c.loop-inner.invariant)
    (no_shape c.body-body.result.now _ c.in-Some.next c.body-body.ensures (omega (arith, c.if-next-body.false)))

-- src/expansion.rt:42:1
pub returns-clause-tokens : goal.returns-clause-tokens
returns-clause-tokens c = made_all (rows_of c.args.macros.now) c.args.token.now c.loop-inner.done c.loop-inner.budget
    (subst (λ (es : List Frame). Making (rows_of c.args.macros.now) c.args.token.now.shape c.args.token.now.mark es c.loop-inner.done c.loop-inner.budget) (no_items c.loop-inner.frames.entries c.in_default.ensures.found.1) c.loop-inner.invariant)

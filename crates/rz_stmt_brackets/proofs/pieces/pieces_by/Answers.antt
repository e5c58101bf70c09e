use Rattle.std.proofs.Common.{[], ◌∷◌, map, sym, ap, subst, ◌∙◌}
use Rattle.std.proofs.lemmas.List.{map-append}
use Rattle.rz_stmt_brackets.specs.Held.{held_split}
use Rattle.rz_stmt_brackets.specs.Pieces.{last, AreCut}
use Rattle.rz_stmt_brackets.proofs.Fronts.{cut_more}
use Rattle.rz_stmt_brackets.proofs.pieces.pieces_by.Goals as goal

pub loop-split-preserved : goal.loop-split-preserved
loop-split-preserved c =
    cut_more c.args.divider c.args.tokens.now c.loop-split.rest.now (map (λ piece. piece.now) c.loop-split.pieces.items) (map (λ piece. piece.now) c.push.new.self.items)
    (held_split c.in-Some.split) c.loop-split.invariant c.in-Some.ensures.found
    (ap (map (λ piece. piece.now)) c.in_ok-push.ensures.items ∙ map-append (λ piece. piece.now) c.loop-split.pieces.items (c.in-Some.split.front ∷ []))

pub returns-clause-cut : goal.returns-clause-cut
returns-clause-cut c =
    subst (AreCut c.args.divider c.args.tokens.now)
    (sym (ap (map (λ piece. piece.now)) c.in_ok-push-2.ensures.items ∙ map-append (λ piece. piece.now) c.loop-split.pieces.items (c.loop-split.rest ∷ [])))
    (c.loop-split.invariant (c.loop-split.rest.now ∷ []) (last c.loop-split.rest.now c.in_default.ensures.none))

pub returns-clause-every : goal.returns-clause-every
returns-clause-every c pieces are =
    c.pieces_are_cut.ensures.one c.args.divider c.args.tokens.now (map (λ piece. piece.now) c.push-2.new.self.items) pieces
    (subst (AreCut c.args.divider c.args.tokens.now)
    (sym (ap (map (λ piece. piece.now)) c.in_ok-push-2.ensures.items ∙ map-append (λ piece. piece.now) c.loop-split.pieces.items (c.loop-split.rest ∷ [])))
    (c.loop-split.invariant (c.loop-split.rest.now ∷ []) (last c.loop-split.rest.now c.in_default.ensures.none))) are

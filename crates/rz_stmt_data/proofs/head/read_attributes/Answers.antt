use Rattle.std.proofs.Common.{◌+◌, [], ◌∷◌, drop, map, sym, ap, ◌∙◌}
use Rattle.std.proofs.lemmas.List.{at_drop_more, drop_all, map-append}
use Rattle.rz_stmt_data.specs.Head.{attribute_of}
use Rattle.rz_stmt_data.proofs.Attributes.{leads_all, leads_more}
use Rattle.rz_stmt_data.proofs.OneHead.{one_attribute}
use Rattle.rz_stmt_data.proofs.head.read_attributes.Goals as goal

pub loop-piece-preserved : goal.loop-piece-preserved
loop-piece-preserved c =
    let pieces = c.args.pieces.now in
    let i = c.loop-piece.piece-index in
    let d = c.piece-item.result in
    leads_more c.args.subject (one_attribute c.one_expression.ensures.expression c.args.subject) (map (λ piece. piece.now) pieces) (map (λ piece. piece.now) (drop i pieces))
    (map (λ piece. piece.now) (drop (i + 1) pieces)) (map attribute_of c.loop-piece.attributes) d.now c.loop-piece.invariant
    (at_drop_more (map (λ piece. piece.now)) pieces i d c.loop-piece-test.true ∙ ap (λ piece. piece.now ∷ map (λ piece. piece.now) (drop (i + 1) pieces)) (sym c.piece-item.is))
    (attribute_of c.in-Some.attribute) (map attribute_of c.push.new.self) (rw c.in-Some.is at c.in_ok-attribute.ensures)
    (ap (map attribute_of) c.in_ok-push.ensures.ok ∙ map-append attribute_of c.loop-piece.attributes (c.in-Some.attribute ∷ []))

pub returns : goal.returns
returns c =
    let pieces = c.args.pieces.now in
    leads_all c.args.subject (map (λ piece. piece.now) pieces) (map (λ piece. piece.now) (drop c.loop-piece.piece-index pieces)) (map attribute_of c.loop-piece.attributes) c.loop-piece.invariant
    (ap (map (λ piece. piece.now)) (drop_all c.loop-piece.piece-index pieces c.loop-piece-test.false))

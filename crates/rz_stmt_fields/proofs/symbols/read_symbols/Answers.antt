use Rattle.std.proofs.Common.{◌+◌, [], ◌∷◌, drop, map, sym, ap, ◌∙◌}
use Rattle.std.proofs.lemmas.List.{at_drop_more, drop_all, map-append}
use Rattle.rz_stmt_fields.specs.Form.{named_of}
use Rattle.rz_stmt_fields.specs.Symbols.{IsSymbol}
use Rattle.rz_stmt_fields.proofs.Each.{each_all, each_more, each_nowhere}
use Rattle.rz_stmt_fields.proofs.symbols.read_symbols.Goals as goal

pub loop-piece-preserved : goal.loop-piece-preserved
loop-piece-preserved c =
    let pieces = c.args.pieces.now in
    let i = c.loop-piece.piece-index in
    let d = c.piece-item.result in
    each_more (IsSymbol c.args.form) (map (λ piece. piece.now) pieces) (map (λ piece. piece.now) (drop i pieces))
    (map (λ piece. piece.now) (drop (i + 1) pieces)) (map named_of c.loop-piece.names) d.now c.loop-piece.invariant
    (at_drop_more (map (λ piece. piece.now)) pieces i d c.loop-piece-test.true ∙ ap (λ piece. piece.now ∷ map (λ piece. piece.now) (drop (i + 1) pieces)) (sym c.piece-item.is))
    (named_of c.in-Some.named) (map named_of c.push.new.self) (rw c.in-Some.is at c.in_ok-named.ensures)
    (ap (map named_of) c.in_ok-push.ensures.ok ∙ map-append named_of c.loop-piece.names (c.in-Some.named ∷ []))

pub returns : goal.returns
returns c =
    let pieces = c.args.pieces.now in
    each_all (IsSymbol c.args.form) (map (λ piece. piece.now) pieces) (map (λ piece. piece.now) (drop c.loop-piece.piece-index pieces)) (map named_of c.loop-piece.names) c.loop-piece.invariant
    (ap (map (λ piece. piece.now)) (drop_all c.loop-piece.piece-index pieces c.loop-piece-test.false))

pub returns-in_default : goal.returns-in_default
returns-in_default c =
    let pieces = c.args.pieces.now in
    let i = c.loop-piece.piece-index in
    let d = c.piece-item.result in
    each_nowhere (IsSymbol c.args.form) (map (λ piece. piece.now) pieces) (map (λ piece. piece.now) (drop i pieces))
    (map (λ piece. piece.now) (drop (i + 1) pieces)) (map named_of c.loop-piece.names) d.now c.loop-piece.invariant
    (at_drop_more (map (λ piece. piece.now)) pieces i d c.loop-piece-test.true ∙ ap (λ piece. piece.now ∷ map (λ piece. piece.now) (drop (i + 1) pieces)) (sym c.piece-item.is))
    (rw c.in_default.is at c.in_ok-named.ensures)

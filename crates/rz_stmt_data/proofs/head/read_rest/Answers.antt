use Rattle.std.proofs.Common.{true, map, sym, ap}
use Rattle.rz_stmt_data.proofs.Answering.{found_so}
use Rattle.rz_stmt_data.proofs.Shaped.{no_rest, rest_back, rest_forth}
use Rattle.rz_stmt_data.specs.Head.{IsRestOf}
use Rattle.rz_stmt_data.specs.Steps.{rest_of, IsNamedRest}
use Rattle.rz_stmt_data.proofs.head.read_rest.Goals as goal

pub returns-then-begins_text : goal.returns-then-begins_text
returns-then-begins_text c =
    let are = ap (map (λ piece. piece.now)) c.in-Some.ensures.cases.0 in
    let on = sym c.if-begins_text.ensures in
    found_so rest_of (IsRestOf c.args.subject (map (λ piece. piece.now) c.args.pieces.now)) (IsNamedRest c.args.subject c.in-Some.first.now.now (map (λ piece. piece.now) c.in-Some.others.now))
    (rest_forth c.args.subject (map (λ piece. piece.now) c.args.pieces.now) (map (λ piece. piece.now) c.in-Some.others.now) c.in-Some.first.now.now are true on)
    (rest_back c.args.subject (map (λ piece. piece.now) c.args.pieces.now) (map (λ piece. piece.now) c.in-Some.others.now) c.in-Some.first.now.now are true on)
    c.read_named.result c.read_named.ensures

pub returns-in-None : goal.returns-in-None
returns-in-None c =
    no_rest c.args.subject (map (λ piece. piece.now) c.args.pieces.now) (map (λ piece. piece.now) c.in-Some.others.now) c.in-Some.first.now.now
    (ap (map (λ piece. piece.now)) c.in-Some.ensures.cases.0) (sym c.if-begins_text.ensures) (rw c.in-None.is at c.in_ok-attributes.ensures)

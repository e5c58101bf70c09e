use Rattle.std.proofs.Common.{sym}
use Rattle.rz_stmt_type.specs.Head.{bare, counted, named, IsArrayFront, IsBare, IsCounted, IsNamed}
use Rattle.rz_stmt_type.specs.Held.{held_array}
use Rattle.rz_stmt_fields.proofs.Answering.{decided_so, found_so}
use Rattle.rz_stmt_type.proofs.OneHead.{bare_back, counted_back, named_back}
use Rattle.rz_stmt_type.proofs.head.read_array_front.Goals as goal

pub returns-then-begins : goal.returns-then-begins
returns-then-begins c =
    let tokens = c.args.tokens.now in
    found_so held_array (IsArrayFront tokens) (IsCounted tokens) (λ front is. counted is) (λ front. counted_back tokens front (sym c.if-begins.ensures))
    c.read_counted.result c.read_counted.ensures

pub returns-then-begins-2 : goal.returns-then-begins-2
returns-then-begins-2 c =
    let tokens = c.args.tokens.now in
    decided_so held_array (IsArrayFront tokens) (IsBare tokens) (λ front is. bare is) (λ front. bare_back tokens front (sym c.if-begins-2.ensures))
    c.bare.result c.bare.ensures

pub returns-else-begins-2 : goal.returns-else-begins-2
returns-else-begins-2 c =
    let tokens = c.args.tokens.now in
    found_so held_array (IsArrayFront tokens) (IsNamed tokens) (λ front is. named is)
    (λ front. named_back tokens front (sym c.if-begins.ensures) (sym c.if-begins-2.ensures)) c.read_named.result c.read_named.ensures

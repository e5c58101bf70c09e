use Rattle.std.proofs.Common.{sym}
use Rattle.rz_stmt_data.proofs.Answering.{decided_so, found_so}
use Rattle.rz_stmt_lists.proofs.Parts.{of_type_back, of_type_forth, others_back, others_forth}
use Rattle.rz_stmt_lists.specs.Include.{part_of, IsPart}
use Rattle.rz_stmt_lists.specs.Steps.{IsOfType, IsOthers}
use Rattle.rz_stmt_lists.proofs.include.read_part.Goals as goal

pub returns-then-is_keyword : goal.returns-then-is_keyword
returns-then-is_keyword c =
    let tokens = c.args.tokens.now in
    let first = c.in-Some.first.now in
    let rest = c.in-Some.behind.now in
    let here = c.in-Some.ensures.cases.0 in
    let empty = sym c.if-is_empty_statement.ensures in
    decided_so part_of (IsPart tokens) (IsOthers rest) (others_forth tokens first rest here empty (sym c.if-is_keyword.ensures))
    (others_back tokens first rest here empty (sym c.if-is_keyword.ensures)) c.others.result c.others.ensures

pub returns-in-Some-kind_in : goal.returns-in-Some-kind_in
returns-in-Some-kind_in c =
    let tokens = c.args.tokens.now in
    let first = c.in-Some.first.now in
    let rest = c.in-Some.behind.now in
    let here = c.in-Some.ensures.cases.0 in
    let empty = sym c.if-is_empty_statement.ensures in
    let off = sym c.if-is_keyword.ensures in
    let code = c.in-Some-kind_in.code in
    found_so part_of (IsPart tokens) (IsOfType code rest) (of_type_forth tokens first rest here empty off code (sym c.in-Some-kind_in.ensures))
    (of_type_back tokens first rest here empty off code (sym c.in-Some-kind_in.ensures)) c.read_of_type.result c.read_of_type.ensures

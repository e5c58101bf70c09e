use Rattle.std.proofs.Common.{◌≡◌, sym, ap, ◌∙◌}
use Rattle.rz_core.proofs.Tests.{true_false}
use Rattle.rz_core.specs.Decided.{Decided}
use Rattle.rz_stmt_brackets.specs.Statements.{is_empty}
use Rattle.rz_stmt_lists.specs.Read.{IsNamed}
use Rattle.rz_stmt_data.specs.Files.{file_in}
use Rattle.rz_stmt_data.proofs.Answering.{ok_so}
use Rattle.rz_stmt_lists.proofs.Texts.{named_decided, named_so}
use Rattle.rz_stmt_lists.proofs.read.read_named.Goals as goal

pub returns-then-is_empty_statement : goal.returns-then-is_empty_statement
returns-then-is_empty_statement c =
    let tokens = c.args.tokens.now in
    ok_so (λ file. file ≡ file_in tokens) (λ file. Decided (IsNamed tokens) file)
    (named_decided tokens (ap is_empty (sym c.behind_texts.ensures) ∙ sym c.if-is_empty_statement.ensures)) c.file_in.result c.file_in.ensures

pub returns-else-is_empty_statement : goal.returns-else-is_empty_statement
returns-else-is_empty_statement c name is =
    true_false (sym (named_so c.args.tokens.now name is).1 ∙ ap is_empty (sym c.behind_texts.ensures) ∙ sym c.if-is_empty_statement.ensures)

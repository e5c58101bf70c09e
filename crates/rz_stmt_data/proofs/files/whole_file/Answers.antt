use Rattle.std.proofs.Common.{◌≡◌, List, length, sym, ap, ◌∙◌}
use Rattle.std.proofs.lemmas.Bool.{eqb-false, eqb-true}
use Rattle.std.proofs.lemmas.List.{nil_from_length}
use Rattle.rz_core.specs.Decided.{Decided}
use Rattle.rz_lex.specs.declared.token.Token.{Token}
use Rattle.rz_stmt_data.specs.Files.{file_in, IsFile}
use Rattle.rz_stmt_data.proofs.Answering.{ok_so}
use Rattle.rz_stmt_data.proofs.FileNames.{whole_decided, whole_so}
use Rattle.rz_stmt_data.proofs.files.whole_file.Goals as goal

pub returns-then-is_empty : goal.returns-then-is_empty
returns-then-is_empty c =
    let tokens = c.args.tokens.now in
    ok_so (λ file. file ≡ file_in tokens) (λ file. Decided (IsFile tokens) file)
    (whole_decided tokens (sym c.behind_texts.ensures ∙ nil_from_length c.behind_texts.result.now (eqb-true (length c.behind_texts.result.now) 0 (sym c.if-is_empty.ensures))))
    c.file_in.result c.file_in.ensures

pub returns-else-is_empty : goal.returns-else-is_empty
returns-else-is_empty c name is =
    eqb-false (length c.behind_texts.result.now) 0 (sym c.if-is_empty.ensures)
    (ap (λ (ts : List Token). length ts) (c.behind_texts.ensures ∙ (whole_so c.args.tokens.now name is).1))

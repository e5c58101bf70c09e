use Rattle.std.proofs.Common.{sym, subst}
use Rattle.rz_stmt_data.proofs.Built.{file_bytes_is}
use Rattle.rz_stmt_data.proofs.Calls.{read_nowhere}
use Rattle.rz_stmt_data.specs.Texts.{reads, IsCall}
use Rattle.rz_stmt_data.specs.declared.texts.TextCall.TheVariants.{Read}
use Rattle.rz_stmt_data.proofs.texts.read_file.Goals as goal

pub returns-in-Some : goal.returns-in-Some
returns-in-Some c =
    subst (IsCall Read c.args.tokens.now) (sym (file_bytes_is c.in-Some.file)) (reads c.args.tokens.now c.in-Some.file (rw c.in-Some.is at c.in_ok-file.ensures))

pub returns-in-None : goal.returns-in-None
returns-in-None c = read_nowhere c.args.tokens.now (rw c.in-None.is at c.in_ok-file.ensures)

use Rattle.rz_laws.proofs.Read.{read_kept}
use Rattle.rz_laws.proofs.forms.read_files_are_kept.Goals as goal

pub returns : goal.returns
returns c = read_kept

use Rattle.rz_laws.proofs.Written.{read_back}
use Rattle.rz_laws.proofs.forms.written_forms_are_read.Goals as goal

pub returns : goal.returns
returns c = λ form file bytes kept. read_back file bytes kept form

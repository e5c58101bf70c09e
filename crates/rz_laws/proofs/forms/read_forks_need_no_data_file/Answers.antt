use Rattle.rz_laws.proofs.Read.{read_alone}
use Rattle.rz_laws.proofs.forms.read_forks_need_no_data_file.Goals as goal

pub returns : goal.returns
returns c = read_alone

use Rattle.rz_pre.specs.Program.{IncludedGoes}
use Rattle.rz_pre_laws.proofs.Chosen.{passed_back, passed_there, read_back, read_there}
use Rattle.rz_pre_laws.proofs.laws.chosen_parts.Goals as goal

pub returns-clause-read : goal.returns-clause-read
returns-clause-read c tool files paths levels group rest ending opens s answer good kept = (
  read_there (IncludedGoes tool files paths levels) tool group rest ending opens s answer good kept,
  read_back (IncludedGoes tool files paths levels) tool group rest ending opens s answer good kept,
)

pub returns-clause-passed : goal.returns-clause-passed
returns-clause-passed c tool files paths levels group rest ending opens s answer good unkept = (
  passed_there (IncludedGoes tool files paths levels) tool group rest ending opens s answer good unkept,
  passed_back (IncludedGoes tool files paths levels) tool group rest ending opens s answer good unkept,
)

use Rattle.rz_pre.specs.Program.{IncludedGoes}
use Rattle.rz_pre_laws.proofs.Unclosed.{read_back, read_there, unread_back, unread_there}
use Rattle.rz_pre_laws.proofs.laws.unclosed_conditional.Goals as goal

pub returns-clause-read : goal.returns-clause-read
returns-clause-read c tool files paths levels test first others opens s answer good kept = (
  read_there (IncludedGoes tool files paths levels) tool test first others opens s good kept answer,
  read_back (IncludedGoes tool files paths levels) tool test first others opens s good kept answer,
)

pub returns-clause-passed : goal.returns-clause-passed
returns-clause-passed c tool files paths levels test first others opens s answer good unkept = (
  unread_there (IncludedGoes tool files paths levels) tool test first others opens s good unkept answer,
  unread_back (IncludedGoes tool files paths levels) tool test first others opens s good unkept answer,
)

use Rattle.rz_core.proofs.Civil.{same_date, same_time}
use Rattle.rz_core.proofs.laws.one_date.Goals as goal

pub returns-clause-date : goal.returns-clause-date
returns-clause-date c = same_date

pub returns-clause-time : goal.returns-clause-time
returns-clause-time c = same_time

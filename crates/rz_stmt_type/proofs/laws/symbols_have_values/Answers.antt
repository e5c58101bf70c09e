use Rattle.rz_stmt_type.proofs.GoBack.{have_back, wrong_back}
use Rattle.rz_stmt_type.proofs.GoOn.{have_values}
use Rattle.rz_stmt_type.proofs.GoWrong.{go_wrong}
use Rattle.rz_stmt_type.proofs.laws.symbols_have_values.Goals as goal

pub returns-clause-values : goal.returns-clause-values
returns-clause-values c fits mark names first symbols = (have_values fits mark names first symbols, have_back fits mark names first symbols)

pub returns-clause-fault : goal.returns-clause-fault
returns-clause-fault c fits mark names first fault = (go_wrong fits mark names first fault, wrong_back fits mark names first fault)

use Rattle.rz_core.proofs.Folds.{each_fold, same_fold, same_lower}
use Rattle.rz_core.proofs.word.names_agree.Goals as goal

pub returns-clause-lower : goal.returns-clause-lower
returns-clause-lower c = same_lower

pub returns-clause-folded : goal.returns-clause-folded
returns-clause-folded c = each_fold

pub returns-clause-fold : goal.returns-clause-fold
returns-clause-fold c = same_fold

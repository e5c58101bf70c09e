use Rattle.rz_types_fields.specs.Spells.{anyhow, plainly}
use Rattle.rz_unlay.proofs.SpelledShape.{spelled_is_row}
use Rattle.rz_unlay.proofs.spelled.spelled_rows_are_rows.Goals as goal

pub returns-clause-spelled : goal.returns-clause-spelled
returns-clause-spelled c = spelled_is_row anyhow

pub returns-clause-plainly : goal.returns-clause-plainly
returns-clause-plainly c = λ known body row bytes it. spelled_is_row plainly known body row bytes it.spelling

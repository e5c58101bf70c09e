use Rattle.rz_types_fields.specs.Spells.{anyhow, plainly}
use Rattle.rz_unlay.proofs.SpelledShort.{spelled_is_short}
use Rattle.rz_unlay.proofs.spelled.spelled_bytes_are_few.Goals as goal

pub returns-clause-spelled : goal.returns-clause-spelled
returns-clause-spelled c = spelled_is_short c.filled_to_a_multiple.ensures.fewer anyhow

pub returns-clause-plainly : goal.returns-clause-plainly
returns-clause-plainly c = λ known body row bytes it. spelled_is_short c.filled_to_a_multiple.ensures.fewer plainly known body row bytes it.spelling

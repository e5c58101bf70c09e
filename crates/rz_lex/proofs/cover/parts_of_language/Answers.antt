use Rattle.rz_lex.proofs.PartWords.{none_is, part_is}
use Rattle.rz_lex.proofs.cover.parts_of_language.Goals as goal

pub returns-clause-part : goal.returns-clause-part
returns-clause-part c = part_is

pub returns-clause-none : goal.returns-clause-none
returns-clause-none c = none_is

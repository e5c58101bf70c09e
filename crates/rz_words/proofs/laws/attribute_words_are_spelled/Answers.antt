use Rattle.rz_words.proofs.Spelled.{attribute_is, attribute_other_name}
use Rattle.rz_words.proofs.laws.attribute_words_are_spelled.Goals as goal

pub returns-clause-word : goal.returns-clause-word
returns-clause-word c = attribute_is

pub returns-clause-other : goal.returns-clause-other
returns-clause-other c = attribute_other_name

use Rattle.rz_pre_source.proofs.Hashes.{byte_other, hash_line, name_bracket, no_word, word_named}
use Rattle.rz_pre_source.proofs.laws.directives_are_lines.Goals as goal

pub returns-clause-hash : goal.returns-clause-hash
returns-clause-hash c = hash_line

pub returns-clause-word : goal.returns-clause-word
returns-clause-word c = word_named

pub returns-clause-empty : goal.returns-clause-empty
returns-clause-empty c = no_word

pub returns-clause-unnamed : goal.returns-clause-unnamed
returns-clause-unnamed c = byte_other

pub returns-clause-parameters : goal.returns-clause-parameters
returns-clause-parameters c = name_bracket

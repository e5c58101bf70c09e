use Rattle.rz_words.proofs.Spelled.{keyword_is, keyword_reserved, one_keyword}
use Rattle.rz_words.proofs.laws.keywords_are_spelled.Goals as goal

pub returns-clause-keyword : goal.returns-clause-keyword
returns-clause-keyword c = keyword_is

pub returns-clause-one : goal.returns-clause-one
returns-clause-one c = one_keyword

pub returns-clause-reserved : goal.returns-clause-reserved
returns-clause-reserved c = keyword_reserved

use Rattle.rz_tools.proofs.Spared.{compiled_spared}
use Rattle.rz_tools.proofs.laws.reserved_words_are_spared.Goals as goal

pub returns : goal.returns
returns c around start names paths defs compiled free makes =
    compiled_spared c.live_names_are_free.ensures c.keywords_are_spelled.ensures.keyword c.attribute_words_are_spelled.ensures.word around start names paths defs compiled free makes

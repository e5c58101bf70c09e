use Rattle.rz_tools.proofs.Spared.{compiled_spared}
use Rattle.rz_tools.proofs.Views.{rez_free}
use Rattle.rz_tools_laws.proofs.ReadBack.{read_back}
use Rattle.rz_tools_laws.proofs.laws.shown_forks_are_read_back.Goals as goal

pub returns : goal.returns
returns c words others shown asked files after moment name bytes fork answer =
    read_back c.shown_forks_are_read_again.ensures
    (compiled_spared c.live_names_are_free.ensures c.keywords_are_spelled.ensures.keyword c.attribute_words_are_spelled.ensures.word)
    (rez_free c.definitions_are_free.ensures) c.statements_go_on.ensures.ended c.statements_go_on.ensures.appended c.one_command.ensures.command
    words others shown asked files after moment name bytes fork answer

use Rattle.rz_tools.proofs.Spared.{compiled_spared}
use Rattle.rz_tools.proofs.Views.{rez_free}
use Rattle.rz_tools_laws.proofs.Behind.{compiled_behind}
use Rattle.rz_tools_laws.proofs.ReadBack.{compiles_behind}
use Rattle.rz_tools_laws.proofs.laws.shown_forks_are_compiled_behind_types.Goals as goal

pub returns-clause-work : goal.returns-clause-work
returns-clause-work c around start types paths name defs known text list compiled rez at held again =
    compiled_behind c.statements_go_on.ensures.ended c.statements_go_on.ensures.appended around start types paths name defs known text list rez at held again compiled

pub returns-clause-answer : goal.returns-clause-answer
returns-clause-answer c =
    compiles_behind c.shown_forks_are_read_again.ensures
    (compiled_spared c.live_names_are_free.ensures c.keywords_are_spelled.ensures.keyword c.attribute_words_are_spelled.ensures.word)
    (rez_free c.definitions_are_free.ensures) c.statements_go_on.ensures.ended c.statements_go_on.ensures.appended

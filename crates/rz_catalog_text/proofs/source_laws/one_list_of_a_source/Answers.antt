use Rattle.rz_catalog_text.proofs.SourceAnswered.{once_entries}
use Rattle.rz_catalog_text.proofs.source_laws.one_list_of_a_source.Goals as goal

pub returns : goal.returns
returns c =
    once_entries c.one_text.ensures.text c.one_text.ensures.fault c.one_text.ensures.not_both c.one_lex.ensures.tokens c.one_lex.ensures.fault
    c.one_lex.ensures.not_both c.one_list_of_entries.ensures

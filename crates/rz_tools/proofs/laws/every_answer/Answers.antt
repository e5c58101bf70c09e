use Rattle.rz_tools_work.specs.Work.{begun}
use Rattle.rz_tools.proofs.EveryAnswer.{every_answer}
use Rattle.rz_tools.proofs.EveryMeaning.{has_work}
use Rattle.rz_tools.proofs.EveryResource.{has_list, templates_kept}
use Rattle.rz_tools.proofs.laws.every_answer.Goals as goal

pub returns : goal.returns
returns c =
    every_answer c.every_file_is_named.ensures.file c.every_program_has_an_answer.ensures c.every_types.ensures
    (λ around name files types are list. has_work c.every_statement_is_parsed.ensures c.all_tokens_are_statements.ensures
    (has_list c.one_match.ensures.some c.matched_rows_are_rows.ensures c.one_spelling.ensures.some) around (begun types list) (templates_kept types (c.types_are_templates.ensures name files types are)))
    c.every_list_is_shown.ensures c.every_header_has_a_data_file.ensures c.every_catalogue.ensures c.every_source_has_entries.ensures c.every_application.ensures c.every_list_of_words_is_read.ensures

use Rattle.rz_tools_laws.proofs.Listed.{listed_again}
use Rattle.rz_tools_laws.proofs.texts.changed_texts_are_listed.Goals as goal

pub returns : goal.returns
returns c =
    listed_again c.changed_forks_have_the_texts.ensures c.every_catalogue.ensures c.others_stay.ensures c.trees_are_decided.ensures c.spelled_bytes_are_few.ensures.plainly
    c.one_command.ensures.command c.roman_is_one_to_one.ensures c.read_files_are_kept.ensures c.read_forks_need_no_data_file.ensures c.written_forms_are_read.ensures

use Rattle.rz_tools.proofs.OneAnswer.{one_answer}
use Rattle.rz_tools.proofs.laws.one_answer.Goals as goal

pub returns : goal.returns
returns c = one_answer c.one_cutting.ensures c.one_statement.ensures c.one_match.ensures.one c.one_spelling.ensures.one c.one_shown_text.ensures.text c.one_program.ensures c.one_named_file.ensures c.one_data_file.ensures c.one_types.ensures c.one_catalogue.ensures c.one_list_of_a_source.ensures c.one_application.ensures c.one_command.ensures.command c.one_command.ensures.position

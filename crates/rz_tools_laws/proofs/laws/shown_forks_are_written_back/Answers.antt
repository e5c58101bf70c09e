use Rattle.rz_tools_laws.proofs.WrittenBack.{written_back}
use Rattle.rz_tools_laws.proofs.laws.shown_forks_are_written_back.Goals as goal

pub returns : goal.returns
returns c words others shown asked files after moment name bytes fork answer =
    written_back c.shown_forks_are_read_back.ensures c.one_answer.ensures words others shown asked files after moment name bytes fork answer

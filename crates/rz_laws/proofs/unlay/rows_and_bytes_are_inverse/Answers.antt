use Rattle.std.proofs.Common.{Ok}
use Rattle.rz_layout.proofs.Answering.{answer_is, laid_is}
use Rattle.rz_layout.proofs.Small.{small_bytes}
use Rattle.rz_laws.proofs.Inverse.{steps_so, told_so}
use Rattle.rz_laws.proofs.unlay.rows_and_bytes_are_inverse.Goals as goal

pub returns-clause-told : goal.returns-clause-told
returns-clause-told c known body row bytes =
    told_so known body row (c.one_spelling.ensures.one known body row) (c.plain_rows_are_spelled.ensures known body row) bytes

pub returns-clause-steps : goal.returns-clause-steps
returns-clause-steps c known body row bytes shaped keeps readable short small are =
    let fits = small_bytes c.numbers_are_read_back.ensures c.numbers_are_written_back.ensures in
    let kept = c.rules_hold_within.ensures body keeps in
    steps_so known body row (c.one_spelling.ensures.one known body row) (c.plain_rows_are_spelled.ensures known body row) bytes
    (answer_is c.bytes_are_read_back.ensures c.bits_are_written_back.ensures c.filled_to_a_multiple.ensures.multiple fits known body row (Ok bytes))
    (laid_is c.bytes_are_read_back.ensures c.bits_are_written_back.ensures c.filled_to_a_multiple.ensures.multiple fits known body row kept are (Ok bytes))
    (c.read_rows_are_plain.ensures known body row bytes shaped keeps readable short small)
    (c.plain_rows_are_read.ensures known body row bytes shaped keeps readable)

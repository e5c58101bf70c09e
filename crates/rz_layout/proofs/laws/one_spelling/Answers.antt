use Rattle.std.proofs.Common.{sym, ◌∙◌}
use Rattle.rz_layout.proofs.Answering.{answer_is, one_answer}
use Rattle.rz_layout.proofs.Small.{small_bytes}
use Rattle.rz_layout.proofs.laws.one_spelling.Goals as goal

pub returns-clause-some : goal.returns-clause-some
returns-clause-some c = λ known body row keeps are.
    one_answer c.bytes_are_read_back.ensures c.bits_are_written_back.ensures c.filled_to_a_multiple.ensures.multiple
    (small_bytes c.numbers_are_read_back.ensures c.numbers_are_written_back.ensures) known body row (c.rules_hold_within.ensures body keeps) are

pub returns-clause-one : goal.returns-clause-one
returns-clause-one c = λ known body row answer other is also.
    let small = small_bytes c.numbers_are_read_back.ensures c.numbers_are_written_back.ensures in
    sym (answer_is c.bytes_are_read_back.ensures c.bits_are_written_back.ensures c.filled_to_a_multiple.ensures.multiple small known body row answer is)
    ∙ answer_is c.bytes_are_read_back.ensures c.bits_are_written_back.ensures c.filled_to_a_multiple.ensures.multiple small known body row other also

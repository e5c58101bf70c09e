use Rattle.rz_unlay.proofs.ReadsFields.{plain_row_read}
use Rattle.rz_unlay.proofs.found.plain_rows_are_read.Goals as goal

pub returns : goal.returns
returns c = λ known body row bytes shaped keeps reads it.
    plain_row_read c.numbers_are_read_back.ensures c.numbers_are_written_back.ensures c.bytes_are_read_back.ensures c.filled_to_a_multiple.ensures.fewer known body row bytes shaped
    (c.keys_stand_apart.ensures body keeps) reads it

use Rattle.rz_unlay.proofs.EveryRow.{every_row}
use Rattle.rz_unlay.proofs.found.told_rows_are_decided.Goals as goal

pub returns : goal.returns
returns c = λ known body bytes shaped kept.
    every_row known body bytes (λ row spells. c.spelled_bytes_are_few.ensures.plainly known body row bytes spells)
    (λ readable row spells. c.plain_rows_are_read.ensures known body row bytes shaped kept readable spells)
    (λ readable short small row is. c.read_rows_are_plain.ensures known body row bytes shaped kept readable short small is)

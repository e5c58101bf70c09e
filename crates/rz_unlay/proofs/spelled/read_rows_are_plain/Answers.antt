use Rattle.std.specs.Prelude.{false, nat_le}
use Rattle.rz_types_fields.specs.Shape.{are_shaped, body_depth, deepest_body}
use Rattle.rz_unlay.proofs.ReadsTests.{both_true}
use Rattle.rz_unlay.proofs.SpelledPieces.{Tells}
use Rattle.rz_unlay.proofs.SpelledWhole.{was_read}
use Rattle.rz_unlay.proofs.spelled.read_rows_are_plain.Goals as goal

pub returns : goal.returns
returns c = λ known body row bytes shaped keeps reads few are is.
    let tells : Tells = record { read = c.numbers_are_read_back.ensures; written = c.numbers_are_written_back.ensures; bytes = c.bits_are_written_back.ensures } in
    let both = both_true (are_shaped false body) (nat_le (body_depth body) deepest_body) shaped in
    was_read tells known body row bytes both.0 (c.rules_hold_within.ensures body keeps) reads few are is

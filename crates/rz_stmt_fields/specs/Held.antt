-- What the code holds of tokens that it lends.
use Rattle.rz_stmt_fields.specs.FieldWord.{FieldFront}
use Rattle.rz_stmt_fields.specs.declared.field_word.Front.{Front}

abbrev pub held_front : Front → FieldFront
held_front front = record { unsigned = front.unsigned; radix = front.radix; word = front.word; tail = front.tail.now }

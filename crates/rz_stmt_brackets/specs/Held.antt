-- What the code holds of tokens that it lends.
use Rattle.rz_stmt_brackets.specs.Pieces.{Parted}
use Rattle.rz_stmt_brackets.specs.declared.pieces.Split.{Split}

abbrev pub held_split : Split → Parted
held_split split = record { front = split.front.now; behind = split.behind.now }

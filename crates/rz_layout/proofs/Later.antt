-- Which keys have their values later.
use Rattle.std.specs.Prelude.{Bool, false, not}
use Rattle.rz_expr.specs.Environment.{place_in, place_of, rows_of, Key}
use Rattle.rz_types_fields.specs.Passed.{Names}

-- that of a label that wasn't met; that of one in the rows of an array that hasn't ended, and those of its places in them
abbrev pub is_later : Names → Key → Bool
is_later met (place_of name) = not (met (place_of name))
is_later met (rows_of label) = not (met (rows_of label))
is_later met (place_in label number) = not (met (rows_of label))
is_later met key = false

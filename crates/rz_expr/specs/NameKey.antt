-- The keys of the code as those of definitions.
use Rattle.rz_expr.specs.Environment.{count_key, place_in_key, place_key, row_key, rows_key}
use Rattle.rz_expr.specs.Environment as names
use Rattle.rz_expr.specs.declared.env.Key.{Key}
use Rattle.rz_expr.specs.declared.env.Key.TheVariants.{Count, Place, PlaceIn, Row, Rows}

-- the key of definitions that a key of the code is; the case of its name doesn't count
abbrev pub key_of : Key → names.Key
key_of (Place name) = place_key name.now.bytes
key_of (Count name) = count_key name.now.bytes
key_of (Rows name) = rows_key name.now.bytes
key_of (PlaceIn name number) = place_in_key name.now.bytes number
key_of (Row name) = row_key name.now.bytes

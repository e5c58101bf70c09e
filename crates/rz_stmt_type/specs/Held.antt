-- What the code holds of tokens that it lends.
use Rattle.std.specs.Prelude.{option_map}
use Rattle.rz_expr.specs.Term.{term_of}
use Rattle.rz_stmt_type.specs.Head as head
use Rattle.rz_stmt_type.specs.Label as label
use Rattle.rz_stmt_type.specs.Start as start
use Rattle.rz_stmt_type.specs.declared.head.ArrayFront.{ArrayFront}
use Rattle.rz_stmt_type.specs.declared.head.CaseFront.{CaseFront}
use Rattle.rz_stmt_type.specs.declared.label.LabelFront.{LabelFront}
use Rattle.rz_stmt_type.specs.declared.start.Start.{Start}
use Rattle.rz_stmt_type.specs.declared.start.Start.TheVariants.{Array, Flat, Key, Switch}

abbrev pub held_start : Start → start.FieldStart
held_start (Key behind) = start.Key behind.now
held_start (Array behind) = start.Array behind.now
held_start (Switch behind) = start.Switch behind.now
held_start Flat = start.Flat

abbrev pub held_array : ArrayFront → head.ArrayFront
held_array front = record { name = front.name; count = option_map term_of front.count; row = front.row.now }

abbrev pub held_case : CaseFront → head.CaseFront
held_case front = record { name = front.name.now; row = front.row.now }

abbrev pub held_label : LabelFront → label.LabelFront
held_label front = record { name = front.name.now; behind = front.behind.now }

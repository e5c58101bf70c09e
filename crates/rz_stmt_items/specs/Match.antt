-- Items and the fields of a type: the row that they are, or their first fault. (MPW Rez.)
use Rattle.std.specs.Prelude.{List, Ok, Err}
use Rattle.std.specs.declared.result.Result.{Result}
use Rattle.rz_core.specs.declared.facts.Facts.{Facts}
use Rattle.rz_core.specs.declared.fault.Fault.{Fault}
use Rattle.rz_core.specs.declared.fault.Mark.{Mark}
use Rattle.rz_stmt_items.specs.Item.{PlainItem}
use Rattle.rz_stmt_items.specs.Fits.{Fits}
use Rattle.rz_stmt_items.specs.Unfit.{Unfit}
use Rattle.rz_types_fields.specs.declared.tree.Tree.{Tree}
use Rattle.rz_types.specs.Field.{PlainBody}

-- what the items of a statement at this place are under the fields, where of the resource so much is known
abbrev pub IsMatch : Facts → Mark → PlainBody → List PlainItem → Result (List Tree) Fault → Type 0
IsMatch known place body items (Ok row) = Fits known body items row
IsMatch known place body items (Err fault) = Unfit known place body items fault

-- What a `type` statement makes is well shaped. (MPW Rez.)
use Rattle.std.specs.Prelude.{◌≡◌, true}
use Rattle.rz_stmt_type.specs.Constants.{CopyOf, Fields, PlainMade}
use Rattle.rz_types_fields.specs.Shape.{is_well_shaped}

-- fields are well shaped; a copy has none of its own
abbrev pub IsShapedMade : PlainMade → Type 0
IsShapedMade (Fields body) = is_well_shaped body ≡ true
IsShapedMade (CopyOf kind id) = Unit {0}

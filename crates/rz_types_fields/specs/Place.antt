-- What may stand in a text, by where the text stands. (MPW Rez.)
use Rattle.std.specs.Prelude.{Bool, true, false, ◌&&◌, List}
use Rattle.rz_expr.specs.Term.{Term}
use Rattle.rz_types_fields.specs.Text.{argument_and, no_arguments, no_parts, part_and, parts_of, ById, ByName, DateFact, FileBytes, FileResource, Format, NameFact, Number, Plain, PlainArgument, PlainArguments, PlainKey, PlainPart, PlainParts, Text, TimeFact, VersionFact}
use Rattle.rz_types_fields.specs.Value.{is_field_expression, is_fixed_expression, is_head_expression, is_item_expression}
use Rattle.rz_types_fields.specs.declared.place.TextPlace.{TextPlace}
use Rattle.rz_types_fields.specs.declared.place.TextPlace.TheVariants.{Chosen, Data, Fixed, Item, New}

-- an expression there: of a new resource nothing is known but the moment; of one that is chosen, or whose head stands before, its
-- facts are; an item may have names too, and a fixed text labels, bits at them and numbers of rows
abbrev pub may_say : TextPlace → Term → Bool
may_say New term = is_head_expression term
may_say Chosen term = is_field_expression term
may_say Data term = is_field_expression term
may_say Item term = is_item_expression term
may_say Fixed term = is_fixed_expression term

-- `$$Name`
abbrev pub may_name : TextPlace → Bool
may_name New = false
may_name place = true

-- `$$Read` and `$$Resource`
abbrev pub may_read : TextPlace → Bool
may_read Data = true
may_read Item = true
may_read place = false

abbrev mutual
  pub may_have : TextPlace → PlainPart → Bool
  may_have place (Plain bytes) = true
  may_have place NameFact = may_name place
  may_have place DateFact = true
  may_have place TimeFact = true
  may_have place VersionFact = true
  may_have place (FileBytes file) = may_read place
  may_have place (FileResource file kind key) = may_read place && may_ask key
  may_have place (Format text arguments) = may_have_arguments place arguments

  -- the id that a `$$Resource` asks for is like that of a new head, and the name like that for a chosen resource
  pub may_ask : PlainKey → Bool
  may_ask (ById term) = is_head_expression term
  may_ask (ByName parts) = may_have_parts Chosen parts

  pub may_have_parts : TextPlace → PlainParts → Bool
  may_have_parts place no_parts = true
  may_have_parts place (part_and part others) = may_have place part && may_have_parts place others

  pub may_have_argument : TextPlace → PlainArgument → Bool
  may_have_argument place (Number term) = may_say place term
  may_have_argument place (Text parts) = may_have_parts place parts

  pub may_have_arguments : TextPlace → PlainArguments → Bool
  may_have_arguments place no_arguments = true
  may_have_arguments place (argument_and argument others) = may_have_argument place argument && may_have_arguments place others

-- all parts of a text may stand there
abbrev pub may_stand : TextPlace → List PlainPart → Bool
may_stand place parts = may_have_parts place (parts_of parts)

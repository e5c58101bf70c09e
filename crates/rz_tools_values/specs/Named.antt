-- Which texts name a file. (MPW Rez.)
use Rattle.std.specs.Prelude.{Bool, true, false, ◌||◌, List}
use Rattle.rz_types_fields.specs.Text.{argument_and, no_arguments, no_parts, part_and, parts_of, DateFact, FileBytes, FileResource, Format, NameFact, Number, Plain, PlainArgument, PlainArguments, PlainPart, PlainParts, Text, TimeFact, VersionFact}

abbrev mutual
  pub part_names : PlainPart → Bool
  part_names (Plain bytes) = false
  part_names NameFact = false
  part_names DateFact = false
  part_names TimeFact = false
  part_names VersionFact = false
  part_names (FileBytes file) = true
  part_names (FileResource file kind key) = true
  part_names (Format text arguments) = arguments_name arguments

  pub parts_name : PlainParts → Bool
  parts_name no_parts = false
  parts_name (part_and part others) = part_names part || parts_name others

  pub argument_names : PlainArgument → Bool
  argument_names (Number term) = false
  argument_names (Text parts) = parts_name parts

  pub arguments_name : PlainArguments → Bool
  arguments_name no_arguments = false
  arguments_name (argument_and argument others) = argument_names argument || arguments_name others

-- a part of the text names one
abbrev pub texts_name : List PlainPart → Bool
texts_name parts = parts_name (parts_of parts)

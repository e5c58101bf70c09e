-- Which files a text names, each by its name in Mac Roman. (MPW Rez.)
use Rattle.std.specs.Prelude.{◌≡◌, ◌⊎◌, ℕ, List}
use Rattle.rz_types_fields.specs.Text.{argument_and, no_arguments, no_parts, part_and, parts_of, DateFact, FileBytes, FileResource, Format, NameFact, Number, Plain, PlainArgument, PlainArguments, PlainPart, PlainParts, Text, TimeFact, VersionFact}

abbrev mutual
  pub PartAsks : PlainPart → List ℕ → Type 0
  PartAsks (Plain bytes) own = ⊥
  PartAsks NameFact own = ⊥
  PartAsks DateFact own = ⊥
  PartAsks TimeFact own = ⊥
  PartAsks VersionFact own = ⊥
  PartAsks (FileBytes file) own = own ≡ file
  PartAsks (FileResource file kind key) own = own ≡ file
  PartAsks (Format text arguments) own = ArgumentsAsk arguments own

  pub PartsAsk : PlainParts → List ℕ → Type 0
  PartsAsk no_parts own = ⊥
  PartsAsk (part_and part others) own = PartAsks part own ⊎ PartsAsk others own

  pub ArgumentAsks : PlainArgument → List ℕ → Type 0
  ArgumentAsks (Number term) own = ⊥
  ArgumentAsks (Text parts) own = PartsAsk parts own

  pub ArgumentsAsk : PlainArguments → List ℕ → Type 0
  ArgumentsAsk no_arguments own = ⊥
  ArgumentsAsk (argument_and argument others) own = ArgumentAsks argument own ⊎ ArgumentsAsk others own

-- a part of the text names the file
abbrev pub TextsAsk : List PlainPart → List ℕ → Type 0
TextsAsk parts = PartsAsk (parts_of parts)

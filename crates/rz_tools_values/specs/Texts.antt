-- What the files give that texts name: it takes the place of the parts that name them, from left to right, or the first
-- fault is the answer. (MPW Rez.)
use Rattle.std.specs.Prelude.{ℕ, List, [], ◌∷◌, Option, Some, None, Ok}
use Rattle.std.specs.declared.result.Result.{Result}
use Rattle.rz_core.specs.Stop.{◌>>=◌}
use Rattle.rz_core.specs.declared.facts.Facts.{Facts}
use Rattle.rz_core.specs.declared.fault.Fault.{Fault}
use Rattle.rz_core.specs.declared.fault.Mark.{Mark}
use Rattle.rz_core.specs.declared.resource.OsType.{OsType}
use Rattle.rz_core.specs.declared.resource.Resource.{Resource}
use Rattle.rz_types_fields.specs.Text.{argument_and, arguments_of, no_arguments, no_parts, part_and, parts_bytes, plain_argument, plain_arguments, plain_part, plain_parts, ById, ByName, DateFact, FileBytes, FileResource, Format, NameFact, Number, Plain, PlainArgument, PlainArguments, PlainKey, PlainPart, PlainParts, Text, TimeFact, VersionFact}
use Rattle.rz_types_fields.specs.Value.{field_sight}
use Rattle.rz_types_fields.specs.declared.text.FormatArg.{FormatArg}
use Rattle.rz_types_fields.specs.declared.text.TextPart.{TextPart}
use Rattle.rz_folder.specs.Folder.{Files}
use Rattle.rz_set.specs.declared.pick.Pick.{Pick}
use Rattle.rz_set.specs.declared.pick.Pick.TheVariants.{Id, Name}
use Rattle.rz_bridge_files.specs.Contents.{admit_fork}
use Rattle.rz_tools_values.specs.Files.{list_named}
use Rattle.rz_tools_values.specs.Chosen.{chosen_one, id_said}
use Rattle.rz_tools_values.specs.Files.{file_named}

-- the id or the name that a `$$Resource` asks for
abbrev pub key_said : Mark → Facts → PlainKey → Result Pick Fault
key_said mark known (ById term) = id_said mark known term >>= λ id. Ok (Id id)
key_said mark known (ByName parts) = parts_bytes mark known (field_sight known []) parts >>= λ name. Ok (Name name)

abbrev pub bytes_of_one : Option Resource → List ℕ
bytes_of_one None = []
bytes_of_one (Some r) = r.bytes

-- the bytes of the first resource that a pick by id or name chooses: 218
abbrev pub bytes_chosen : Mark → OsType → Pick → List Resource → Result (List ℕ) Fault
bytes_chosen mark kind pick list = chosen_one mark kind pick list >>= λ one. Ok (bytes_of_one one)

-- the same of the bytes of a fork: the first rule that it breaks, and then 218
abbrev pub bytes_in : Mark → OsType → Pick → List ℕ → Result (List ℕ) Fault
bytes_in mark kind pick fork = admit_fork (Some mark) fork >>= λ fork. bytes_chosen mark kind pick fork.list

abbrev pub resource_bytes : List (List ℕ) → Files → Mark → List ℕ → OsType → Pick → Result (List ℕ) Fault
resource_bytes paths files mark file kind pick = list_named paths files mark file >>= bytes_chosen mark kind pick

module _ (paths : List (List ℕ)) (files : Files) (mark : Mark) (known : Facts) where
  -- the bytes of a resource of a file: what it is asked for by, then the file, its form and its fork, and then the resource
  abbrev pub resource_named : List ℕ → OsType → PlainKey → Result (List ℕ) Fault
  resource_named file kind key = key_said mark known key >>= resource_bytes paths files mark file kind

  abbrev mutual
    pub part_read : PlainPart → Result PlainPart Fault
    part_read (Plain bytes) = Ok (Plain bytes)
    part_read NameFact = Ok NameFact
    part_read DateFact = Ok DateFact
    part_read TimeFact = Ok TimeFact
    part_read VersionFact = Ok VersionFact
    part_read (FileBytes file) = file_named paths files mark file >>= λ bytes. Ok (Plain bytes)
    part_read (FileResource file kind key) = resource_named file kind key >>= λ bytes. Ok (Plain bytes)
    part_read (Format text arguments) = arguments_read arguments >>= λ arguments. Ok (Format text arguments)

    pub parts_read : PlainParts → Result PlainParts Fault
    parts_read no_parts = Ok no_parts
    parts_read (part_and part others) = part_read part >>= λ part. parts_read others >>= λ others. Ok (part_and part others)

    pub argument_read : PlainArgument → Result PlainArgument Fault
    argument_read (Number term) = Ok (Number term)
    argument_read (Text parts) = parts_read parts >>= λ parts. Ok (Text parts)

    pub arguments_read : PlainArguments → Result PlainArguments Fault
    arguments_read no_arguments = Ok no_arguments
    arguments_read (argument_and argument others) =
        argument_read argument >>= λ argument. arguments_read others >>= λ others. Ok (argument_and argument others)

  -- the parts of a text, from left to right
  abbrev pub texts_read : List PlainPart → Result (List PlainPart) Fault
  texts_read [] = Ok []
  texts_read (part ∷ parts) = part_read part >>= λ part. texts_read parts >>= λ parts. Ok (part ∷ parts)

-- What the code gives.

abbrev pub texts_given : Result (List TextPart) Fault → Result (List PlainPart) Fault
texts_given given = given >>= λ texts. Ok (plain_parts texts)

abbrev pub part_given : Result TextPart Fault → Result PlainPart Fault
part_given given = given >>= λ part. Ok (plain_part part)

abbrev pub arguments_given : Result (List FormatArg) Fault → Result PlainArguments Fault
arguments_given given = given >>= λ arguments. Ok (arguments_of (plain_arguments arguments))

abbrev pub argument_given : Result FormatArg Fault → Result PlainArgument Fault
argument_given given = given >>= λ argument. Ok (plain_argument argument)

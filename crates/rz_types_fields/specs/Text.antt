-- Texts, and their bytes. (MPW Rez.)
use Rattle.std.specs.Prelude.{ℕ, box_value, codes, List, [], ◌∷◌, ◌++◌, map, Option, Some, None, Ok, Err}
use Rattle.std.specs.declared.result.Result.{Result}
use Rattle.rz_core.specs.DateText.{date_text, time_text}
use Rattle.rz_core.specs.Stop.{◌>>=◌}
use Rattle.rz_core.specs.declared.facts.Facts.{Facts}
use Rattle.rz_core.specs.declared.fault.Fault.{Fault}
use Rattle.rz_core.specs.declared.fault.Kept.TheVariants as kept
use Rattle.rz_core.specs.declared.fault.Mark.{Mark}
use Rattle.rz_core.specs.declared.resource.OsType.{OsType}
use Rattle.rz_expr.specs.Environment.{Sight}
use Rattle.rz_expr.specs.Term.{term_of, Term}
use Rattle.rz_expr.specs.Value.{value_of}
use Rattle.rz_types_format.specs.Format.{formatted}
use Rattle.rz_types_format.specs.declared.format.Argument.{Argument}
use Rattle.rz_types_format.specs.declared.format.Argument.TheVariants as values
use Rattle.rz_types_fields.specs.Value.{field_sight, with_fault}
use Rattle.rz_types_fields.specs.declared.text.Format as formats
use Rattle.rz_types_fields.specs.declared.text.FormatArg.{FormatArg}
use Rattle.rz_types_fields.specs.declared.text.ResKey.{ResKey}
use Rattle.rz_types_fields.specs.declared.text.TextPart.{TextPart}
use Rattle.rz_types_fields.specs.declared.text.FormatArg.TheFolds.{fold-Format, fold-FormatArg, fold-ResKey, fold-TextPart}
use Rattle.rz_types_fields.specs.declared.text.FormatArg.TheOpen.{FileResource-F, Format-F, FormatArg-F, ResKey-F, TextPart-F}

mutual
  -- a part of a text, as contracts see it
  pub data PlainPart : Type 0 where
    Plain : (bytes : List ℕ) → PlainPart  -- bytes that stood between quote marks
    NameFact : PlainPart  -- the name of the resource
    DateFact : PlainPart  -- the date of the run
    TimeFact : PlainPart  -- the time of the run
    VersionFact : PlainPart  -- the version of the language
    FileBytes : (file : List ℕ) → PlainPart  -- what a file holds
    FileResource : (file : List ℕ) (kind : OsType) (key : PlainKey) → PlainPart  -- the bytes of a resource of a file
    Format : (text : List ℕ) (arguments : PlainArguments) → PlainPart  -- what a format gives with its arguments

  -- by what a resource of a file is found
  pub data PlainKey : Type 0 where
    ById : (term : Term) → PlainKey
    ByName : (parts : PlainParts) → PlainKey

  -- the parts of a text, as a type of its own
  pub data PlainParts : Type 0 where
    no_parts : PlainParts
    part_and : (part : PlainPart) (others : PlainParts) → PlainParts

  -- an argument of a format: a number, or a text
  pub data PlainArgument : Type 0 where
    Number : (term : Term) → PlainArgument
    Text : (parts : PlainParts) → PlainArgument

  -- the arguments of a format, as a type of its own
  pub data PlainArguments : Type 0 where
    no_arguments : PlainArguments
    argument_and : (argument : PlainArgument) (others : PlainArguments) → PlainArguments

abbrev pub parts_of : List PlainPart → PlainParts
parts_of [] = no_parts
parts_of (part ∷ parts) = part_and part (parts_of parts)

abbrev pub arguments_of : List PlainArgument → PlainArguments
arguments_of [] = no_arguments
arguments_of (argument ∷ arguments) = argument_and argument (arguments_of arguments)

-- Bytes.

-- 222 on this line for a format that isn't filled
abbrev pub bad_format : Mark → Fault
bad_format place = record { number = 222; mark = Some place; kept = kept.Nothing }

abbrev pub or_bad_format : Mark → Option (List ℕ) → Result (List ℕ) Fault
or_bad_format place None = Err (bad_format place)
or_bad_format place (Some bytes) = Ok bytes

-- the bytes of a format with these values of its arguments
abbrev pub format_bytes : Mark → List ℕ → Result (List Argument) Fault → Result (List ℕ) Fault
format_bytes place text values = values >>= λ values. or_bad_format place (formatted text values)

module _ (place : Mark) (known : Facts) (sight : Sight) where
  -- The bytes of parts in order, or their first fault, where expressions see so much; the arguments of a format come before
  -- its own fault. A part of a file gives nothing: what the file gives has taken its place before.
  abbrev mutual
    pub part_bytes : PlainPart → Result (List ℕ) Fault
    part_bytes (Plain bytes) = Ok bytes
    part_bytes NameFact = Ok known.name
    part_bytes DateFact = Ok (date_text known.moment)
    part_bytes TimeFact = Ok (time_text known.moment)
    part_bytes VersionFact = Ok (codes "V1.0")
    part_bytes (FileBytes file) = Ok []
    part_bytes (FileResource file kind key) = Ok []
    part_bytes (Format text arguments) = format_bytes place text (argument_values arguments)

    pub parts_bytes : PlainParts → Result (List ℕ) Fault
    parts_bytes no_parts = Ok []
    parts_bytes (part_and part others) = part_bytes part >>= λ bytes. parts_bytes others >>= λ more. Ok (bytes ++ more)

    pub argument_value : PlainArgument → Result Argument Fault
    argument_value (Number term) = with_fault place (value_of term sight) >>= λ number. Ok (values.Number number)
    argument_value (Text parts) = parts_bytes parts >>= λ bytes. Ok (values.Text bytes)

    pub argument_values : PlainArguments → Result (List Argument) Fault
    argument_values no_arguments = Ok []
    argument_values (argument_and argument others) = argument_value argument >>= λ value. argument_values others >>= λ more. Ok (value ∷ more)

-- the bytes of a text, where expressions see so much
abbrev pub bytes_seen : Mark → Facts → Sight → List PlainPart → Result (List ℕ) Fault
bytes_seen place known sight parts = parts_bytes place known sight (parts_of parts)

-- the bytes of a text with the facts of a resource
abbrev pub bytes_of : Mark → Facts → List PlainPart → Result (List ℕ) Fault
bytes_of place known parts = bytes_seen place known (field_sight known []) parts

-- Expressions.

abbrev mutual
  -- the numbers of the formats in parts, in order
  pub part_terms : PlainPart → List Term
  part_terms (Plain bytes) = []
  part_terms NameFact = []
  part_terms DateFact = []
  part_terms TimeFact = []
  part_terms VersionFact = []
  part_terms (FileBytes file) = []
  part_terms (FileResource file kind key) = []
  part_terms (Format text arguments) = argument_terms arguments

  pub parts_terms : PlainParts → List Term
  parts_terms no_parts = []
  parts_terms (part_and part others) = part_terms part ++ parts_terms others

  pub argument_terms : PlainArguments → List Term
  argument_terms no_arguments = []
  argument_terms (argument_and argument others) = terms_in argument ++ argument_terms others

  pub terms_in : PlainArgument → List Term
  terms_in (Number term) = term ∷ []
  terms_in (Text parts) = parts_terms parts

-- the numbers of the formats in a text, in order
abbrev pub text_terms : List PlainPart → List Term
text_terms parts = parts_terms (parts_of parts)

-- What the code holds.

abbrev pub argument_step : FormatArg-F PlainArgument PlainKey PlainPart PlainPart PlainPart → PlainArgument
argument_step (FormatArg-F.Number expr) = Number (term_of expr)
argument_step (FormatArg-F.Text texts) = Text (parts_of texts)

abbrev pub key_step : ResKey-F PlainArgument PlainKey PlainPart PlainPart PlainPart → PlainKey
key_step (ResKey-F.Id expr) = ById (term_of expr)
key_step (ResKey-F.Name texts) = ByName (parts_of texts)

abbrev pub resource_step : FileResource-F PlainArgument PlainKey PlainPart PlainPart PlainPart → PlainPart
resource_step asked = FileResource asked.file asked.kind asked.key

abbrev pub format_step : Format-F PlainArgument PlainKey PlainPart PlainPart PlainPart → PlainPart
format_step format = Format format.text (arguments_of format.arguments)

abbrev pub part_step : TextPart-F PlainArgument PlainKey PlainPart PlainPart PlainPart → PlainPart
part_step (TextPart-F.Plain bytes) = Plain bytes
part_step TextPart-F.NameFact = NameFact
part_step TextPart-F.DateFact = DateFact
part_step TextPart-F.TimeFact = TimeFact
part_step TextPart-F.VersionFact = VersionFact
part_step (TextPart-F.FileBytes file) = FileBytes file
part_step (TextPart-F.FileResource asked) = box_value asked
part_step (TextPart-F.Format format) = box_value format

abbrev pub plain_part : TextPart → PlainPart
plain_part = fold-TextPart PlainArgument PlainKey PlainPart PlainPart PlainPart argument_step key_step part_step resource_step format_step

abbrev pub plain_format : formats.Format → PlainPart
plain_format = fold-Format PlainArgument PlainKey PlainPart PlainPart PlainPart argument_step key_step part_step resource_step format_step

abbrev pub plain_argument : FormatArg → PlainArgument
plain_argument = fold-FormatArg PlainArgument PlainKey PlainPart PlainPart PlainPart argument_step key_step part_step resource_step format_step

abbrev pub plain_key : ResKey → PlainKey
plain_key = fold-ResKey PlainArgument PlainKey PlainPart PlainPart PlainPart argument_step key_step part_step resource_step format_step

abbrev pub plain_parts : List TextPart → List PlainPart
plain_parts parts = map plain_part parts

abbrev pub plain_arguments : List FormatArg → List PlainArgument
plain_arguments arguments = map plain_argument arguments

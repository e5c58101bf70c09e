-- Texts that name no file: what the files give changes nothing in them.
use Rattle.std.proofs.Common.{◌≡◌, ℕ, Bool, true, false, ◌||◌, List, [], ◌∷◌, Ok, refl, ap, ◌∙◌}
use Rattle.std.specs.declared.result.Result.{Result}
use Rattle.rz_core.specs.Stop.{◌>>=◌}
use Rattle.rz_core.specs.declared.facts.Facts.{Facts}
use Rattle.rz_core.specs.declared.fault.Fault.{Fault}
use Rattle.rz_core.specs.declared.fault.Mark.{Mark}
use Rattle.rz_folder.specs.Folder.{Files}
use Rattle.rz_tools_values.specs.Named.{argument_names, arguments_name, part_names, parts_name, texts_name}
use Rattle.rz_tools_values.specs.Texts.{argument_read, arguments_read, part_read, parts_read, texts_read}
use Rattle.rz_types_fields.specs.Text.{argument_and, no_arguments, no_parts, part_and, DateFact, FileBytes, FileResource, Format, NameFact, Number, Plain, PlainArgument, PlainArguments, PlainPart, PlainParts, Text, TimeFact, VersionFact}

pub neither : (a b : Bool) → (a || b) ≡ false → (a ≡ false) × (b ≡ false)
neither false b is = (refl, is)
neither true b is = absurd cc

module _ (paths : List (List ℕ)) (files : Files) (mark : Mark) (known : Facts) where
  mutual
    part_stays : (part : PlainPart) → part_names part ≡ false → part_read paths files mark known part ≡ Ok part
    part_stays (Plain bytes) none = refl
    part_stays NameFact none = refl
    part_stays DateFact none = refl
    part_stays TimeFact none = refl
    part_stays VersionFact none = refl
    part_stays (FileBytes file) none = absurd cc
    part_stays (FileResource file kind key) none = absurd cc
    part_stays (Format text arguments) none = ap (λ (r : Result PlainArguments Fault). r >>= λ arguments. Ok (Format text arguments)) (arguments_stay arguments none)

    parts_stay : (parts : PlainParts) → parts_name parts ≡ false → parts_read paths files mark known parts ≡ Ok parts
    parts_stay no_parts none = refl
    parts_stay (part_and part others) none =
        let each = neither (part_names part) (parts_name others) none in
        ap (λ (r : Result PlainPart Fault). r >>= λ part. parts_read paths files mark known others >>= λ others. Ok (part_and part others)) (part_stays part each.0)
        ∙ ap (λ (r : Result PlainParts Fault). r >>= λ others. Ok (part_and part others)) (parts_stay others each.1)

    argument_stays : (argument : PlainArgument) → argument_names argument ≡ false → argument_read paths files mark known argument ≡ Ok argument
    argument_stays (Number term) none = refl
    argument_stays (Text parts) none = ap (λ (r : Result PlainParts Fault). r >>= λ parts. Ok (Text parts)) (parts_stay parts none)

    arguments_stay : (arguments : PlainArguments) → arguments_name arguments ≡ false → arguments_read paths files mark known arguments ≡ Ok arguments
    arguments_stay no_arguments none = refl
    arguments_stay (argument_and argument others) none =
        let each = neither (argument_names argument) (arguments_name others) none in
        ap (λ (r : Result PlainArgument Fault). r >>= λ argument. arguments_read paths files mark known others >>= λ others. Ok (argument_and argument others))
        (argument_stays argument each.0)
        ∙ ap (λ (r : Result PlainArguments Fault). r >>= λ others. Ok (argument_and argument others)) (arguments_stay others each.1)

  pub texts_stay : (parts : List PlainPart) → texts_name parts ≡ false → texts_read paths files mark known parts ≡ Ok parts
  texts_stay [] none = refl
  texts_stay (part ∷ parts) none =
      let each = neither (part_names part) (texts_name parts) none in
      ap (λ (r : Result PlainPart Fault). r >>= λ part. texts_read paths files mark known parts >>= λ parts. Ok (part ∷ parts)) (part_stays part each.0)
      ∙ ap (λ (r : Result (List PlainPart) Fault). r >>= λ parts. Ok (part ∷ parts)) (texts_stay parts each.1)

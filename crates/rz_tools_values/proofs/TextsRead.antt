-- Texts with what the files give that they name: those that are all read, and those within arguments of formats.
use Rattle.std.proofs.Common.{◌≡◌, ℕ, List, [], ◌∷◌, Ok, Err, refl, sym, ap, ◌∙◌}
use Rattle.std.specs.declared.result.Result.{Result}
use Rattle.rz_core.specs.Stop.{◌>>=◌, Yields}
use Rattle.rz_core.specs.declared.facts.Facts.{Facts}
use Rattle.rz_core.specs.declared.fault.Fault.{Fault}
use Rattle.rz_core.specs.declared.fault.Mark.{Mark}
use Rattle.rz_core.proofs.SoFar.{so_far}
use Rattle.rz_types_fields.specs.Text.{argument_and, argument_step, arguments_of, format_step, key_step, no_arguments, part_and, part_step, resource_step, parts_of, plain_argument, plain_parts, Text, PlainArgument, PlainArguments, PlainKey, PlainPart, PlainParts}
use Rattle.rz_types_fields.specs.declared.text.FormatArg.{FormatArg}
use Rattle.rz_types_fields.specs.declared.text.FormatArg.TheFolds.{fold-roll-FormatArg}
use Rattle.rz_types_fields.specs.declared.text.FormatArg.TheOpen.{FormatArg-F}
use Rattle.rz_types_fields.specs.declared.text.FormatArg.TheVariants as arguments
use Rattle.rz_types_fields.specs.declared.text.FormatArg.TheVariants.{rolls-Text}
use Rattle.rz_types_fields.specs.declared.text.TextPart.{TextPart}
use Rattle.rz_folder.specs.Folder.{Files}
use Rattle.rz_core.specs.declared.stop.Halt.{Halt}
use Rattle.rz_core.specs.declared.stop.Halt.TheVariants.{NoMemory, ReadFault, Refused}
use Rattle.rz_tools_values.specs.Texts.{argument_given, argument_read, part_read, parts_read, texts_given, texts_read}

-- All that was read, and nothing after it.

pub all_parts : (parts : List PlainPart) → so_far {F = Fault} (λ part parts. part ∷ parts) parts (Ok []) ≡ Ok parts
all_parts [] = refl
all_parts (part ∷ parts) = ap (λ (r : Result (List PlainPart) Fault). r >>= λ others. Ok (part ∷ others)) (all_parts parts)

pub all_arguments : (arguments : List PlainArgument) → so_far {F = Fault} argument_and arguments (Ok no_arguments) ≡ Ok (arguments_of arguments)
all_arguments [] = refl
all_arguments (argument ∷ arguments) = ap (λ (r : Result PlainArguments Fault). r >>= λ others. Ok (argument_and argument others)) (all_arguments arguments)

-- Parts as a type of their own are read as a list of them is.

one_read : (first : Result PlainPart Fault) (list : Result (List PlainPart) Fault) (chain : Result PlainParts Fault) → chain ≡ (list >>= λ parts. Ok (parts_of parts))
    → (first >>= λ one. chain >>= λ others. Ok (part_and one others)) ≡ ((first >>= λ one. list >>= λ others. Ok (one ∷ others)) >>= λ parts. Ok (parts_of parts))
one_read (Err fault) list chain same = refl
one_read (Ok one) (Ok others) chain same = ap (λ (r : Result PlainParts Fault). r >>= λ others. Ok (part_and one others)) same
one_read (Ok one) (Err fault) chain same = ap (λ (r : Result PlainParts Fault). r >>= λ others. Ok (part_and one others)) same

-- An argument that is a text.

text_is : (texts : List TextPart) → plain_argument (arguments.Text texts) ≡ Text (parts_of (plain_parts texts))
text_is texts = ap plain_argument (sym (rolls-Text texts)) ∙ fold-roll-FormatArg PlainArgument PlainKey PlainPart PlainPart PlainPart argument_step key_step part_step resource_step format_step (FormatArg-F.Text texts)

with_parts : (r : Result (List PlainPart) Fault) → ((r >>= λ parts. Ok (parts_of parts)) >>= λ parts. Ok (Text parts)) ≡ (r >>= λ parts. Ok (Text (parts_of parts)))
with_parts (Ok parts) = refl
with_parts (Err fault) = refl

module _ (paths : List (List ℕ)) (files : Files) (mark : Mark) (known : Facts) where
  same_read : (parts : List PlainPart) → parts_read paths files mark known (parts_of parts) ≡ (texts_read paths files mark known parts >>= λ parts. Ok (parts_of parts))
  same_read [] = refl
  same_read (part ∷ parts) =
      one_read (part_read paths files mark known part) (texts_read paths files mark known parts) (parts_read paths files mark known (parts_of parts)) (same_read parts)

  module _ (argument : FormatArg) (texts : List TextPart) (is : argument ≡ arguments.Text texts) where
    text_read : argument_read paths files mark known (plain_argument argument) ≡ (texts_read paths files mark known (plain_parts texts) >>= λ parts. Ok (Text (parts_of parts)))
    text_read =
        ap (λ (a : FormatArg). argument_read paths files mark known (plain_argument a)) is ∙ ap (λ (a : PlainArgument). argument_read paths files mark known a) (text_is texts)
        ∙ ap (λ (r : Result PlainParts Fault). r >>= λ parts. Ok (Text parts)) (same_read (plain_parts texts)) ∙ with_parts (texts_read paths files mark known (plain_parts texts))

    pub text_so : (made : List TextPart) → Ok (plain_parts made) ≡ texts_read paths files mark known (plain_parts texts)
        → Ok (plain_argument (arguments.Text made)) ≡ argument_read paths files mark known (plain_argument argument)
    text_so made gives =
        ap (λ (a : PlainArgument). Ok a) (text_is made) ∙ ap (λ (r : Result (List PlainPart) Fault). r >>= λ parts. Ok (Text (parts_of parts))) gives ∙ sym text_read

    pub text_halts : (halt : Halt Fault) → Yields {X = List TextPart} (Err halt) (λ answer. texts_given answer ≡ texts_read paths files mark known (plain_parts texts))
        → Yields {X = FormatArg} (Err halt) (λ answer. argument_given answer ≡ argument_read paths files mark known (plain_argument argument))
    text_halts (Refused fault) gives = ap (λ (r : Result (List PlainPart) Fault). r >>= λ parts. Ok (Text (parts_of parts))) gives ∙ sym text_read
    text_halts ReadFault gives = tt
    text_halts NoMemory gives = tt

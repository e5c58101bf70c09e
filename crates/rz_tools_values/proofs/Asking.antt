-- What one part or argument asks for, all of them ask for; and what is asked for within one, it asks for.
use Rattle.std.proofs.Common.{◌≡◌, ◌<◌, ◌≤◌, ℕ, List, [], ◌∷◌, ◌++◌, inl, inr, sym, ap, subst, ◌∙◌, arith}
use Rattle.std.specs.Global.{Box}
use Rattle.std.specs.Prelude.{box_value, max}
use denote.Param.Weighed.{most, most-append}
use Rattle.rz_types_fields.specs.Text.{argument_step, arguments_of, format_step, key_step, part_step, plain_argument, plain_arguments, plain_key, plain_part, plain_parts, resource_step, FileResource, Format, PlainArgument, PlainKey, PlainPart}
use Rattle.rz_types_fields.specs.declared.text.FileResource as resources
use Rattle.rz_types_fields.specs.declared.text.Format as formats
use Rattle.rz_types_fields.specs.declared.text.FormatArg.{FormatArg}
use Rattle.rz_types_fields.specs.declared.text.FormatArg.TheFolds.{fold_out-FileResource, fold_out-Format, fold-roll-TextPart}
use Rattle.rz_types_fields.specs.declared.text.FormatArg.TheOpen.{TextPart-F}
use Rattle.rz_types_fields.specs.declared.text.FormatArg.TheVariants as arguments
use Rattle.rz_types_fields.specs.declared.text.FormatArg.TheViews.{out-FileResource, out-Format, size-FormatArg, size-TextPart, size_is-Format, sized-Format}
use Rattle.rz_types_fields.specs.declared.text.TextPart.{TextPart}
use Rattle.rz_types_fields.specs.declared.text.TextPart.TheVariants as parts
use Rattle.rz_types_fields.specs.declared.text.TextPart.TheVariants.{rolls-FileResource, rolls-Format}
use Rattle.rz_stmt_data.proofs.Built.{file_bytes_is, text_is}
use Rattle.rz_tools_values.specs.Asked.{ArgumentAsks, ArgumentsAsk, PartAsks, TextsAsk}

pub part_asks : (before : List TextPart) (part : TextPart) (after : List TextPart) (own : List ℕ)
    → PartAsks (plain_part part) own → TextsAsk (plain_parts (before ++ part ∷ after)) own
part_asks [] part after own asks = inl asks
part_asks (first ∷ before) part after own asks = inr (part_asks before part after own asks)

pub argument_asks : (before : List FormatArg) (argument : FormatArg) (after : List FormatArg) (own : List ℕ)
    → ArgumentAsks (plain_argument argument) own → ArgumentsAsk (arguments_of (plain_arguments (before ++ argument ∷ after))) own
argument_asks [] argument after own asks = inl asks
argument_asks (first ∷ before) argument after own asks = inr (argument_asks before argument after own asks)

-- What stands in a part or an argument.

resource_is : (asked : Box resources.FileResource) → plain_part (parts.FileResource asked)
    ≡ FileResource (out-FileResource (box_value asked)).file (out-FileResource (box_value asked)).kind (plain_key (out-FileResource (box_value asked)).key)
resource_is asked =
    ap plain_part (sym (rolls-FileResource asked))
    ∙ fold-roll-TextPart PlainArgument PlainKey PlainPart PlainPart PlainPart argument_step key_step part_step resource_step format_step (TextPart-F.FileResource asked)
    ∙ fold_out-FileResource PlainArgument PlainKey PlainPart PlainPart PlainPart argument_step key_step part_step resource_step format_step (box_value asked)

format_is : (format : Box formats.Format) → plain_part (parts.Format format)
    ≡ Format (out-Format (box_value format)).text (arguments_of (plain_arguments (out-Format (box_value format)).arguments))
format_is format =
    ap plain_part (sym (rolls-Format format))
    ∙ fold-roll-TextPart PlainArgument PlainKey PlainPart PlainPart PlainPart argument_step key_step part_step resource_step format_step (TextPart-F.Format format)
    ∙ fold_out-Format PlainArgument PlainKey PlainPart PlainPart PlainPart argument_step key_step part_step resource_step format_step (box_value format)

module _ (part : TextPart) where
  module _ (own : List ℕ) where
    pub file_asked : (file : List ℕ) → part ≡ parts.FileBytes file → own ≡ file → PartAsks (plain_part part) own
    file_asked file is same = subst (λ (one : PlainPart). PartAsks one own) (sym (ap plain_part is ∙ file_bytes_is file)) same

    pub resource_asked : (asked : Box resources.FileResource) → part ≡ parts.FileResource asked → own ≡ (out-FileResource (box_value asked)).file → PartAsks (plain_part part) own
    resource_asked asked is same = subst (λ (one : PlainPart). PartAsks one own) (sym (ap plain_part is ∙ resource_is asked)) same

  pub format_asks : (format : Box formats.Format) → part ≡ parts.Format format
      → (own : List ℕ) → ArgumentsAsk (arguments_of (plain_arguments (out-Format (box_value format)).arguments)) own → PartAsks (plain_part part) own
  format_asks format is own asks = subst (λ (one : PlainPart). PartAsks one own) (sym (ap plain_part is ∙ format_is format)) asks

pub text_asks : (argument : FormatArg) (texts : List TextPart) → argument ≡ arguments.Text texts
    → (own : List ℕ) → TextsAsk (plain_parts texts) own → ArgumentAsks (plain_argument argument) own
text_asks argument texts is own asks = subst (λ (one : PlainArgument). ArgumentAsks one own) (sym (ap plain_argument is ∙ text_is texts)) asks

-- How deep they lie.

pub within : {A : Type 0} (size : A → ℕ) (before rest all : List A) (one : A) → all ≡ before ++ one ∷ rest → size one ≤ most size all
within size before rest all one is =
    let parts : most size all ≡ max (most size before) (max (size one) (most size rest)) = ap (most size) is ∙ most-append size before (one ∷ rest) in
    omega (arith, parts)

pub part_within : (before rest all : List TextPart) (one : TextPart) → all ≡ before ++ one ∷ rest → size-TextPart one ≤ most size-TextPart all
part_within = within size-TextPart

pub argument_within : (before rest all : List FormatArg) (one : FormatArg) → all ≡ before ++ one ∷ rest → size-FormatArg one ≤ most size-FormatArg all
argument_within = within size-FormatArg

pub format_within : (part : TextPart) (format : Box formats.Format) → part ≡ parts.Format format → most size-FormatArg (out-Format (box_value format)).arguments < size-TextPart part
format_within part format is = omega (arith, ap size-TextPart is, sized-Format format, size_is-Format (box_value format))

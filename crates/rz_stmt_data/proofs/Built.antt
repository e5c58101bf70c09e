-- The plain part and the plain argument that are built of what was read.
use Rattle.std.proofs.Common.{◌≡◌, ℕ, List, sym, ap, ◌∙◌}
use Rattle.rz_expr.specs.Term.{term_of}
use Rattle.rz_expr.specs.declared.expr.Expr.{Expr}
use Rattle.rz_types_fields.specs.Text.{argument_step, format_step, key_step, part_step, resource_step, parts_of, plain_argument, plain_part, plain_parts, FileBytes, Number, PlainArgument, PlainKey, PlainPart, Text}
use Rattle.rz_types_fields.specs.declared.text.FormatArg.TheFolds.{fold-roll-FormatArg, fold-roll-TextPart}
use Rattle.rz_types_fields.specs.declared.text.FormatArg.TheOpen.{FormatArg-F, TextPart-F}
use Rattle.rz_types_fields.specs.declared.text.FormatArg.TheVariants as arguments
use Rattle.rz_types_fields.specs.declared.text.FormatArg.TheVariants.{rolls-Number, rolls-Text}
use Rattle.rz_types_fields.specs.declared.text.TextPart.{TextPart}
use Rattle.rz_types_fields.specs.declared.text.TextPart.TheVariants as parts
use Rattle.rz_types_fields.specs.declared.text.TextPart.TheVariants.{rolls-FileBytes}

-- a `$$Read` of a file
pub file_bytes_is : (file : List ℕ) → plain_part (parts.FileBytes file) ≡ FileBytes file
file_bytes_is file = ap plain_part (sym (rolls-FileBytes file)) ∙ fold-roll-TextPart PlainArgument PlainKey PlainPart PlainPart PlainPart argument_step key_step part_step resource_step format_step (TextPart-F.FileBytes file)

-- an argument that is a number
pub number_is : (expr : Expr) → plain_argument (arguments.Number expr) ≡ Number (term_of expr)
number_is expr = ap plain_argument (sym (rolls-Number expr)) ∙ fold-roll-FormatArg PlainArgument PlainKey PlainPart PlainPart PlainPart argument_step key_step part_step resource_step format_step (FormatArg-F.Number expr)

-- an argument that is a text
pub text_is : (texts : List TextPart) → plain_argument (arguments.Text texts) ≡ Text (parts_of (plain_parts texts))
text_is texts = ap plain_argument (sym (rolls-Text texts)) ∙ fold-roll-FormatArg PlainArgument PlainKey PlainPart PlainPart PlainPart argument_step key_step part_step resource_step format_step (FormatArg-F.Text texts)

-- Bytes that a call appends, and the parts that give them.
use Rattle.std.proofs.Common.{◌≡◌, ◌++◌, ℕ, List, Result, Ok, ap, sym, ◌∙◌}
use Rattle.rz_core.specs.Stop.{◌>>=◌}
use Rattle.rz_core.specs.declared.fault.Fault.{Fault}
use Rattle.rz_types_fields.specs.Appended.{Appends}
use Rattle.rz_types_fields.specs.Text as plain
use Rattle.rz_types_fields.specs.Text.{argument_step, format_step, key_step, part_step, plain_part, resource_step, PlainArgument, PlainKey, PlainPart}
use Rattle.rz_types_fields.specs.declared.text.FormatArg.TheFolds.{fold-roll-TextPart}
use Rattle.rz_types_fields.specs.declared.text.FormatArg.TheOpen.{TextPart-F}
use Rattle.rz_types_fields.specs.declared.text.TextPart.TheVariants as parts
use Rattle.rz_types_fields.specs.declared.text.TextPart.TheVariants.{rolls-DateFact}

pub appends_so : (answer : Result (List ℕ) Fault) (bytes old new : List ℕ) → answer ≡ Ok bytes → new ≡ old ++ bytes → Appends answer old (Ok tt) new
appends_so answer bytes old new is grown =
    ap (λ (given : Result (List ℕ) Fault). given >>= λ front. Ok (old ++ front)) is ∙ ap (λ (all : List ℕ). Ok all) (sym grown)

pub date_is : plain_part parts.DateFact ≡ plain.DateFact
date_is = ap plain_part (sym rolls-DateFact) ∙ fold-roll-TextPart PlainArgument PlainKey PlainPart PlainPart PlainPart argument_step key_step part_step resource_step format_step TextPart-F.DateFact

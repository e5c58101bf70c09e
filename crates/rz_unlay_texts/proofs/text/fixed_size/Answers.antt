use Rattle.std.proofs.Common.{ℕ, List, Some, length, sym, ap, ◌∙◌}
use Rattle.std.specs.Prelude.{option_map}
use Rattle.rz_types_fields.specs.Stored.{stored_text}
use Rattle.rz_unlay_texts.specs.Texts.{stored_count}
use Rattle.rz_unlay_texts.proofs.TextSteps.{length_stored}
use Rattle.rz_unlay_texts.proofs.text.fixed_size.Goals as goal

pub returns-in-Some : goal.returns-in-Some
returns-in-Some g c =
    ap Some (c.stored_length.ensures ∙ ap (λ (bs : List ℕ). stored_count c.args.form c.args.size (length bs)) c.as_slice.ensures ∙ sym (length_stored c.args.form c.args.size c.in-Some.bytes))
    ∙ ap (option_map (λ bytes. length (stored_text c.args.form c.args.size bytes))) (sym c.in-Some.is ∙ c.in_ok-bytes.ensures)

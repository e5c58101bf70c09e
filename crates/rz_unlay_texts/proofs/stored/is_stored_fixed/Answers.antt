use Rattle.std.proofs.Common.{List, ℕ, sym, ap, ◌∙◌}
use Rattle.rz_types_fields.specs.Stored.{stored_text}
use Rattle.rz_unlay_texts.specs.Plain.{same_bytes}
use Rattle.rz_unlay_texts.proofs.TextSteps.{low_same}
use Rattle.rz_unlay_texts.proofs.stored.is_stored_fixed.Goals as goal

pub returns : goal.returns
returns c =
    c.is_stored_text.ensures
    ∙ ap (λ (bytes : List ℕ). same_bytes (stored_text c.args.form c.args.size bytes) c.args.raw.now) (sym (low_same c.args.text.now (λ k. (c.type_inv.text k).fits)))

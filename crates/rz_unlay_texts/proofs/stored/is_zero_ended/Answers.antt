use Rattle.std.proofs.Common.{◌∷◌, [], ℕ, Option, length, refl, sym, ap, ◌∙◌}
use Rattle.rz_types_fields.specs.Stored.{before_zero, to_size}
use Rattle.rz_unlay_texts.specs.Plain.{same_bytes}
use Rattle.rz_unlay_texts.specs.Texts.{sized_count}
use Rattle.rz_unlay_texts.proofs.TextSteps.{both_same, length_to_size, not_both_same}
use Rattle.rz_unlay_texts.proofs.stored.is_zero_ended.Goals as goal

pub returns-then-is_to_size : goal.returns-then-is_to_size
returns-then-is_to_size c =
    both_same (to_size (before_zero c.args.size) c.args.text.now) (0 ∷ []) c.args.raw.now c.front.result.now c.behind.result.now c.count_to_size-count.result
    (c.count_to_size-count.ensures.count ∙ ap (λ (s : Option ℕ). sized_count s (length c.args.text.now)) c.before_zero-size.ensures ∙ sym (length_to_size (before_zero c.args.size) c.args.text.now))
    c.front.ensures c.behind.ensures c.is_zeros.result
    (c.if-is_to_size.ensures ∙ ap (λ (s : Option ℕ). same_bytes (to_size s c.args.text.now) c.front.result.now) c.before_zero-size.ensures)
    c.is_zeros.ensures

pub returns-else-is_to_size : goal.returns-else-is_to_size
returns-else-is_to_size c =
    c.if-is_to_size.false
    ∙ not_both_same (to_size (before_zero c.args.size) c.args.text.now) (0 ∷ []) c.args.raw.now c.front.result.now _ c.count_to_size-count.result
    (c.count_to_size-count.ensures.count ∙ ap (λ (s : Option ℕ). sized_count s (length c.args.text.now)) c.before_zero-size.ensures ∙ sym (length_to_size (before_zero c.args.size) c.args.text.now))
    c.front.ensures refl
    (c.if-is_to_size.ensures ∙ ap (λ (s : Option ℕ). same_bytes (to_size s c.args.text.now) c.front.result.now) c.before_zero-size.ensures)

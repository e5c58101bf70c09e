use Rattle.std.proofs.Common.{◌-◌, List, ℕ, length, take, refl, ap, ◌∙◌}
use Rattle.std.specs.Prelude.{replicate}
use Rattle.rz_unlay_texts.specs.Plain.{same_bytes}
use Rattle.rz_unlay_texts.proofs.TextSteps.{both_same, not_both_same}
use Rattle.rz_unlay_texts.proofs.stored.is_sized.Goals as goal

pub returns-then-is_same : goal.returns-then-is_same
returns-then-is_same c =
    both_same (take c.args.size c.args.text.now) (replicate (c.args.size - length c.args.text.now) 0) c.args.raw.now c.front.result.now c.behind.result.now (length c.front-cut.result.now)
    (ap length c.front-cut.ensures) c.front.ensures c.behind.ensures c.is_zeros.result
    (c.if-is_same.ensures ∙ ap (λ (xs : List ℕ). same_bytes xs c.front.result.now) c.front-cut.ensures)
    (c.is_zeros.ensures ∙ ap (λ n. same_bytes (replicate n 0) c.behind.result.now) c.saturating_sub.ensures)

pub returns-else-is_same : goal.returns-else-is_same
returns-else-is_same c =
    c.if-is_same.false
    ∙ not_both_same (take c.args.size c.args.text.now) (replicate (c.args.size - length c.args.text.now) 0) c.args.raw.now c.front.result.now _ (length c.front-cut.result.now)
    (ap length c.front-cut.ensures) c.front.ensures refl
    (c.if-is_same.ensures ∙ ap (λ (xs : List ℕ). same_bytes xs c.front.result.now) c.front-cut.ensures)

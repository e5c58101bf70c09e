use Rattle.std.proofs.Common.{◌≡◌, ◌==◌, ◌++◌, List, ℕ, [], true, length, refl, sym, ap, ◌∙◌}
use Rattle.std.specs.List.{flat_map}
use Rattle.rz_fork.specs.Breaks.{breaks, listed}
use Rattle.rz_told.specs.Left.{left}
use Rattle.rz_told.specs.declared.heads.Heads.{Heads}
use Rattle.rz_told.specs.declared.lists.Pass.TheVariants.{Lists}
use Rattle.rz_told.proofs.Onward.{start, all_left}
use Rattle.rz_told.proofs.det.Det.over.Goals.{then-is_empty, else-is_empty}
use Rattle.rz_told.proofs.det.Det.over.Goals as goal

nothing : (bytes : List ℕ) → (length bytes == 0) ≡ true → breaks bytes ≡ []
nothing bytes none = rw none refl

pub returns : goal.returns
returns c =
    let b = c.args.bytes.now in
    elim c.if-is_empty.branch [
      | then-is_empty w ↦
          ap (λ (heads : Heads). left b heads 0 Lists start) w.result-is ∙ sym (nothing b (sym w.if-is_empty.ensures))
      | else-is_empty w ↦
          ap (λ (heads : Heads). left b heads 0 Lists start) w.result-is
          ∙ ap (λ l. flat_map listed w.read_heads.result.faults ++ l) (all_left b w.read_heads.result.outline w.read_heads.result.area)
          ∙ sym w.read_heads.ensures.breaks
    ]

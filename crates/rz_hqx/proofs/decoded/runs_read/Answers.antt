use Rattle.std.proofs.Common.{List, ℕ, Result, sym, subst, ◌∙◌}
use Rattle.std.proofs.lemmas.List.{at_drop_all}
use Rattle.rz_core.specs.Stop.{Gives}
use Rattle.rz_bridge.specs.declared.fault.BridgeFault.{BridgeFault}
use Rattle.rz_hqx.specs.Held.{undone}
use Rattle.rz_hqx.proofs.Undone.{coding_given}
use Rattle.rz_hqx.proofs.decoded.runs_read.Goals as goal

pub returns-clause-codes : goal.returns-clause-codes
returns-clause-codes c =
    let coded = c.args.coded.now in
    let ends = sym (at_drop_all (undone c.loop-code.undoing) coded c.loop-code.code-index c.loop-code-test.false) ∙ c.loop-code.invariant.so_far in
    coding_given coded c.finish.result (subst (λ (r : Result (List ℕ) BridgeFault). Gives r c.finish.result) ends c.finish.ensures.bytes)

use Rattle.std.proofs.Common.{◌∙◌, List, sym, ap, Some}
use Rattle.rz_lex.specs.declared.token.Token.{Token}
use Rattle.rz_pre.specs.Live.{live_in}
use Rattle.rz_pre.specs.Macros.{rows_of}
use Rattle.rz_pre.proofs.Going.{live_after_more}
use Rattle.rz_pre.proofs.unfolding.define_all.Goals as goal
use Rattle.rz_pre.proofs.unfolding.define_all.Goals.{in-Some+in_ok-copy_all-in-Some, in-None}

pub loop-def-preserved : goal.loop-def-preserved
loop-def-preserved c = live_after_more _ c.loop-def.def-index c.def-item.result _ (live_in (rows_of c.args.macros.now)) (live_in (rows_of c.loop-def.macros)) _ c.match-def.text
    c.loop-def-test.true c.def-item.is c.loop-def.invariant (elim c.match-def.branch [
      | in-Some+in_ok-copy_all-in-Some w ↦ w.text-is ∙ ap (λ (tokens : List Token). Some tokens) (w.in_ok-copy_all-in-Some.ensures ∙ w.as_slice.ensures) ∙ sym w.in-Some.is
      | in-None w ↦ w.text-is ∙ sym w.in-None.is
    ]) c.in_ok-set.ensures

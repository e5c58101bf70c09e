use Rattle.std.proofs.Common.{◌≡◌, take}
use Rattle.rz_pre.specs.Live.{live_in}
use Rattle.rz_pre.specs.Macros.{rows_of}
use Rattle.rz_pre.specs.Program.{live_after}
use Rattle.rz_pre.proofs.unfolding.define_all.Given as goal

abbrev pub invariant-loop-def : goal.invariant-loop-def
invariant-loop-def l = live_in (rows_of l.macros) ≡ live_after (take l.def-index l.def-items) (live_in (rows_of l.fn.macros))

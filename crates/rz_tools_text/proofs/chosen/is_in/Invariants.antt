use Rattle.std.proofs.Common.{◌≡◌, drop}
use Rattle.rz_tools_text.specs.Chosen.{is_in}
use Rattle.rz_tools_text.proofs.chosen.is_in.Given as goal

abbrev pub invariant-loop-one : goal.invariant-loop-one
invariant-loop-one l = is_in (drop l.one-index l.one-items) l.kind ≡ is_in l.one-items l.kind

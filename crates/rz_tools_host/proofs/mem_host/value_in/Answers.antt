use Rattle.std.proofs.Common.{◌∙◌}
use Rattle.rz_tools_host.proofs.InMemory.{value_after, value_here}
use Rattle.rz_tools_host.proofs.mem_host.value_in.Goals as goal

pub returns-then-eq : goal.returns-then-eq
returns-then-eq c = value_here c.args.variables.now c.loop-own.own-index _ c.args.name.now c.loop-own-test.true c.if-eq.ensures ∙ c.loop-own.invariant

pub loop-own-preserved : goal.loop-own-preserved
loop-own-preserved c = value_after c.args.variables.now c.loop-own.own-index _ c.args.name.now c.loop-own-test.true c.if-eq.ensures ∙ c.loop-own.invariant

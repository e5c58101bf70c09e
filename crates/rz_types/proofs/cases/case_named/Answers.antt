use Rattle.std.proofs.Common.{sym, ◌∙◌}
use Rattle.rz_types.proofs.Cased.{named_there, there_within}
use Rattle.rz_types.proofs.cases.case_named.Goals as goal

pub returns-then-stands_at-clause-within : goal.returns-then-stands_at-clause-within
returns-then-stands_at-clause-within c = there_within c.args.name.now c.args.cases.now c.in-Some.position (sym c.stands_at.ensures ∙ c.if-stands_at.true)

pub returns-then-stands_at-clause-named : goal.returns-then-stands_at-clause-named
returns-then-stands_at-clause-named c = named_there c.args.name.now c.args.cases.now c.in-Some.position (sym c.stands_at.ensures ∙ c.if-stands_at.true)

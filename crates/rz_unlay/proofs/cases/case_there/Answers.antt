use Rattle.std.proofs.Common.{sym, ◌∙◌}
use Rattle.rz_bits.specs.View.{seen}
use Rattle.rz_unlay.proofs.KeyedCases.{there_so, there_within}
use Rattle.rz_unlay.proofs.cases.case_there.Goals as goal

pub returns-then-stands_at-clause-within : goal.returns-then-stands_at-clause-within
returns-then-stands_at-clause-within c =
    there_within (seen c.args.view.now) c.args.at c.args.cases.now c.in-Some.position (sym c.stands_at.ensures ∙ c.if-stands_at.true)

pub returns-then-stands_at-clause-there : goal.returns-then-stands_at-clause-there
returns-then-stands_at-clause-there c =
    there_so (seen c.args.view.now) c.args.at c.args.cases.now c.in-Some.position c.requires.fits (sym c.stands_at.ensures ∙ c.if-stands_at.true)

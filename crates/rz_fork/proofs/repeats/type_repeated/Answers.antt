use Rattle.std.proofs.Common.{[], sym}
use Rattle.rz_fork.specs.Layout.{entries}
use Rattle.rz_fork.proofs.Marks.{none_repeated}
use Rattle.rz_fork.proofs.repeats.type_repeated.Goals as goal

pub returns-then-codes_differ-clause-rule : goal.returns-then-codes_differ-clause-rule
returns-then-codes_differ-clause-rule c = sym (none_repeated [] (entries c.args.bytes.now c.args.outline) (c.codes_differ.ensures c.if-codes_differ.true))

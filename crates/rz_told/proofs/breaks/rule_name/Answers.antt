use Rattle.std.proofs.Common.{arith}
use Rattle.std.proofs.lemmas.Bool.Decides.{nat_tests}
use Rattle.rz_told.proofs.breaks.rule_name.Goals as goal

pub name_of-requires : goal.name_of-requires
name_of-requires c = grind (arith, nat_tests, c.requires.first, c.requires.last)

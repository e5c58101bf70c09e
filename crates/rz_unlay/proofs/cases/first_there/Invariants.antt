use Rattle.std.proofs.Common.{◌≡◌, drop}
use Rattle.rz_bits.specs.View.{seen}
use Rattle.rz_types.specs.Field.{plain_cases}
use Rattle.rz_unlay.specs.Cursor.{case_there}
use Rattle.rz_unlay.proofs.cases.first_there.Given as goal

abbrev pub invariant-loop-position : goal.invariant-loop-position
invariant-loop-position l =
    case_there (seen l.view) l.at (plain_cases (drop l.position l.cases)) ≡ case_there (seen l.view) l.at (plain_cases l.cases)

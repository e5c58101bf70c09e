use Rattle.std.proofs.Common.{◌≡◌, drop}
use Rattle.rz_types_fields.specs.Field.{plain_cases}
use Rattle.rz_types.specs.Cases.{case_named}
use Rattle.rz_types.proofs.cases.first_named.Given as goal

abbrev pub invariant-loop-position : goal.invariant-loop-position
invariant-loop-position l = case_named l.name (plain_cases (drop l.position l.cases)) ≡ case_named l.name (plain_cases l.cases)

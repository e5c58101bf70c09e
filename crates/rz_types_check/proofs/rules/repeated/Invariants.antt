use Rattle.std.proofs.Common.{◌≡◌, drop, map}
use Rattle.rz_core.specs.Lists.{first_in}
use Rattle.rz_types_fields.specs.Field.{plain_cases}
use Rattle.rz_types.specs.Rules.{case_names, repeated, repeats}
use Rattle.rz_types_check.proofs.rules.repeated.Given as goal

abbrev pub invariant-loop-case : goal.invariant-loop-case
invariant-loop-case l =
    first_in repeats (map (λ name. name.now) l.before.list.items) (case_names (plain_cases (drop l.case-index l.cases))) ≡ repeated (case_names (plain_cases l.cases))

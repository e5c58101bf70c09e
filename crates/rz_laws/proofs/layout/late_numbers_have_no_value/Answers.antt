use Rattle.rz_layout.proofs.Apart.{kept_apart}
use Rattle.rz_laws.proofs.WithoutValue.{without_value}
use Rattle.rz_laws.proofs.layout.late_numbers_have_no_value.Goals as goal

pub returns : goal.returns
returns c known body row fault keeps is_row it = without_value known body (kept_apart body (c.rules_hold_within.ensures body keeps)) row is_row fault it

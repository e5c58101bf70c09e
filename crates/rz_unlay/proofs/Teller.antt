-- A name of an expression that the expression tells, once the others are known.
use Rattle.std.proofs.Common.{◌≡◌, true}
use Rattle.rz_expr.proofs.Items.{passes}
use Rattle.rz_expr.specs.Environment.{Key}
use Rattle.rz_expr.specs.Term.{Term}
use Rattle.rz_types_fields.specs.Field.{PlainBody}
use Rattle.rz_types.specs.Readable.{tells, tells_one}
use Rattle.rz_types_fields.specs.Passed.{Names}
use Rattle.rz_types_fields.specs.Solve.{keys_in}

-- the name that is told
pub record Teller (rest : PlainBody) (met known : Names) (term : Term) : Type 0 where
  pub key : Key
  pub is : tells rest met known term key ≡ true

pub teller : (rest : PlainBody) (met known : Names) (term : Term) → tells_one rest met known term ≡ true → Teller rest met known term
teller rest met known term is = let it = passes (tells rest met known term) (keys_in term) is in record { key = it.item; is = it.is }

use Rattle.rz_types_fields.specs.Spells.{anyhow}
use Rattle.rz_laws.proofs.Standing.{placed_so, plainly_so}
use Rattle.rz_laws.proofs.unlay.rows_are_placed_pieces.Goals as goal

pub returns-clause-spelled : goal.returns-clause-spelled
returns-clause-spelled c = placed_so anyhow

pub returns-clause-plain : goal.returns-clause-plain
returns-clause-plain c = plainly_so

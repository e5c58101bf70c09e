use Rattle.rz_stmt_type.proofs.OneDeclare.{one_type_statement}
use Rattle.rz_stmt_type.proofs.laws.one_declare.Goals as goal

pub returns : goal.returns
returns c = one_type_statement c.one_expression.ensures.expression c.pieces_are_cut.ensures.one c.pieces_are_cut.ensures.within

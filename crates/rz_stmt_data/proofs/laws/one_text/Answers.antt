use Rattle.rz_stmt_data.proofs.OneText.{expression_apart, one_parts, parts_begin}
use Rattle.rz_stmt_data.proofs.laws.one_text.Goals as goal

pub returns-clause-one : goal.returns-clause-one
returns-clause-one c = one_parts c.one_expression.ensures.expression

pub returns-clause-begins : goal.returns-clause-begins
returns-clause-begins c place tokens parts is = parts_begin tokens parts is.are is.some

pub returns-clause-apart : goal.returns-clause-apart
returns-clause-apart c = expression_apart

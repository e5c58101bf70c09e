use Rattle.rz_stmt_data.proofs.EveryText.{every_file, every_parts, every_text}
use Rattle.rz_stmt_data.proofs.laws.texts_are_decided.Goals as goal

pub returns-clause-file : goal.returns-clause-file
returns-clause-file c = every_file

pub returns-clause-parts : goal.returns-clause-parts
returns-clause-parts c = every_parts c.expressions_are_decided.ensures.some c.partings_are_decided.ensures.within

pub returns-clause-text : goal.returns-clause-text
returns-clause-text c = every_text c.expressions_are_decided.ensures.some c.partings_are_decided.ensures.within c.one_expression.ensures.expression

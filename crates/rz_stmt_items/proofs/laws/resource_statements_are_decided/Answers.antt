use Rattle.rz_stmt_items.proofs.EveryCompile.{every_compile}
use Rattle.rz_stmt_items.proofs.laws.resource_statements_are_decided.Goals as goal

pub returns : goal.returns
returns c =
    every_compile c.one_expression.ensures.expression c.expressions_are_decided.ensures.some c.partings_are_decided.ensures.within c.texts_are_decided.ensures.text

use Rattle.rz_stmt_type.proofs.EveryDeclare.{every_declare}
use Rattle.rz_stmt_type.proofs.laws.type_statements_are_decided.Goals as goal

pub returns : goal.returns
returns c =
    every_declare c.one_expression.ensures.expression c.expressions_are_decided.ensures.some c.partings_are_decided.ensures.within c.texts_are_decided.ensures.text
    c.flat_fields_are_decided.ensures.front c.flat_fields_are_decided.ensures.field c.flat_fields_are_decided.ensures.key
    c.flat_fields_are_decided.ensures.expression

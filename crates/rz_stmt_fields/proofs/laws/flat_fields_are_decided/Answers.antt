use Rattle.rz_stmt_fields.proofs.EveryField.{every_field}
use Rattle.rz_stmt_fields.proofs.EveryKey.{every_front, every_key}
use Rattle.rz_stmt_fields.proofs.EveryValue.{every_size_expression}
use Rattle.rz_stmt_fields.proofs.laws.flat_fields_are_decided.Goals as goal

pub returns-clause-front : goal.returns-clause-front
returns-clause-front c = every_front

pub returns-clause-field : goal.returns-clause-field
returns-clause-field c =
    every_field c.one_expression.ensures.expression c.expressions_are_decided.ensures.some
    c.pieces_are_cut.ensures.one c.pieces_are_cut.ensures.some c.pieces_are_cut.ensures.within c.partings_are_decided.ensures.within

pub returns-clause-key : goal.returns-clause-key
returns-clause-key c =
    every_key c.one_expression.ensures.expression c.expressions_are_decided.ensures.some
    c.pieces_are_cut.ensures.one c.pieces_are_cut.ensures.some c.pieces_are_cut.ensures.within c.partings_are_decided.ensures.within

pub returns-clause-expression : goal.returns-clause-expression
returns-clause-expression c = every_size_expression c.one_expression.ensures.expression c.expressions_are_decided.ensures.some

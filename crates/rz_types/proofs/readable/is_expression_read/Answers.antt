use Rattle.std.proofs.Common.{sym, ap, ◌∙◌}
use Rattle.std.specs.Prelude.{drop, option_map}
use Rattle.rz_expr.specs.Term.{term_of}
use Rattle.rz_types_fields.specs.Field.{plain_body}
use Rattle.rz_expr.specs.NameKey.{key_of}
use Rattle.rz_types_fields.specs.Passed.{at_field}
use Rattle.rz_types.specs.Notes.{passed_at}
use Rattle.rz_types.proofs.Unknown.{number_known, number_tells, told_still, told_then}
use Rattle.rz_types.proofs.readable.is_expression_read.Goals as goal

pub returns-in_ok-read-in-Some-clause-read : goal.returns-in_ok-read-in-Some-clause-read
returns-in_ok-read-in-Some-clause-read c =
    let term = term_of c.args.expr.now in
    let fields = plain_body c.args.ahead.now.fields.now in
    let is =
    sym c.first_unknown.ensures ∙ ap (option_map key_of) c.in-Some.is in
    c.in_ok-read-in-Some.ensures.told ∙ number_tells (plain_body (drop 1 c.args.ahead.now.fields.now)) (passed_at fields c.args.notes.now) term (key_of c.in-Some.key) is

pub returns-in_ok-read-in-Some-clause-passed : goal.returns-in_ok-read-in-Some-clause-passed
returns-in_ok-read-in-Some-clause-passed c so =
    let term = term_of c.args.expr.now in
    let fields = plain_body c.args.ahead.now.fields.now in
    let is =
    sym c.first_unknown.ensures ∙ ap (option_map key_of) c.in-Some.is in
    ap (at_field fields) (c.in_ok-read-in-Some.ensures.passed so)
    ∙ told_then (plain_body (drop 1 c.args.ahead.now.fields.now)) (passed_at fields c.args.notes.now) term (key_of c.in-Some.key) is (sym c.in_ok-read-in-Some.ensures.told ∙ so)

pub returns-in-None-clause-read : goal.returns-in-None-clause-read
returns-in-None-clause-read c =
    let term = term_of c.args.expr.now in
    let fields = plain_body c.args.ahead.now.fields.now in
    let is =
    sym c.first_unknown.ensures ∙ ap (option_map key_of) c.in-None.is in
    number_known (plain_body (drop 1 c.args.ahead.now.fields.now)) (passed_at fields c.args.notes.now) term is

pub returns-in-None-clause-passed : goal.returns-in-None-clause-passed
returns-in-None-clause-passed c so =
    let term = term_of c.args.expr.now in
    let fields = plain_body c.args.ahead.now.fields.now in
    let is =
    sym c.first_unknown.ensures ∙ ap (option_map key_of) c.in-None.is in
    told_still (passed_at fields c.args.notes.now) term is

use Rattle.std.proofs.Common.{rules, ◌≡◌, true, false, drop, sym, ◌∙◌}
use Rattle.rz_expr.specs.NameKey.{key_of}
use Rattle.rz_expr.specs.Term.{term_of}
use Rattle.rz_types_fields.specs.Field.{plain_body}
use Rattle.rz_types_fields.specs.Passed.{declares}
use Rattle.rz_types_fields.specs.Solve.{can_solve}
use Rattle.rz_types.specs.Notes.{known, may_be_told, passed}
use Rattle.rz_types.proofs.Noted.{told_by_it}
use Rattle.rz_types.proofs.Unknown.{tells_not}
use Rattle.rz_types.proofs.readable.tells.Goals as goal

pub returns-then-not-branch-clause-told : goal.returns-then-not-branch-clause-told
returns-then-not-branch-clause-told c =
    let fields = c.args.ahead.now.fields.now in
    let none : may_be_told (key_of c.args.key) ≡ false = search rules in
    sym (tells_not (plain_body (drop 1 fields)) (passed c.args.notes.now).met (known (plain_body fields) c.args.notes.now) (term_of c.args.expr.now) (key_of c.args.key) none)

pub returns-clause-told : goal.returns-clause-told
returns-clause-told c =
    let fields = c.args.ahead.now.fields.now in
    let declared : declares (plain_body (drop 1 fields)) (key_of c.args.key) ≡ true = search rules in
    let solved : can_solve (key_of c.args.key) (term_of c.args.expr.now) ≡ true = search rules in
    let told : c.in_ok-tell.field-0 ≡ true = search rules in
    c.all_known.ensures
    ∙ told_by_it (plain_body (drop 1 fields)) (plain_body fields) c.args.notes.now c.tell.new.self (term_of c.args.expr.now) (key_of c.args.key) declared solved
    (c.in_ok-tell.ensures.passed told)

use Rattle.std.proofs.Common.{rules, w64, Option, Some, ℤ, ap, ◌∙◌}
use Rattle.std.specs.Prelude.{if◌then◌else◌, option_and_then}
use Rattle.std.specs.Int.RustNames.{FitsSigned}
use Rattle.std.proofs.lemmas.Int.{to_z-of_z}
use Rattle.rz_expr.specs.Environment.{count_key}
use Rattle.rz_types_fields.specs.Known.{known}
use Rattle.rz_types_fields.specs.Solve.{is_same_key}
use Rattle.rz_unlay_pieces.specs.Asked.{solves}
use Rattle.rz_unlay_pieces.specs.Pieces.{also, solve_key}
use Rattle.rz_unlay_pieces.proofs.Claims.{met_now, tells}
use Rattle.rz_unlay_pieces.proofs.solve.solve_count.Goals as goal

pub returns-in_ok-push-in-Some-solved_count-clause-known : goal.returns-in_ok-push-in-Some-solved_count-clause-known
returns-in_ok-push-in-Some-solved_count-clause-known c =
    let names = known c.args.learnt.now.notes.items in
    let key = count_key c.args.name.now.bytes in
    let fits : FitsSigned w64 c.in-Some-solved_count.rows = search rules in
    ap Some (tells c.args.learnt.now.notes.items _ _ c.in_ok-push-in-Some-solved_count.ensures.items key c.in-Some-solved_count.rows
    (λ other before. ap (λ (v : ℤ). if is_same_key key other then Some v else before) (to_z-of_z w64 c.in-Some-solved_count.rows fits)))
    ∙ ap (option_and_then (λ value. Some (also key value names))) c.in-Some-solved_count.ensures
    ∙ ap (λ (o : Option ℤ). solve_key (solves c.args.asked.now) key o names) c.in-None.ensures

pub returns-in_ok-push-in-Some-solved_count-clause-met : goal.returns-in_ok-push-in-Some-solved_count-clause-met
returns-in_ok-push-in-Some-solved_count-clause-met c = met_now c.args.learnt.now.notes.items _ _ c.in_ok-push-in-Some-solved_count.ensures.items

pub returns-in-None-solved_count-clause-known : goal.returns-in-None-solved_count-clause-known
returns-in-None-solved_count-clause-known c =
    let names = known c.args.learnt.now.notes.items in
    let key = count_key c.args.name.now.bytes in
    ap (option_and_then (λ value. Some (also key value names))) c.in-None-solved_count.ensures
    ∙ ap (λ (o : Option ℤ). solve_key (solves c.args.asked.now) key o names) c.in-None.ensures

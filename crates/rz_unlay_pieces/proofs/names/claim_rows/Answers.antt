use Rattle.std.proofs.Common.{rules, w64, ℤ, Option, Some, ap, ◌∙◌}
use Rattle.std.specs.Prelude.{if◌then◌else◌}
use Rattle.std.proofs.lemmas.Int.{to_z-of_z}
use mir.Syntax.{w128}
use Rattle.rz_expr.specs.Environment.{count_key}
use Rattle.rz_types_fields.specs.Solve.{is_same_key}
use Rattle.rz_unlay_pieces.specs.Pieces.{agrees}
use Rattle.rz_unlay_pieces.proofs.Claims.{claims, met_now}
use Rattle.rz_unlay_pieces.proofs.names.claim_rows.Goals as goal

pub returns-in_ok-push-clause-known : goal.returns-in_ok-push-clause-known
returns-in_ok-push-clause-known c =
    let same = to_z-of_z w64 c.args.rows c.ranges.rows in
    claims c.args.learnt.now.notes.items _ _ c.in_ok-push.ensures.items (count_key c.args.name.now.bytes) c.args.rows
    (λ other before. ap (λ (v : ℤ). if is_same_key (count_key c.args.name.now.bytes) other then Some v else before) same)
    (c.if-agrees.ensures
    ∙ ap (agrees c.value_noted.result) (to_z-of_z w128 c.from.result (search rules) ∙ c.from.ensures ∙ same)
    ∙ ap (λ (o : Option ℤ). agrees o c.args.rows) c.value_noted.ensures)

pub returns-in_ok-push-clause-met : goal.returns-in_ok-push-clause-met
returns-in_ok-push-clause-met c = λ holds. met_now c.args.learnt.now.notes.items _ _ c.in_ok-push.ensures.items

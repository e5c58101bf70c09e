use Rattle.std.proofs.Common.{length, rules, w64, ℤ, Option, Some, sym, ap, ◌∙◌}
use Rattle.std.specs.Prelude.{if◌then◌else◌}
use Rattle.std.specs.Int.RustNames.{FitsSigned}
use Rattle.std.proofs.lemmas.Int.{to_z-of_z}
use Rattle.rz_core.specs.declared.resource.Word.{Word}
use Rattle.rz_expr.specs.Environment.{Environment}
use Rattle.rz_types_fields.specs.Known.{known}
use Rattle.rz_types_fields.specs.Laid.{with_count}
use Rattle.rz_types_fields.specs.Passed.{gives_count}
use Rattle.rz_types_fields.proofs.Noting.{known_more}
use Rattle.rz_layout.proofs.Noted.{counted_else, noted_one}
use Rattle.rz_layout.proofs.names.enter_array.Goals as goal

pub returns-in_ok-push-clause-known : goal.returns-in_ok-push-clause-known
returns-in_ok-push-clause-known c =
    let before = known c.args.notes.now.items in
    let with_rows : ℤ → Environment = λ rows. record { give = λ key. if gives_count (Some c.in-Some.name) key then Some rows else before.give key } in
    let fits : FitsSigned w64 c.count_of.result = search rules in
    ap known c.in_ok-push.ensures.items ∙ known_more c.args.notes.now.items _ ∙ ap with_rows (to_z-of_z w64 c.count_of.result fits ∙ c.count_of.ensures)
    ∙ ap (λ (name : Option Word). with_count name (length c.args.rows.now) before) (sym c.in-Some.is)

pub returns-in_ok-push-clause-noted : goal.returns-in_ok-push-clause-noted
returns-in_ok-push-clause-noted c =
    noted_one (gives_count c.args.name.now) c.args.notes.now.items _ _ c.in_ok-push.ensures.items
    (λ key before not_given. counted_else (gives_count (Some c.in-Some.name) key) _ before (ap (λ (n : Option Word). gives_count n key) (sym c.in-Some.is) ∙ not_given))

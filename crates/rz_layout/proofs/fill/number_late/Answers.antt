use Rattle.std.proofs.Common.{◌≡◌, rules, w32, Err, Ok, Result, List, Bool, sym, ap, ◌∙◌}
use Rattle.rz_expr.specs.Term.{term_of}
use Rattle.rz_expr.specs.Unvalued.{fault_of}
use Rattle.rz_expr.specs.Value.{value_of}
use Rattle.std.specs.Int.RustNames.{FitsSigned}
use Rattle.std.proofs.lemmas.Int.{to_z-of_z}
use Rattle.rz_layout.specs.Laid.{bits_made}
use Rattle.rz_layout.specs.Late.{number_held}
use Rattle.rz_types_fields.specs.Known.{known}
use Rattle.rz_types_fields.specs.Laid.{ranged, Refusal}
use Rattle.rz_types_fields.specs.Sees.{sees}
use Rattle.rz_layout.proofs.Fills.{late_value}
use Rattle.rz_types_fields.proofs.Marks.{beside_none}
use Rattle.rz_layout.proofs.fill.number_late.Goals as goal

no : Refusal → Result (List Bool) Refusal
no fault = Err fault

pub returns-in-Ok : goal.returns-in-Ok
returns-in-Ok c =
    let sight = sees c.args.facts.now c.args.bits.now (known c.args.notes.now.items) c.args.number.now.at in
    let wide : FitsSigned w32 c.args.number.now.width = search rules in
    let fits : FitsSigned w32 c.in-Ok.value = search rules in
    let made : bits_made c.args.number.now.width c.ranged.result ≡ ranged c.args.number.now.piece c.args.number.now.form c.args.number.now.width c.in-Ok.value =
    simp to_z-of_z at c.ranged.ensures in
    made
    ∙ sym (late_value c.args.facts.now (known c.args.notes.now.items) (number_held c.args.number.now) c.args.bits.now (Ok c.in-Ok.value)
    (ap (value_of (term_of c.args.number.now.term.now)) (sym (beside_none c.args.none.now sight c.requires.none)) ∙ sym c.in-Ok.ensures))

pub returns-in-Err : goal.returns-in-Err
unfolding no
returns-in-Err c =
    let sight = sees c.args.facts.now c.args.bits.now (known c.args.notes.now.items) c.args.number.now.at in
    ap no c.value_fault.ensures
    ∙ sym (late_value c.args.facts.now (known c.args.notes.now.items) (number_held c.args.number.now) c.args.bits.now (Err (fault_of c.in-Err.fault))
    (ap (value_of (term_of c.args.number.now.term.now)) (sym (beside_none c.args.none.now sight c.requires.none)) ∙ sym c.in-Err.ensures))

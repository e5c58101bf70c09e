use Rattle.std.proofs.Common.{rules, ◌+◌, ◌∷◌, ◌++◌, [], ℤ, drop, map, Err, sym, ap, ◌∙◌, to_z, of_z, w32, SFits}
use Rattle.std.specs.Prelude.{pos, ◌+ℤ◌}
use Rattle.std.proofs.lemmas.Int.{to_z-of_z}
use Rattle.std.proofs.lemmas.List.{at_drop_more}
use Rattle.rz_core.specs.declared.fault.Fault.{Fault}
use Rattle.rz_core.specs.declared.resource.Word.{Word}
use Rattle.rz_expr.specs.Value.{reduced}
use Rattle.rz_stmt_fields.specs.Form.{named_of}
use Rattle.rz_types_fields.specs.Range.{fits_number}
use Rattle.rz_stmt_type.specs.Values.{out_of_range, values_of}
use Rattle.rz_stmt_fields.specs.declared.form.Named.{Named}
use Rattle.rz_stmt_type.proofs.Valued.{behind_symbols, no_room, one_more}
use Rattle.rz_stmt_type.proofs.values.values_of.Goals as goal

pub returns-then-not-fits_number : goal.returns-then-not-fits_number
returns-then-not-fits_number c =
    let names = c.args.names.now in
    let i = c.loop-named.named-index in
    let width = to_z w32 (of_z w32 c.args.width) in
    let fits : SFits w32 c.in-Ok.value = search rules in
    let same = to_z-of_z w32 c.in-Ok.value fits in
    ap (λ w. values_of (fits_number c.args.form w) c.args.mark (pos 0) (map named_of names)) (sym (to_z-of_z w32 c.args.width c.ranges.width))
    ∙ no_room (fits_number c.args.form width) c.args.mark (values_of (fits_number c.args.form width) c.args.mark (pos 0) (map named_of names)) c.loop-named.symbols
    (to_z w32 c.loop-named.next-bits) (named_of c.named-item.result) (map named_of (drop (i + 1) names)) (map named_of (drop i names)) c.loop-named.invariant
    (at_drop_more (map named_of) names i c.named-item.result c.loop-named-test.true ∙ ap (λ (x : Named). named_of x ∷ map named_of (drop (i + 1) names)) (sym c.named-item.is))
    c.in-Ok.value c.in-Ok.ensures
    (ap (fits_number c.args.form width) (sym same) ∙ sym c.if-not-fits_number.ensures)
    ∙ ap (λ (fault : Fault). Err fault) (ap (out_of_range c.args.mark) (sym same) ∙ sym c.out_of_range.ensures)

pub loop-named-preserved : goal.loop-named-preserved
loop-named-preserved c =
    let names = c.args.names.now in
    let i = c.loop-named.named-index in
    let width = to_z w32 (of_z w32 c.args.width) in
    let fits : SFits w32 c.in-Ok.value = search rules in
    let same = to_z-of_z w32 c.in-Ok.value fits in
    let next_fits : SFits w32 c.following-next.result = search rules in
    one_more (fits_number c.args.form width) c.args.mark (values_of (fits_number c.args.form width) c.args.mark (pos 0) (map named_of names)) c.loop-named.symbols
    (to_z w32 c.loop-named.next-bits) (named_of c.named-item.result) (map named_of (drop (i + 1) names)) (map named_of (drop i names)) c.loop-named.invariant
    (at_drop_more (map named_of) names i c.named-item.result c.loop-named-test.true ∙ ap (λ (x : Named). named_of x ∷ map named_of (drop (i + 1) names)) (sym c.named-item.is))
    c.in-Ok.value c.in-Ok.ensures c.push.new.self
    (c.in_ok-push.ensures.ok
    ∙ ap (λ (name : Word). c.loop-named.symbols ++ record { name = name; value = to_z w32 (of_z w32 c.in-Ok.value) } ∷ []) c.in_ok-name.ensures
    ∙ ap (λ (value : ℤ). c.loop-named.symbols ++ record { name = c.named-item.result.name; value = value } ∷ []) same)
    (ap (fits_number c.args.form width) (sym same) ∙ sym c.if-not-fits_number.ensures)
    ∙ ap (λ (next : ℤ). behind_symbols c.push.new.self (values_of (fits_number c.args.form width) c.args.mark next (map named_of (drop (i + 1) names))))
    (ap (λ (v : ℤ). reduced (v +ℤ pos 1)) (sym same) ∙ sym c.following-next.ensures ∙ sym (to_z-of_z w32 c.following-next.result next_fits))

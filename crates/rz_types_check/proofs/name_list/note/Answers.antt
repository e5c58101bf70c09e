use Rattle.std.proofs.Common.{map, cond, Some, refl, sym, ap, ◌∙◌, Ok, Err}
use Rattle.std.specs.Prelude.{OnErr}
use Rattle.std.specs.Str.{str_eq_ignore_ascii_case}
use Rattle.std.specs.declared.result.Result.{Result}
use Rattle.std.proofs.lemmas.List.{length-map}
use Rattle.rz_core.specs.declared.stop.NoMemory.{NoMemory}
use Rattle.rz_types_check.specs.Firsts.{first_at}
use Rattle.rz_types_check.proofs.Firsts.{found_again, found_more, found_same}
use Rattle.rz_types_check.proofs.name_list.note.Goals as goal

on_err : (result : Result (Unit {0}) NoMemory) (P : Type 0) → P → OnErr result P
on_err (Ok nothing) P holds = tt
on_err (Err error) P holds = holds

pub returns-then-stands-clause-ok : goal.returns-then-stands-clause-ok
returns-then-stands-clause-ok c = λ found.
    found_again (λ key. key.0.now.bytes) c.args.firsts.now (map (λ one. one.now) c.args.list.now) c.args.name.now (record { 0 = c.args.name }) refl found
    (sym c.stands.ensures ∙ c.if-stands.true)

pub returns-in_err-insert-clause-err : goal.returns-in_err-insert-clause-err
returns-in_err-insert-clause-err c =
    on_err c.from_residual.result _ (found_same (λ key. key.0.now.bytes) c.args.firsts.now c.insert.new.self (map (λ one. one.now) c.args.list.now) c.in_err-insert.ensures.err)

pub returns-clause-ok : goal.returns-clause-ok
returns-clause-ok c = λ found.
    found_more (λ key. key.0.now.bytes) c.args.firsts.now (map (λ one. one.now) c.args.list.now) c.args.name.now (record { 0 = c.args.name }) refl found
    c.insert.new.self (sym c.stands.ensures ∙ c.if-stands.false)
    (λ key. c.in_ok-insert.ensures.updates.0 key
    ∙ ap (λ at. cond (str_eq_ignore_ascii_case c.args.name.now.bytes key.0.now.bytes) (Some at) (first_at (λ key'. key'.0.now.bytes) c.args.firsts.now key)) (sym (length-map c.args.list.now (λ one. one.now))))

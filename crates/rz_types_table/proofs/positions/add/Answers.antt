use Rattle.std.proofs.Common.{[], ◌∷◌, ◌++◌, cond, ap, refl, subst, ◌∙◌, Ok, Err}
use Rattle.std.specs.HashMap.{get}
use Rattle.std.specs.Prelude.{Some, OnErr}
use Rattle.std.specs.Option.{option_map_or, IsSome}
use Rattle.std.specs.declared.result.Result.{Result}
use Rattle.rz_core.specs.declared.stop.NoMemory.{NoMemory}
use Rattle.rz_types_table.specs.Positions.{same_group}
use Rattle.rz_types_table.proofs.Groups.{held_more, held_same}
use Rattle.rz_types_table.proofs.positions.add.Goals as goal

on_err : (result : Result (Unit {0}) NoMemory) (P : Type 0) → P → OnErr result P
on_err (Ok nothing) P holds = tt
on_err (Err error) P holds = holds

pub returns-in_err-push-in-Some-clause-err : goal.returns-in_err-push-in-Some-clause-err
returns-in_err-push-in-Some-clause-err c =
    let there = c.in-Some.ensures.value in
    on_err c.from_residual.result _ (λ other.
    held_same c.args.places.now c.args.group c.push.new.self other _
    (((c.get_mut.follows.holds c.push.new.self).3 (subst IsSome there refl)).0 other)
    (c.in_err-push-in-Some.ensures.items ∙ ap (λ o. option_map_or (λ own. own.items) o []) there))

pub returns-in_ok-insert-in-None-clause-ok : goal.returns-in_ok-insert-in-None-clause-ok
returns-in_ok-insert-in-None-clause-ok c = λ other.
    held_more c.args.places.now c.args.group c.in_ok-vec-in-None.field-0 other _ c.args.position
    (c.in_ok-insert-in-None.ensures.updates.0 other
    ∙ ap (λ places. cond (same_group c.args.group other) (Some c.in_ok-vec-in-None.field-0) (get same_group places other)) c.get_mut.follows.holds-at-none)
    (c.in_ok-vec-in-None.ensures.items ∙ ap (λ o. option_map_or (λ own. own.items) o [] ++ c.args.position ∷ []) c.in-None.ensures.value)

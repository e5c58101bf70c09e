use Rattle.std.proofs.Common.{◌≡◌, ◌+◌, ◌-◌, ◌*◌, ◌++◌, ◌∷◌, [], false, ℕ, List, length, ap, ◌∙◌, arith}
use Rattle.std.proofs.lemmas.List.{length-append}
use Rattle.rz_types_fields.specs.Shape.{numbers_of}
use Rattle.rz_unlay_pieces.specs.Came.{here_of}
use Rattle.rz_unlay_pieces.specs.Pieces.{late_behind}
use Rattle.rz_unlay.specs.Points.{behind_numbers}
use Rattle.rz_unlay.proofs.PieceSteps.{group_found, group_more, group_over, group_start, grouped_is, no_group, not_grouped}
use Rattle.rz_unlay.proofs.points.read_group.Goals as goal

pub loop-turn-init : goal.loop-turn-init
loop-turn-init c = record {
  read = λ before names late.
      let here = here_of c.args.spot.now before in
      ap (λ (ns : List ℕ). behind_numbers ns (group_found here names (numbers_of c.args.rect - 0) c.args.at (late_behind late (16 * 0) false))) c.new-numbers.ensures
      ∙ group_start here names late (numbers_of c.args.rect) c.args.at;
  place = omega arith;
  within = c.requires;
  count = ap length c.new-numbers.ensures;
}

pub returns-in-None-clause-step : goal.returns-in-None-clause-step
returns-in-None-clause-step c = λ before names late.
    let here = here_of c.args.spot.now before in
    not_grouped here names late (numbers_of c.args.rect) c.args.at
    (no_group here names (late_behind late (16 * c.loop-turn._turn) false) c.loop-turn.numbers (numbers_of c.args.rect - c.loop-turn._turn) c.loop-turn.after _ (omega (arith, c.count_of-turn-end.ensures)) c.in-None.ensures.number
    (c.loop-turn.invariant.read before names late))

pub loop-turn-preserved : goal.loop-turn-preserved
loop-turn-preserved c =
    let count : ℕ = numbers_of c.args.rect in
    let e : count - (c.loop-turn._turn + 1) ≡ count - c.loop-turn._turn - 1 = omega arith in
    record {
      read = λ before names late.
          let here = here_of c.args.spot.now before in
          let marks = late_behind late (16 * (c.loop-turn._turn + 1)) false in
          ap (λ (ns : List ℕ). behind_numbers ns (group_found here names (count - (c.loop-turn._turn + 1)) (c.loop-turn.after + 16) marks)) c.in_ok-push-in-Some.ensures.ok
          ∙ ap (λ n. behind_numbers (c.loop-turn.numbers ++ c.in-Some.number ∷ []) (group_found here names n (c.loop-turn.after + 16) marks)) e
          ∙ group_more here names late c.loop-turn.numbers (count - c.loop-turn._turn) c.loop-turn.after c.loop-turn._turn c.in-Some.number _ (omega (arith, c.count_of-turn-end.ensures)) c.in-Some.ensures.number
          (c.loop-turn.invariant.read before names late);
      place = omega (arith, c.loop-turn.invariant.place);
      within = c.in-Some.ensures.within;
      count = let l = ap length c.in_ok-push-in-Some.ensures.ok in let k = length-append c.loop-turn.numbers (c.in-Some.number ∷ []) in omega (arith, l, k, c.loop-turn.invariant.count);
    }

pub returns-clause-step : goal.returns-clause-step
returns-clause-step c = λ before names late.
    let here = here_of c.args.spot.now before in
    let turns : c.loop-turn._turn ≡ numbers_of c.args.rect = omega (arith, c.count_of-turn-end.ensures) in
    let e : 16 * numbers_of c.args.rect ≡ 16 * c.loop-turn._turn = omega (arith, turns) in
    grouped_is here names late (late_behind late (16 * numbers_of c.args.rect) false) (numbers_of c.args.rect) c.args.at c.loop-turn.after c.loop-turn.numbers
    (group_over here names (late_behind late (16 * numbers_of c.args.rect) false) c.loop-turn.numbers (numbers_of c.args.rect - c.loop-turn._turn) c.loop-turn.after _ (omega (arith, turns))
    (ap (λ n. behind_numbers c.loop-turn.numbers (group_found here names (numbers_of c.args.rect - c.loop-turn._turn) c.loop-turn.after (late_behind late n false))) e
    ∙ c.loop-turn.invariant.read before names late))

pub returns-clause-after : goal.returns-clause-after
returns-clause-after c =
    let turns : c.loop-turn._turn ≡ numbers_of c.args.rect = omega (arith, c.count_of-turn-end.ensures) in
    omega (arith, turns, c.loop-turn.invariant.place)

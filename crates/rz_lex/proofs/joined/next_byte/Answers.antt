use Rattle.std.proofs.Common.{rules, refl, ap, arith}
use Rattle.std.proofs.lemmas.Grind.{common_steps}
use Rattle.rz_lex.specs.declared.joined.Position.{Position}
use Rattle.rz_lex.proofs.Leaving.{left_part}
use Rattle.rz_lex.proofs.joined.next_byte.Goals as goal

pub loop-rest-preserved-in-10-rest-7 : goal.loop-rest-preserved-in-10-rest-7
loop-rest-preserved-in-10-rest-7 c =
    let left = left_part c.args.place.rest.now c.loop-rest.rest.now _ c.loop-rest.invariant.suffix 3 refl in
    grind (arith, common_steps)

pub returns-in-13-clause-on : goal.returns-in-13-clause-on
returns-in-13-clause-on c = record {
  suffix = left_part c.args.place.rest.now c.loop-rest.rest.now c.stand_at.result.rest.now c.loop-rest.invariant.suffix 2
      (ap (λ (place : Position). place.rest.now) c.stand_at.ensures);
  shorter = search rules;
  within = search rules;
}

pub returns-in-len1-up-clause-on : goal.returns-in-len1-up-clause-on
returns-in-len1-up-clause-on c = record {
  suffix = left_part c.args.place.rest.now c.loop-rest.rest.now c.stand_at-in-len1-up.result.rest.now c.loop-rest.invariant.suffix 1
      (ap (λ (place : Position). place.rest.now) c.stand_at-in-len1-up.ensures);
  shorter = search rules;
  within = search rules;
}

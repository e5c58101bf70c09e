use Rattle.std.proofs.Common.{◌<◌, length, sym, arith}
use Rattle.std.proofs.lemmas.Grind.{common_steps}
use Rattle.rz_tmpl.proofs.First.{first_is}
use Rattle.rz_tmpl.proofs.bodies.Bodies.next.Goals as goal

pub returns-in-None-fault : goal.returns-in-None-fault
returns-in-None-fault c =
    let some : 0 < length c.args.bytes.now = grind (arith, common_steps) in (
      first_is c.args.bytes.now c.rest_at-rest.result.now c.rest_at.result.now c.split_at.result.0.now c.from-label.result c.in-Some-entry_of.entry
          some c.from-label.ensures c.rest_at-rest.ensures (let fits = c.if-rest-label.false in omega arith) c.rest_at.ensures c.split_at.ensures.front
          (sym c.in-Some-entry_of.ensures),
      sym c.in-None-fault.ensures,
    )

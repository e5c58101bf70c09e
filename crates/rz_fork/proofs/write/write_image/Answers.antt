use Rattle.std.proofs.Common.{◌≡◌, ◌+◌, ◌++◌, ap, length, arith, length-append}
use Rattle.std.proofs.lemmas.Grind.{common_steps}
use Rattle.rz_fork.specs.Groups.{shown}
use Rattle.rz_fork.specs.Image.{front}
use Rattle.rz_fork.proofs.Lengths.{length-front}
use Rattle.rz_fork.proofs.write.write_image.Goals as goal

pub returns-clause-short : goal.returns-clause-short
returns-clause-short c =
    let order = shown c.args.order.now in
    let tail = c.in_ok-tail.tail in
    let head = front order c.args.reserved.now (16 + c.len.result) in
    let is : c.append.new.self ≡ head ++ tail = grind (arith, common_steps) in
    omega (arith, ap length is, length-append head tail, length-front order c.args.reserved.now (16 + c.len.result) c.requires.reserved, c.requires.area, c.in_ok-tail.ensures.short)

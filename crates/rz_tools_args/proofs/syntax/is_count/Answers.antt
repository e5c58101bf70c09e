use Rattle.std.proofs.Common.{arith}
use Rattle.std.proofs.lemmas.Bool.{le-leb, leb-true}
use Rattle.rz_tools_args.proofs.Standing.{same_number}
use Rattle.rz_tools_args.proofs.syntax.is_count.Goals as goal

pub returns-then-number-ge1 : goal.returns-then-number-ge1
returns-then-number-ge1 c = (
  λ is. (c.in-Some.number, c.in-Some.ensures.some, c.if-number-ge1.true, leb-true c.in-Some.number c.args.most is),
  λ h. le-leb c.in-Some.number c.args.most
      (omega (arith, h.3, same_number c.args.word.now c.in-Some.number h.0 (omega arith) (omega (arith, h.3)) c.in-Some.ensures.some h.1)),
)

pub returns-else-number-ge1 : goal.returns-else-number-ge1
returns-else-number-ge1 c = (
  λ is. absurd (omega (arith, c.if-number-ge1.false, leb-true 1 c.in-Some.number is)),
  λ h. absurd
      (omega (arith, h.2, c.if-number-ge1.false, same_number c.args.word.now c.in-Some.number h.0 (omega arith) (omega (arith, h.3)) c.in-Some.ensures.some h.1)),
)

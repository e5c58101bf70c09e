use Rattle.std.proofs.Common.{◌≢◌, [], arith, inl}
use Rattle.rz_lex.specs.Joined.{ahead}
use Rattle.rz_lex.proofs.Leaving.{left_on}
use Rattle.rz_lex.proofs.OneLine.{comment_here, line_at_end, line_here, more_so_far}
use Rattle.rz_lex.proofs.lines.next_line.Goals as goal

pub returns-then-byte-eq10-clause-line : goal.returns-then-byte-eq10-clause-line
returns-then-byte-eq10-clause-line c =
    line_here c.args.file _ _ _ _ c.in-Some-next_byte.byte _ c.loop-byte.invariant.so_far c.in-Some-next_byte.ensures.byte c.if-byte-eq10.true c.loop-byte.invariant.mark

pub returns-in_default-2-clause-comment : goal.returns-in_default-2-clause-comment
returns-in_default-2-clause-comment c =
    let there : ahead c.loop-byte.place ≢ [] = λ e. (let f = c.in-Some-next_byte.ensures.byte in cc) in
    comment_here c.args.file _ _ _ _ _ c.loop-byte.invariant.so_far (rw c.in_default-2.is at c.in_ok-rest.ensures.endless) there c.loop-byte.invariant.mark c.open_comment.ensures.fault

pub loop-byte-preserved : goal.loop-byte-preserved
loop-byte-preserved c =
    let step = rw c.in-Some-2.is at c.in_ok-rest.ensures in
    let so = c.loop-byte.invariant in
    record {
      so_far = more_so_far _ _ _ _ _ so.so_far step.taken;
      mark = so.mark;
      on = record {
        suffix = left_on c.args.start.rest.now c.loop-byte.place.rest.now c.in-Some-2.rest.rest.now so.on.suffix step.further.suffix;
        shorter = omega (arith, step.further.shorter);
        within = omega (arith, step.further.within);
      };
      moved = inl (omega (arith, step.further.shorter));
    }

pub returns-clause-line : goal.returns-clause-line
returns-clause-line c =
    let there : ahead c.args.start ≢ [] = λ e. (let f = c.in-Some.ensures.byte in cc) in
    line_at_end c.args.file _ _ _ _ c.loop-byte.invariant.so_far c.in_default-next_byte.ensures.byte there c.loop-byte.invariant.mark

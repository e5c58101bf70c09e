use Rattle.std.proofs.Common.{refl, sym, ◌∙◌, arith}
use Rattle.rz_told.specs.Left.{left_here}
use Rattle.rz_told.proofs.Onward.{next_rule, finds_none, at_start}
use Rattle.rz_told.proofs.lists.next_in_lists.Goals as goal

pub loop-outline-preserved : goal.loop-outline-preserved
loop-outline-preserved c =
    let b = c.args.bytes.now in
    let o = c.args.outline in
    let pass = c.loop-outline.pass in
    let at = c.loop-outline.cursor in
    let fault = c.next_in_pass-fault in
    let none = finds_none fault.result (left_here pass b o at) (left_here pass b o fault.new.cursor) (sym c.if-is_some.ensures) fault.ensures.gives fault.ensures.none in
    record {
      same = c.loop-outline.invariant.same ∙ next_rule b o c.args.area pass c.in-Some.next at none c.in-Some.ensures.passes;
      tested = c.in-Some.ensures.tested;
      at = at_start b o (record { place = 0; code = 0; count = 0; list = 0 }) refl;
      marked = λ ids more. absurd (omega (arith, more));
    }

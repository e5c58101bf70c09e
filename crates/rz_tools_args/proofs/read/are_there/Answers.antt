use Rattle.std.proofs.Common.{◌+◌, Bool, List, drop, map, sym, ap, ◌∙◌}
use Rattle.std.specs.Prelude.{◌&&◌}
use Rattle.std.specs.List.{list_all, list_any}
use Rattle.std.proofs.lemmas.List.{at_drop_more}
use Rattle.rz_tools_args.specs.Held.{item, says}
use Rattle.rz_tools_args.specs.declared.flag.Flag.{Flag}
use Rattle.rz_tools_args.proofs.read.are_there.Goals as goal

pub returns-then-not-is_there : goal.returns-then-not-is_there
returns-then-not-is_there c =
    let all : List Flag → Bool = list_all (λ flag. list_any (says flag) (map item c.args.items.now)) in
    ap (λ (b : Bool). b && all (drop (c.loop-need.need-index + 1) c.args.needs.now)) (c.if-not-is_there.ensures)
    ∙ sym (at_drop_more all c.args.needs.now c.loop-need.need-index _ c.loop-need-test.true) ∙ c.loop-need.invariant

pub loop-need-preserved : goal.loop-need-preserved
loop-need-preserved c =
    let all : List Flag → Bool = list_all (λ flag. list_any (says flag) (map item c.args.items.now)) in
    ap (λ (b : Bool). b && all (drop (c.loop-need.need-index + 1) c.args.needs.now)) (c.if-not-is_there.ensures)
    ∙ sym (at_drop_more all c.args.needs.now c.loop-need.need-index _ c.loop-need-test.true) ∙ c.loop-need.invariant

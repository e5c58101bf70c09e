use Rattle.std.proofs.Common.{ap, ◌∙◌, List, ℕ}
use Rattle.std.specs.Borrow.{Bor}
use Rattle.std.specs.Prelude.{option_map, Option}
use Rattle.rz_tools_args.specs.Items.{names_of}
use Rattle.rz_tools_args.proofs.Latest.{latest_more, map_or}
use Rattle.rz_tools_args.proofs.command.Command.name.Goals as goal

pub loop-one-preserved : goal.loop-one-preserved
loop-one-preserved c =
    let shown : Option (Bor (List ℕ)) → Option (List ℕ) = option_map (λ name. name.now) in
    latest_more (names_of c.args.flag) c.as_slice-one-items.result.now c.loop-one.one-index c.one-item.result c.loop-one-test.true c.one-item.is
    (shown c.name.result) (shown c.loop-one.latest) (shown c.or-latest.result) c.name.ensures
    (ap shown c.or-latest.ensures ∙ map_or (λ (name : Bor (List ℕ)). name.now) c.name.result c.loop-one.latest) _ c.loop-one.invariant

use Rattle.std.proofs.Common.{◌≡◌, filter, sym, ◌∙◌}
use Rattle.rz_catalog.specs.Apply.{is_entry_for, text_for}
use Rattle.rz_catalog.specs.Held.{leaf_eq, leaf_key}
use Rattle.rz_catalog.proofs.Firsts.{at_some, leaf_none, leaf_some}
use Rattle.rz_catalog.proofs.Told.{ok_so}
use Rattle.rz_catalog.proofs.restring.text_for.Goals as goal

pub at-requires : goal.at-requires
at-requires c = (at_some (leaf_eq c.args.key) leaf_key c.args.entries.now c.in-Some.place.now (sym (c.requires c.args.key) ∙ sym c.in-Some.ensures.value)).0

pub returns-in-Some : goal.returns-in-Some
returns-in-Some c r is =
    let text = leaf_some r c.args.key is c.args.entries.now c.in-Some.place.now c.at.result.now c.args.own (sym (c.requires c.args.key) ∙ sym c.in-Some.ensures.value) c.at.ensures in
    ok_so (λ bytes. bytes ≡ c.as_slice.result.now) (λ bytes. bytes ≡ text_for (filter (is_entry_for r) c.args.entries.now) c.args.key.2 c.args.own)
    (λ bytes so. so ∙ c.as_slice.ensures ∙ text) c.of.result c.of.ensures

pub returns-in-None : goal.returns-in-None
returns-in-None c r is = leaf_none r c.args.key is c.args.entries.now c.args.own (sym (c.requires c.args.key) ∙ sym c.in-None.ensures.value)

use Rattle.std.proofs.Common.{◌≡◌, ◌≤◌, Some, None, length, subst, ap, ◌∙◌, arith, option_map}
use Rattle.rz_core.specs.Decided.{Decided}
use Rattle.rz_types.specs.Template.{template_of}
use Rattle.rz_catalog.specs.Leaves.{leaves}
use Rattle.rz_catalog.specs.Stock.{texts_in}
use Rattle.rz_catalog.proofs.Few.{few_told}
use Rattle.rz_catalog.proofs.Told.{ok_so, same_texts, HasRow}
use Rattle.rz_catalog.proofs.listed.texts_under.Goals as goal

pub returns-in-Some-clause-few : goal.returns-in-Some-clause-few
returns-in-Some-clause-few c =
    let fields = option_map (λ one. template_of one.now) c.args.template in
    let few = few_told fields c.args.facts.now c.args.bytes.now c.in-Some.row (subst (Decided (HasRow fields c.args.facts.now c.args.bytes.now)) c.in-Some.is c.in_ok-row.ensures.told) in
    ok_so (λ texts. texts ≡ leaves c.in-Some.row) (λ texts. length texts ≤ 1048576) (λ texts is. let n : length texts ≡ length (leaves c.in-Some.row) = ap length is in omega (arith, n, few))
    c.texts_of.result c.texts_of.ensures

pub returns-in-Some-clause-texts : goal.returns-in-Some-clause-texts
returns-in-Some-clause-texts c row decided =
    let fields = option_map (λ one. template_of one.now) c.args.template in
    let same = same_texts fields c.args.facts.now c.args.bytes.now c.one_tree.ensures (Some c.in-Some.row) row
    (subst (Decided (HasRow fields c.args.facts.now c.args.bytes.now)) c.in-Some.is c.in_ok-row.ensures.told) decided in
    ok_so (λ texts. texts ≡ leaves c.in-Some.row) (λ texts. texts ≡ texts_in row) (λ texts is. is ∙ same) c.texts_of.result c.texts_of.ensures

pub returns-in-None-clause-texts : goal.returns-in-None-clause-texts
returns-in-None-clause-texts c row decided =
    let fields = option_map (λ one. template_of one.now) c.args.template in
    c.new.ensures ∙ same_texts fields c.args.facts.now c.args.bytes.now c.one_tree.ensures None row
    (subst (Decided (HasRow fields c.args.facts.now c.args.bytes.now)) c.in-None.is c.in_ok-row.ensures.told) decided

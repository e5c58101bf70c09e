use Rattle.std.proofs.Common.{◌≡◌, List, sym, ap, subst, ◌∙◌}
use Rattle.rz_core.specs.Stop.{Gives}
use Rattle.rz_stmt_items.specs.Item.{plain_items, PlainItem}
use Rattle.rz_stmt_items.specs.Matched.{matched}
use Rattle.rz_stmt_items.proofs.Matches.{gives, meets}
use Rattle.rz_stmt_items.proofs.Named.{met_named}
use Rattle.rz_stmt_items.proofs.Rows.{met_row}
use Rattle.rz_types.specs.Cases.{AreNamesApart}
use Rattle.rz_types.specs.Field.{plain_body, PlainBody}
use Rattle.rz_types.specs.Kept.{IsKept}
use Rattle.rz_types.specs.Template.{template_of}
use Rattle.rz_types.proofs.Cased.{names_apart}
use Rattle.rz_stmt_items.proofs.matching.match_items.Goals as goal

body_kept : (c : goal.After-match_all) → IsKept (template_of c.args.template.now)
body_kept c = c.rules_hold_within.ensures (template_of c.args.template.now) c.body.ensures.kept

pub match_all-requires : goal.match_all-requires
match_all-requires c =
    let body : plain_body c.as_slice.result.now ≡ template_of c.args.template.now = ap plain_body c.as_slice.ensures ∙ c.body.ensures.body in
    subst AreNamesApart (sym body) (names_apart (template_of c.args.template.now) (c.rules_hold_within.ensures (template_of c.args.template.now) c.body.ensures.kept))

given : (c : goal.After-match_all) → Gives (matched c.args.facts.now c.args.place (template_of c.args.template.now) (plain_items c.args.items.now)) c.match_all.result
given c =
    let body : plain_body c.as_slice.result.now ≡ template_of c.args.template.now = ap plain_body c.as_slice.ensures ∙ c.body.ensures.body in
    let items = ap plain_items c.as_slice-2.ensures in
    subst (λ (fields : PlainBody). Gives (matched c.args.facts.now c.args.place fields (plain_items c.args.items.now)) c.match_all.result) body
    (subst (λ (xs : List PlainItem). Gives (matched c.args.facts.now c.args.place (plain_body c.as_slice.result.now) xs) c.match_all.result) items c.match_all.ensures)

pub returns-clause-matched : goal.returns-clause-matched
returns-clause-matched c =
    meets c.args.facts.now c.args.place (template_of c.args.template.now) (plain_items c.args.items.now) (body_kept c) c.match_all.result (given c)

pub returns-clause-every : goal.returns-clause-every
returns-clause-every c =
    gives c.args.facts.now c.args.place (template_of c.args.template.now) (plain_items c.args.items.now) c.match_all.result (given c)

pub returns-clause-row : goal.returns-clause-row
returns-clause-row c =
    met_row c.args.facts.now c.args.place (template_of c.args.template.now) (plain_items c.args.items.now) c.match_all.result
    (meets c.args.facts.now c.args.place (template_of c.args.template.now) (plain_items c.args.items.now) (body_kept c) c.match_all.result (given c))

pub returns-clause-nameable : goal.returns-clause-nameable
returns-clause-nameable c files there within =
    met_named files c.args.facts.now c.args.place (template_of c.args.template.now) (plain_items c.args.items.now) c.match_all.result there within
    (meets c.args.facts.now c.args.place (template_of c.args.template.now) (plain_items c.args.items.now) (body_kept c) c.match_all.result (given c))

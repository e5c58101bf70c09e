use Rattle.std.proofs.Common.{◌≡◌, ◌∷◌, ◌∙◌, List, Option, Some, filter, sym, ap, subst, option_map}
use Rattle.rz_core.proofs.Stops.{meets_so}
use Rattle.rz_core.specs.Decided.{Decided}
use Rattle.rz_core.specs.Stop.{Meets}
use Rattle.rz_core.specs.declared.facts.Facts.{Facts}
use Rattle.rz_types.specs.Field.{PlainBody}
use Rattle.rz_types.specs.Template.{template_of}
use Rattle.rz_types_fields.specs.declared.tree.Tree.{Tree}
use Rattle.rz_types_table.specs.Table.{declared_for}
use Rattle.rz_types_table.specs.TypeTable.{table_of}
use Rattle.rz_unlay.specs.Reading.{facts_of}
use Rattle.rz_catalog_text.specs.declared.entry.Entry.{Entry}
use Rattle.rz_catalog.specs.Apply.{is_entry_for, IsPut}
use Rattle.rz_catalog.specs.Held.{IsPutUnder}
use Rattle.rz_catalog.proofs.Told.{own_bytes, put_under, stays_put, HasRow}
use Rattle.rz_catalog.proofs.restring.change.Goals as goal

pub returns-in-Some : goal.returns-in-Some
returns-in-Some c row others decided is =
    let types = table_of c.args.types.now in
    let r = c.args.resource.now in
    let mine = c.args.first.now ∷ others in
    let declared : Some (template_of c.in-Some.template.now) ≡ declared_for types r = ap (option_map (λ one. template_of one.now)) (sym c.in-Some.is) ∙ c.template_for.ensures in
    let Puts : Option PlainBody → Facts → Type 0 = λ fields known.
    (row : Option (List Tree)) (others : List Entry) → Decided (HasRow fields known r.bytes) row → filter (is_entry_for r) c.args.entries.now ≡ c.args.first.now ∷ others
    → Meets c.put_texts.result (IsPutUnder fields known r row (c.args.first.now ∷ others)) in
    let puts : Puts (declared_for types r) (facts_of c.args.moment r) =
    subst (λ (known : Facts). Puts (declared_for types r) known) c.in_ok-facts.ensures
    (subst (λ (fields : Option PlainBody). Puts fields c.in_ok-facts.facts) declared c.put_texts.ensures) in
    meets_so (IsPutUnder (declared_for types r) (facts_of c.args.moment r) r row mine) (IsPut types c.args.moment r row mine) (put_under types c.args.moment r row mine)
    c.put_texts.result (puts row others decided is)

pub returns : goal.returns
returns c row others decided is =
    let types = table_of c.args.types.now in
    let r = c.args.resource.now in
    stays_put types c.args.moment r row c.args.first.now others c.in_ok-with_bytes-in-None.field-0
    (sym c.template_for.ensures ∙ ap (option_map (λ one. template_of one.now)) c.in-None.is) decided
    (own_bytes r c.in_ok-with_bytes-in-None.field-0 c.as_slice.result.now c.in_ok-with_bytes-in-None.ensures c.as_slice.ensures)

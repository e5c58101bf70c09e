use Rattle.std.proofs.Common.{◌∙◌, ℕ, List, Ok, sym, ap, subst}
use Rattle.std.specs.HashMap.{get}
use Rattle.rz_core.specs.Stop.{Meets}
use Rattle.rz_types_table.specs.TypeTable.{table_of}
use Rattle.rz_catalog_text.specs.declared.entry.Entry.{Entry}
use Rattle.rz_catalog.specs.Apply.{IsPut}
use Rattle.rz_catalog.specs.Held.{key_eq, resource_key}
use Rattle.rz_catalog.proofs.Firsts.{entries_none, entries_some, entry_within}
use Rattle.rz_catalog.proofs.Told.{own_bytes}
use Rattle.rz_catalog.proofs.restring.restring.Goals as goal

pub at-first-requires : goal.at-first-requires
at-first-requires c =
    entry_within c.args.resource.now c.args.entries.now c.in-Some.first.now
    (sym (c.requires.firsts (resource_key c.args.resource.now)) ∙ sym (ap (λ (k : ℕ × ℕ). get key_eq c.args.noted.now.firsts k) c.resource_key.ensures) ∙ sym c.in-Some.ensures.value)

pub returns-in-Some : goal.returns-in-Some
returns-in-Some c row decided =
    let mine = entries_some c.args.resource.now c.args.entries.now c.in-Some.first.now c.at-first.result.now
    (sym (c.requires.firsts (resource_key c.args.resource.now)) ∙ sym (ap (λ (k : ℕ × ℕ). get key_eq c.args.noted.now.firsts k) c.resource_key.ensures) ∙ sym c.in-Some.ensures.value) c.at-first.ensures in
    subst (λ (es : List Entry). Meets c.change.result (IsPut (table_of c.args.types.now) c.args.moment c.args.resource.now row es)) (sym mine.1) (c.change.ensures row mine.0 decided mine.1)

pub returns-in_ok-with_bytes-in-None : goal.returns-in_ok-with_bytes-in-None
returns-in_ok-with_bytes-in-None c row decided =
    let none = entries_none c.args.resource.now c.args.entries.now
    (sym (c.requires.firsts (resource_key c.args.resource.now)) ∙ sym (ap (λ (k : ℕ × ℕ). get key_eq c.args.noted.now.firsts k) c.resource_key.ensures) ∙ sym c.in-None.ensures.value) in
    let copy = c.in_ok-with_bytes-in-None.field-0 in
    subst (λ (es : List Entry). IsPut (table_of c.args.types.now) c.args.moment c.args.resource.now row es (Ok copy)) (sym none)
    (ap (λ r. Ok r) (own_bytes c.args.resource.now copy c.as_slice.result.now c.in_ok-with_bytes-in-None.ensures c.as_slice.ensures))

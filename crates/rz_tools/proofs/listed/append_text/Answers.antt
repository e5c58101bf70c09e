use Rattle.std.proofs.Common.{◌≡◌, ◌+◌, ◌++◌, ◌∙◌, ℕ, List, [], ◌∷◌, drop, sym, ap, subst, append_assoc}
use Rattle.std.proofs.lemmas.List.{drop_more}
use Rattle.rz_catalog_text.specs.declared.entry.Entry.{Entry}
use Rattle.rz_catalog_text.specs.Text.{entries_text}
use Rattle.rz_tools.proofs.listed.append_text.Goals as goal

pub loop-entry-preserved : goal.loop-entry-preserved
loop-entry-preserved c =
    let items = c.as_slice-entry-items.result.now in
    let i = c.loop-entry.entry-index in
    let here : drop i items ≡ c.entry-item.result ∷ drop (i + 1) items = drop_more items i c.entry-item.result c.loop-entry-test.true ∙ ap (λ (e : Entry). e ∷ drop (i + 1) items) (sym c.entry-item.is) in
    let own : drop i c.args.entries.now ≡ c.entry-item.result ∷ drop (i + 1) c.args.entries.now = subst (λ (es : List Entry). drop i es ≡ c.entry-item.result ∷ drop (i + 1) es) c.as_slice-entry-items.ensures here in
    ap (λ (t : List ℕ). t ++ entries_text (drop (i + 1) c.args.entries.now)) c.in_ok-write_entry.ensures.ok
    ∙ append_assoc c.loop-entry.text (entries_text (c.entry-item.result ∷ [])) (entries_text (drop (i + 1) c.args.entries.now))
    ∙ ap (λ (t : List ℕ). c.loop-entry.text ++ t) (sym (c.entries_go_on.ensures (c.entry-item.result ∷ []) (drop (i + 1) c.args.entries.now)))
    ∙ ap (λ (es : List Entry). c.loop-entry.text ++ entries_text es) (sym own)
    ∙ c.loop-entry.invariant

use Rattle.std.proofs.Common.{List, ℕ, ◌++◌, sym, ap, ◌∙◌}
use Rattle.rz_catalog_text.specs.Text.{head_text, pieces_text}
use Rattle.rz_catalog_text.proofs.Lines.{entry_text}
use Rattle.rz_catalog_text.proofs.write.write_entry.Goals as goal

pub returns-clause-ok : goal.returns-clause-ok
returns-clause-ok c =
    let entry = c.args.entry.now in
    let head = c.in_ok-append_head.ensures ∙ ap (λ (x : List ℕ). x ++ head_text entry) c.new-text.ensures in
    c.in_ok-append.ensures.ok
    ∙ ap (λ (x : List ℕ). c.args.into.now ++ x)
    (c.as_slice-2.ensures ∙ c.in_ok-append_pieces.ensures ∙ (λ j. head j ++ pieces_text (c.as_slice.ensures j)) ∙ sym (entry_text entry))

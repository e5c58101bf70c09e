use Rattle.std.proofs.Common.{None, Some, List, sym, ap, subst, ◌∙◌}
use Rattle.std.proofs.lemmas.List.{nil_from_length}
use Rattle.rz_catalog_text.specs.Entries.{bad_entry, chunks}
use Rattle.rz_catalog_text.specs.declared.entry.Entry.{Entry}
use Rattle.rz_catalog_text.proofs.Decides.{decided}
use Rattle.rz_catalog_text.proofs.Chunks.{all_read, cut_off, none_before, one_more, refused, AreFirst}
use Rattle.rz_catalog_text.proofs.read.read_entries.Goals as goal

pub chunks-init : goal.chunks-init
chunks-init c = rw (c.new-entries.ensures, c.as_slice-rest.ensures) (none_before c.args.tokens.now)

pub returns-in-None : goal.returns-in-None
returns-in-None c =
    let chunk = c.split_at.result.0.now in
    let behind = c.split_at.result.1.now in
    let cut = cut_off c.chunks.rest.now c.in-Some.first.now c.in-Some.field-0-1.now c.chunk_size.result chunk behind c.in-Some.ensures.cases.0 c.chunk_size.ensures.size c.split_at.ensures.front c.split_at.ensures.back in
    refused c.args.tokens.now c.chunks.entries c.chunks.rest.now c.chunks.invariant chunk (chunks behind) c.bad_entry.result cut.0
    (decided c.one_sign.ensures c.in-Some.first.now.mark chunk cut.1 None (sym c.in-None.is ∙ c.in_ok-entry.ensures), c.bad_entry.ensures ∙ ap bad_entry (sym cut.1))

pub chunks-preserved : goal.chunks-preserved
chunks-preserved c =
    let chunk = c.split_at.result.0.now in
    let behind = c.split_at.result.1.now in
    let cut = cut_off c.chunks.rest.now c.in-Some.first.now c.in-Some.field-0-1.now c.chunk_size.result chunk behind c.in-Some.ensures.cases.0 c.chunk_size.ensures.size c.split_at.ensures.front c.split_at.ensures.back in
    subst (λ (entries : List Entry). AreFirst c.args.tokens.now entries behind) (sym c.in_ok-push-in-Some-2.ensures.ok)
    (one_more c.args.tokens.now c.chunks.entries c.chunks.rest.now c.chunks.invariant chunk behind c.in-Some-2.entry cut.0
    (decided c.one_sign.ensures c.in-Some.first.now.mark chunk cut.1 (Some c.in-Some-2.entry) (sym c.in-Some-2.is ∙ c.in_ok-entry.ensures)))

pub returns : goal.returns
returns c = all_read c.args.tokens.now c.chunks.entries c.chunks.rest.now c.chunks.invariant (nil_from_length c.chunks.rest.now c.in_default.ensures.cases)

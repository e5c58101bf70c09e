use Rattle.std.proofs.Common.{rules, ℕ, ◌+◌, ◌<◌, List, length, sym, ap, subst, ◌∙◌}
use Rattle.std.specs.Prelude.{IsUtf8}
use Rattle.std.specs.Str.Lossy.{utf8_valid_len}
use Rattle.rz_pre_source.specs.Source.{Spells}
use Rattle.rz_pre_source.proofs.Turned.{turned_stops}
use Rattle.rz_pre_source.proofs.source.turn.Goals as goal

pub returns-else-is_empty-clause-bad : goal.returns-else-is_empty-clause-bad
returns-else-is_empty-clause-bad c =
    let step = c.in-Some.ensures.steps in
    let some : 0 < length c.in-Some.chunk.invalid.now = search rules in
    turned_stops c.args.text.now c.in-Some.chunk.valid.now c.in-Some.chunk.invalid.now c.next.new.self.rest.now c.in_ok-bytes-in-Some.bytes c.bad_at.result.offset
    (sym c.utf8_chunks.ensures.rest ∙ step.0)
    (subst IsUtf8 c.valid.ensures c.valid.utf8)
    (step.3.0 ∙ ap utf8_valid_len c.utf8_chunks.ensures.rest)
    some
    (subst (λ (l : List ℕ). Spells l c.in_ok-bytes-in-Some.bytes) c.valid.ensures c.in_ok-bytes-in-Some.ensures.text)
    (c.bad_at.ensures ∙ ap (λ (l : List ℕ). 3 + length l) c.valid-else-is_empty.ensures)

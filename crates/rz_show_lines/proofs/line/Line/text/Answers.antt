use Rattle.std.proofs.Common.{ℕ, ◌+◌, List, [], ◌∷◌, ◌++◌, drop, get_or, sym, ap, ◌∙◌, append_assoc}
use Rattle.std.specs.List.{flat_map}
use Rattle.rz_core.specs.Quoted.{shown_byte}
use Rattle.rz_show_lines.specs.Cut.{cut}
use Rattle.rz_show_lines.proofs.Writes.{go_on, next_is}
use Rattle.rz_show_lines.proofs.line.Line.text.Goals as goal

pub loop-byte-preserved : goal.loop-byte-preserved
loop-byte-preserved c =
    let bytes = c.args.bytes.now in
    let i = c.loop-byte.byte-index in
    let one = shown_byte 34 (get_or bytes i 0) in
    let rest = flat_map (shown_byte 34) (drop (i + 1) bytes) in
    go_on c.loop-byte.self c.shown.new.self one (rest ++ 34 ∷ []) _ c.shown.ensures
    (ap (λ (r : List ℕ). cut (c.loop-byte.self ++ r)) (sym (append_assoc one rest (34 ∷ [])))
    ∙ ap (λ (r : List ℕ). cut (c.loop-byte.self ++ (flat_map (shown_byte 34) r ++ 34 ∷ []))) (sym (next_is bytes i c.loop-byte-test.true))
    ∙ c.loop-byte.invariant)

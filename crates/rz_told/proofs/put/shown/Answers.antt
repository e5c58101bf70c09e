use Rattle.std.proofs.Common.{ℕ, ◌+◌, List, [], ◌++◌, drop, get_or, refl, sym, ap, ◌∙◌, append_assoc, arith}
use Rattle.std.specs.List.{flat_map}
use Rattle.rz_core.specs.Quoted.{shown_byte}
use Rattle.rz_show_lines.specs.Cut.{cut}
use Rattle.rz_show_lines.proofs.Writes.{cut_again, cut_short, next_is}
use Rattle.rz_told.proofs.Parted.{all_shown}
use Rattle.rz_told.proofs.Sizes.{shown_size}
use Rattle.rz_told.proofs.put.shown.Goals as goal

pub loop-byte-init : goal.loop-byte-init
loop-byte-init c = ([], c.new-line.ensures ∙ sym (cut_short [] (omega arith)), refl)

pub loop-byte-preserved : goal.loop-byte-preserved
loop-byte-preserved c =
    let bytes = c.args.piece.now in
    let i = c.loop-byte.byte-index in
    let front = c.loop-byte.invariant.0 in
    let one = shown_byte 34 (get_or bytes i 0) in
    let rest = flat_map (shown_byte 34) (drop (i + 1) bytes) in (
      front ++ one,
      c.shown.ensures ∙ ap (λ (l : List ℕ). cut (l ++ one)) c.loop-byte.invariant.1 ∙ cut_again front one,
      append_assoc front one rest ∙ ap (λ (r : List ℕ). front ++ flat_map (shown_byte 34) r) (sym (next_is bytes i c.loop-byte-test.true)) ∙ c.loop-byte.invariant.2,
    )

pub returns : goal.returns
returns c =
    let bytes = c.args.piece.now in
    let whole = all_shown c.loop-byte.invariant.0 bytes c.loop-byte.byte-index c.loop-byte-test.false c.loop-byte.invariant.2 in
    c.loop-byte.invariant.1 ∙ ap cut whole ∙ cut_short (flat_map (shown_byte 34) bytes) (shown_size bytes c.requires)

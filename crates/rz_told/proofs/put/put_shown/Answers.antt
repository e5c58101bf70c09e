use Rattle.std.proofs.Common.{ℕ, List, [], ◌++◌, refl, sym, ap, ◌∙◌, append_assoc, append-nil}
use Rattle.std.specs.List.{flat_map}
use Rattle.rz_core.specs.Quoted.{shown_byte}
use Rattle.rz_told.proofs.Putting.{puts_as, puts_end, puts_nothing, puts_stop, puts_then}
use Rattle.rz_told.proofs.Parted.{none_left, shown_all, shown_on}
use Rattle.rz_told.proofs.put.put_shown.Goals as goal

pub pieces-init : goal.pieces-init
pieces-init g c = ([], refl, puts_nothing g.O.Sink c.args.out.now)

pub pieces-preserved : goal.pieces-preserved
pieces-preserved g c =
    let front = c.pieces.invariant.0 in
    let piece = c.split_at.result.0.now in
    let behind = c.split_at.result.1.now in (
      front ++ piece,
      c.pieces.invariant.1 ∙ ap (λ (l : List ℕ). front ++ l) c.split_at.ensures.by_index.0 ∙ sym (append_assoc front piece behind),
      puts_as g.O.Sink _ (shown_on front piece) (puts_then g.O.Sink _ c.pieces.invariant.2 (rw c.shown.ensures at c.in_ok-put_line.ensures)),
    )

pub returns : goal.returns
returns g c =
    let front = c.pieces.invariant.0 in
    puts_as g.O.Sink _ (ap (flat_map (shown_byte 34)) (sym (c.pieces.invariant.1 ∙ ap (λ (l : List ℕ). front ++ l) (none_left c.pieces.left.now (sym c.is_empty.ensures ∙ c.pieces-test.false)) ∙ append-nil front))) c.pieces.invariant.2

pub returns-in_err-put_line : goal.returns-in_err-put_line
returns-in_err-put_line g c =
    let front = c.pieces.invariant.0 in
    puts_as g.O.Sink _
    (shown_all front c.split_at.result.0.now c.split_at.result.1.now ∙ ap (flat_map (shown_byte 34)) (sym (c.pieces.invariant.1 ∙ ap (λ (l : List ℕ). front ++ l) c.split_at.ensures.by_index.0)))
    (puts_end g.O.Sink c.from_residual.result c.from_residual.ensures.1
    (puts_then g.O.Sink _ c.pieces.invariant.2 (puts_stop g.O.Sink _ (rw c.shown.ensures at c.in_err-put_line.ensures))))

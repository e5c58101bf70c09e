use Rattle.std.proofs.Common.{◌≡◌, ℕ, ◌+◌, ◌≤◌, List, ◌++◌, length, take, true, false, sym, ap, ◌∙◌, arith, length-take, Ok, Err}
use Rattle.std.specs.Prelude.{◌↔◌, min, IsOk, OnOk}
use Rattle.std.specs.declared.result.Result.{Result}
use Rattle.rz_show_lines.specs.Cut.{cut}
use Rattle.rz_show_lines.proofs.Writes.{cut_part}
use Rattle.rz_show_lines.proofs.line.Line.append.Goals as goal

appended : {X Y : Type 0} (result : Result X Y) (old new bytes front : List ℕ) (room : ℕ) → room + length old ≡ 512 → front ≡ take (min room (length bytes)) bytes
    → length front ≤ room → IsOk result ↔ (length old + length front ≤ 512) → OnOk result (new ≡ old ++ front) → new ≡ cut (old ++ bytes)
appended (Ok x) old new bytes front room is front-is short variant ok = ok ∙ ap (λ (r : List ℕ). old ++ r) front-is ∙ sym (cut_part old bytes room is)
appended (Err y) old new bytes front room is front-is short variant ok = let none : false ≡ true = variant.1 (omega (arith, is, short)) in cc

pub returns : goal.returns
returns c =
    let room = c.remaining_capacity-room.result in
    let is : room + length c.self.inside.bytes.items ≡ 512 = c.remaining_capacity-room.ensures in
    let short : length (take c.min.result c.args.bytes.now) ≤ room = omega (arith, length-take c.min.result c.args.bytes.now, c.min.ensures) in
    appended c.try_extend_from_slice.result c.self.inside.bytes.items c.try_extend_from_slice.new.self.items c.args.bytes.now (take c.min.result c.args.bytes.now) room is
    (ap (λ (n : ℕ). take n c.args.bytes.now) c.min.ensures) short c.try_extend_from_slice.ensures.variant c.try_extend_from_slice.ensures.ok
    ∙ ap (λ (r : List ℕ). cut (r ++ c.args.bytes.now)) c.self.view_is

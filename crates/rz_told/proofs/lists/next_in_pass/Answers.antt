use Rattle.std.proofs.Common.{◌≡◌, ◌≤◌, [], sym, arith}
use Rattle.rz_told.specs.Left.{left_here}
use Rattle.rz_told.specs.declared.lists.Cursor.{Cursor}
use Rattle.rz_told.proofs.Onward.{nothing_here, ends_some, ends_with}
use Rattle.rz_told.proofs.lists.next_in_pass.Goals.{then-is_some-via-then-is_some, then-is_some-via-else-is_some+then-cursor-outline}
use Rattle.rz_told.proofs.lists.next_in_pass.Goals as goal

pub returns-then-is_some-clause-none : goal.returns-then-is_some-clause-none
returns-then-is_some-clause-none c =
    let b = c.args.bytes.now in
    let o = c.args.outline in
    let at = c.loop-pass.cursor in
    let fault = c.next_reference-fault in
    let on : Cursor = record { entry = at.entry; next = fault.new.next; begun = at.begun; so_far = at.so_far } in
    elim c.then-is_some.branch [
      | then-is_some-via-then-is_some w ↦ ends_some fault.result (left_here c.args.pass b o on ≡ []) (sym w.if-is_some.ensures)
      | then-is_some-via-else-is_some+then-cursor-outline w ↦
          ends_with fault.result (left_here c.args.pass b o on ≡ []) (at.entry.count ≤ fault.new.next) fault.ensures.all
          (λ past. nothing_here c.args.pass b o on past (omega arith))
    ]

use Rattle.std.proofs.Common.{rules, ◌≡◌, ◌<◌, length, ap, arith}
use Rattle.rz_core.specs.Lists.{unless_fault}
use Rattle.rz_fork.specs.Contents.{contents}
use Rattle.rz_fork.proofs.Breaking.{none_broken}
use Rattle.rz_fork.proofs.Lending.{admitted_lent, has_room, nothing_lent}
use Rattle.rz_fork.proofs.view.ForkView.admit.Goals as goal

pub invariant_of-result : goal.invariant_of-result
invariant_of-result c =
    let empty : length c.args.bytes.now ≡ 0 = search rules in (nothing_lent c.args.bytes.now empty, omega (arith, c.requires.short))

pub returns-then-is_empty-clause-ok : goal.returns-then-is_empty-clause-ok
returns-then-is_empty-clause-ok c =
    let empty : length c.args.bytes.now ≡ 0 = search rules in ap (λ broken. unless_fault broken (contents c.args.bytes.now)) (none_broken c.args.bytes.now empty)

pub returns-then-is_empty-clause-keys : goal.returns-then-is_empty-clause-keys
returns-then-is_empty-clause-keys c =
    let empty : length c.args.bytes.now ≡ 0 = search rules in (nothing_lent c.args.bytes.now empty).keys

pub returns-then-is_empty-clause-bytes : goal.returns-then-is_empty-clause-bytes
returns-then-is_empty-clause-bytes c =
    let empty : length c.args.bytes.now ≡ 0 = search rules in (nothing_lent c.args.bytes.now empty).fits

pub returns-then-is_empty-clause-room : goal.returns-then-is_empty-clause-room
returns-then-is_empty-clause-room c = has_room c.args.bytes.now

pub invariant_of-result-2 : goal.invariant_of-result-2
invariant_of-result-2 c =
    let some : 0 < length c.args.bytes.now = search rules in (
      admitted_lent c.args.bytes.now c.in_ok-outline.outline c.reference_count.result (λ i. omega (arith, c.type_inv.bytes i)) some c.in_ok-outline.ensures.admitted c.reference_count.ensures,
      omega (arith, c.requires.short),
    )

pub returns-clause-keys : goal.returns-clause-keys
returns-clause-keys c =
    let some : 0 < length c.args.bytes.now = search rules in
    (admitted_lent c.args.bytes.now c.in_ok-outline.outline c.reference_count.result (λ i. omega (arith, c.type_inv.bytes i)) some c.in_ok-outline.ensures.admitted c.reference_count.ensures).keys

pub returns-clause-bytes : goal.returns-clause-bytes
returns-clause-bytes c =
    let some : 0 < length c.args.bytes.now = search rules in
    (admitted_lent c.args.bytes.now c.in_ok-outline.outline c.reference_count.result (λ i. omega (arith, c.type_inv.bytes i)) some c.in_ok-outline.ensures.admitted c.reference_count.ensures).fits

pub returns-clause-room : goal.returns-clause-room
returns-clause-room c = has_room c.args.bytes.now

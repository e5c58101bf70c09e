use Rattle.std.proofs.Common.{◌≡◌, ℕ, List, length, ap, ◌∙◌, arith, length-append}
use Rattle.rz_bridge.specs.Apple.{Part, part_shown}
use Rattle.rz_bridge.specs.declared.apple_out.PartRef.{PartRef}
use Rattle.rz_bridge.proofs.Again.{length-dates_bytes, length-finder_bytes}
use Rattle.rz_bridge.proofs.apple_out.write_image.Goals as goal

length_is : (p : PartRef) (id : ℕ) (bytes : List ℕ) → part_shown p ≡ record { id = id; bytes = bytes } → length p.bytes.now ≡ length bytes
length_is p id bytes is = ap (λ (q : Part). length q.bytes) is

pub append_named-requires-clause-small : goal.append_named-requires-clause-small
append_named-requires-clause-small c =
    let name = length_is c.lent-name.result 3 c.piece_at.result.now c.lent-name.ensures in
    let dates = length_is c.lent-dates.result 8 c.as_slice-2.result.now c.lent-dates.ensures ∙ ap length (c.as_slice-2.ensures ∙ c.in_ok-dates.ensures.bytes) ∙ length-dates_bytes c.args.file.now in
    let info = length_is c.lent-info.result 9 c.as_slice-3.result.now c.lent-info.ensures ∙ ap length (c.as_slice-3.ensures ∙ c.in_ok-info.ensures) ∙ length-finder_bytes c.args.file.now.finder c.finder_is_stored.ensures.extra in
    let fork = length_is c.lent-fork.result 2 c.as_slice-5.result.now c.lent-fork.ensures ∙ ap length c.as_slice-5.ensures in
    omega (arith, length-append {A = ℕ}, name, c.piece_at.ensures.most, dates, info, fork, c.requires.res_fork)

pub append_named-requires-in-Single-clause-small : goal.append_named-requires-in-Single-clause-small
append_named-requires-in-Single-clause-small c =
    let name = length_is c.lent-name.result 3 c.piece_at.result.now c.lent-name.ensures in
    let dates = length_is c.lent-dates.result 8 c.as_slice-2.result.now c.lent-dates.ensures ∙ ap length (c.as_slice-2.ensures ∙ c.in_ok-dates.ensures.bytes) ∙ length-dates_bytes c.args.file.now in
    let info = length_is c.lent-info.result 9 c.as_slice-3.result.now c.lent-info.ensures ∙ ap length (c.as_slice-3.ensures ∙ c.in_ok-info.ensures) ∙ length-finder_bytes c.args.file.now.finder c.finder_is_stored.ensures.extra in
    let data_fork = length_is c.lent-data.result 1 c.as_slice-4.result.now c.lent-data.ensures ∙ ap length c.as_slice-4.ensures in
    let fork = length_is c.lent-fork.result 2 c.as_slice-5.result.now c.lent-fork.ensures ∙ ap length c.as_slice-5.ensures in
    omega (arith, length-append {A = ℕ}, name, c.piece_at.ensures.most, dates, info, data_fork, fork, c.requires.data_fork, c.requires.res_fork)

use Rattle.std.proofs.Common.{◌+◌, ◌≤◌, ℕ, rules, w32, Bool, List, Result, Ok, length, sym, ap, subst, ◌∙◌}
use Rattle.std.specs.Prelude.{nat_abs}
use Rattle.std.specs.Int.RustNames.{FitsSigned}
use Rattle.std.proofs.lemmas.Int.{to_z-of_z}
use Rattle.rz_core.specs.Stop.{◌>>=◌}
use Rattle.rz_bits.specs.Bits.{number_bits}
use Rattle.rz_types_fields.specs.Laid.{patched, Refusal}
use Rattle.rz_layout.proofs.Fills.{patched_is, patched_long}
use Rattle.rz_layout.proofs.Room.{length_number}
use Rattle.rz_layout.proofs.fill.fill_number.Goals as goal

fine : List Bool → Result (List Bool) Refusal
fine bits = Ok bits

pub returns-in-Ok-clause-filled : goal.returns-in-Ok-clause-filled
unfolding fine
returns-in-Ok-clause-filled c =
    let at = c.args.number.now.at in
    let width = c.args.number.now.width in
    let wide : FitsSigned w32 c.args.number.now.width = search rules in
    ap (λ (r : Result (List Bool) Refusal). r >>= λ own. Ok (patched at own c.args.bits.now)) (sym c.in-Ok.ensures)
    ∙ ap fine (patched_is at (nat_abs width) _ c.in-Ok.value c.args.bits.now c.patch.new.self (ap nat_abs (to_z-of_z w32 c.args.number.now.width wide)) c.patch.ensures)

pub returns-in-Ok-clause-length : goal.returns-in-Ok-clause-length
returns-in-Ok-clause-length c =
    let at = c.args.number.now.at in
    let width = c.args.number.now.width in
    let wide : FitsSigned w32 c.args.number.now.width = search rules in
    ap length (sym (patched_is at (nat_abs width) _ c.in-Ok.value c.args.bits.now c.patch.new.self (ap nat_abs (to_z-of_z w32 c.args.number.now.width wide)) c.patch.ensures))
    ∙ patched_long at (number_bits (nat_abs width) c.in-Ok.value) c.args.bits.now
    (subst (λ (n : ℕ). at + n ≤ length c.args.bits.now) (sym (length_number (nat_abs width) c.in-Ok.value)) c.requires.within.stands)

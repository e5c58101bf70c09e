use Rattle.std.proofs.Common.{◌≡◌, ◌+◌, ◌-◌, ◌*◌, ◌/◌, length, drop}
use Rattle.std.specs.Prelude.{option_and_then, option_map}
use Rattle.rz_bits.specs.Bits.{front_bytes}
use Rattle.rz_bits.specs.View.{bytes_at, seen}
use Rattle.rz_unlay_texts.specs.Plain.{up_to_zero}
use Rattle.rz_unlay_texts.proofs.TextSteps.{zero_count}
use Rattle.rz_unlay_texts.proofs.text.bytes_to_zero.Given as goal

abbrev pub invariant-loop-count : goal.invariant-loop-count
invariant-loop-count l =
    zero_count l.count (up_to_zero (front_bytes (l.most - l.count) (drop (l.at + 8 * l.count) (seen l.view))))
    ≡ option_and_then (λ bytes. option_map (λ front. length front + 1) (up_to_zero bytes)) (bytes_at (seen l.view) l.at ((length (seen l.view) - l.at) / 8))

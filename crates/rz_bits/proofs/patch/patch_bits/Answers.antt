use Rattle.std.proofs.Common.{◌≡◌, ℕ, ◌+◌, ◌-◌, ◌*◌, ◌/◌, ◌%◌, ◌≤◌, List, ◌++◌, length, take, drop, refl, sym, ap, subst, ◌∙◌, arith}
use Rattle.std.proofs.lemmas.List.{length-take-le, length-drop}
use Rattle.std.specs.Int.{bytes_high_first}
use Rattle.rz_bits.specs.Bits.{bits_of, number_bits}
use Rattle.rz_bits.specs.Patch.{patched}
use Rattle.rz_bits.proofs.Bytes.{bits_of-number}
use Rattle.rz_bits.proofs.Held.{last_of_eight}
use Rattle.rz_bits.proofs.Patched.{written}
use Rattle.rz_bits.proofs.Windows.{gathered_fits}
use Rattle.rz_bits.proofs.patch.patch_bits.Goals as goal

pub patched-requires-clause-number : goal.patched-requires-clause-number
patched-requires-clause-number c =
    let first : ℕ = c.args.place / 8 in
    let size : ℕ = (c.args.place % 8 + c.args.width + 7) / 8 in
    let window : List ℕ = take (first + size - first) (drop first c.args.bytes.now) in
    let few : length window ≤ 5 =
    (let l = length-take-le (first + size - first) (drop first c.args.bytes.now) (let d = length-drop first c.args.bytes.now in omega (arith, d, c.requires.within)) in omega (arith, l, c.requires.width)) in
    gathered_fits (length window) c.gathered-number.result few c.gathered-number.ensures.small

pub returns-clause-bits : goal.returns-clause-bits
returns-clause-bits c =
    let bytes = c.args.bytes.now in
    let first : ℕ = c.args.place / 8 in
    let size : ℕ = (c.args.place % 8 + c.args.width + 7) / 8 in
    let behind : ℕ = 8 * size - c.args.place % 8 - c.args.width in
    let number = c.gathered-number.result in
    let e : first + size - first ≡ size = omega arith in
    let within : first + size ≤ length bytes = omega (arith, c.requires.within) in
    let long : length (take size (drop first bytes)) ≡ size = length-take-le size (drop first bytes) (let d = length-drop first bytes in omega (arith, d, within)) in
    let so : number_bits (8 * size) number ≡ bits_of (take size (drop first bytes)) =
    ap (λ (n : ℕ). number_bits (8 * n) number) (sym long)
    ∙ subst (λ (n : ℕ). number_bits (8 * length (take n (drop first bytes))) number ≡ bits_of (take n (drop first bytes))) e c.gathered-number.ensures.bits in
    let piece : c.copy_from_slice.new.self ≡ bytes_high_first size (patched number behind c.args.width c.args.value) =
    c.copy_from_slice.ensures.after
    ∙ last_of_eight size c.patched.result c.to_be_bytes-made.result (omega (arith, c.requires.width)) c.to_be_bytes-made.ensures
    ∙ ap (bytes_high_first size) c.patched.ensures in
    let made : bits_of c.copy_from_slice.new.self ≡ number_bits (8 * size) (patched number behind c.args.width c.args.value) =
    ap bits_of piece ∙ bits_of-number size (patched number behind c.args.width c.args.value) in
    ap (λ (n : ℕ). bits_of (take first bytes ++ (c.copy_from_slice.new.self ++ drop n (drop first bytes)))) e
    ∙ written bytes c.copy_from_slice.new.self c.args.place c.args.width c.args.value size number c.requires.within refl so made

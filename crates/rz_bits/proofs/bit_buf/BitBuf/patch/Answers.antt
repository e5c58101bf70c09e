use Rattle.std.proofs.Common.{◌≡◌, ℕ, ◌+◌, ◌≤◌, Bool, List, ◌++◌, length, take, drop, ap, subst, sym, ◌∙◌, arith}
use Rattle.std.proofs.lemmas.List.{take_at}
use Rattle.rz_bits.proofs.Held.{held_size}
use Rattle.rz_bits.proofs.Numbers.{length-number_bits}
use Rattle.rz_bits.proofs.Patched.{held_now, is_held}
use Rattle.rz_bits.specs.Bits.{bits_of, number_bits}
use Rattle.rz_bits.specs.Held.{held, IsHeld}
use Rattle.rz_bits.proofs.bit_buf.BitBuf.patch.Goals as goal

pub patch_bits-requires-clause-within : goal.patch_bits-requires-clause-within
patch_bits-requires-clause-within c =
    let n = held_size c.self.inside.bytes.items c.self.inside.count c.self.invariant in
    let same = ap length c.deref_mut.ensures.value in
    let view = ap length c.self.view_is in
    omega (arith, n, same, view, c.requires.within, c.self.invariant.there)

pub invariant_of-self : goal.invariant_of-self
invariant_of-self c =
    let items = c.self.inside.bytes.items in
    let made = c.patch_bits.new.bytes in
    let all = take_at made (drop (length made) items) c.self.inside.bytes.len (c.patch_bits.ensures.len ∙ c.deref_mut.ensures.len) in
    let view = ap length c.self.view_is in
    let there : c.args.place + c.args.width ≤ c.self.inside.count = omega (arith, view, c.requires.within, c.self.invariant.there) in
    let so = subst (λ (xs : List ℕ). bits_of made ≡ take c.args.place (bits_of xs) ++ (number_bits c.args.width c.args.value ++ drop (c.args.place + c.args.width) (bits_of xs)))
    c.deref_mut.ensures.value c.patch_bits.ensures.bits in
    subst (λ (xs : List ℕ). IsHeld xs c.self.inside.count) (sym all)
    (is_held items made c.self.inside.count c.args.place c.args.width (number_bits c.args.width c.args.value) c.self.invariant there (length-number_bits c.args.width c.args.value) so)

pub returns : goal.returns
returns c =
    let items = c.self.inside.bytes.items in
    let made = c.patch_bits.new.bytes in
    let all = take_at made (drop (length made) items) c.self.inside.bytes.len (c.patch_bits.ensures.len ∙ c.deref_mut.ensures.len) in
    let view = ap length c.self.view_is in
    let there : c.args.place + c.args.width ≤ c.self.inside.count = omega (arith, view, c.requires.within, c.self.invariant.there) in
    let so = subst (λ (xs : List ℕ). bits_of made ≡ take c.args.place (bits_of xs) ++ (number_bits c.args.width c.args.value ++ drop (c.args.place + c.args.width) (bits_of xs)))
    c.deref_mut.ensures.value c.patch_bits.ensures.bits in
    ap (λ (xs : List ℕ). held xs c.self.inside.count) all
    ∙ held_now items made c.self.inside.count c.args.place c.args.width (number_bits c.args.width c.args.value) c.self.invariant there (length-number_bits c.args.width c.args.value) so
    ∙ ap (λ (bs : List Bool). take c.args.place bs ++ (number_bits c.args.width c.args.value ++ drop (c.args.place + c.args.width) bs)) c.self.view_is

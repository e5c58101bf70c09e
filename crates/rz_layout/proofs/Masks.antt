-- Bits without those of late numbers.
use Rattle.std.proofs.Common.{◌≡◌, ℕ, zero, suc, ◌+◌, ◌≤◌, ℤ, pos, negsuc, Bool, true, false, List, [], ◌∷◌, ◌++◌, length, take, drop, replicate, Option, Some, None, refl, sym, ap, ◌∙◌, arith}
use Rattle.std.specs.Prelude.{if◌then◌else◌, nat_le, option_map}
use Rattle.std.specs.List.{list_any}
use Rattle.std.proofs.Math.Path.{fun_ext}
use Rattle.std.proofs.lemmas.List.{length-replicate, length-take-le, take_all}
use Rattle.rz_core.proofs.Tests.{or_false}
use Rattle.rz_core.specs.declared.facts.Facts.{Facts}
use Rattle.rz_bits.specs.Bits.{number_of}
use Rattle.rz_expr.specs.Environment.{Environment}
use Rattle.rz_types_fields.specs.Sees.{bits_before, hit, sees, Late}
use Rattle.rz_types_fields.specs.Value.{see}

-- zero bits in the place of those that are marked
abbrev pub masked : Late → List Bool → List Bool
masked [] bits = bits
masked (mark ∷ marks) [] = []
masked (mark ∷ marks) (bit ∷ bits) = (if mark then false else bit) ∷ masked marks bits

pub masked-append : (marks more bits others : List Bool) → length marks ≡ length bits → masked (marks ++ more) (bits ++ others) ≡ masked marks bits ++ masked more others
masked-append [] more [] others same = refl
masked-append [] more (bit ∷ bits) others same = absurd (omega (arith, same))
masked-append (mark ∷ marks) more [] others same = absurd (omega (arith, same))
masked-append (mark ∷ marks) more (bit ∷ bits) others same =
    let so : length marks ≡ length bits = omega (arith, same) in ap (λ (r : List Bool). (if mark then false else bit) ∷ r) (masked-append marks more bits others so)

pub masked_none : (bits : List Bool) → masked (replicate (length bits) false) bits ≡ bits
masked_none [] = refl
masked_none (bit ∷ bits) = ap (λ (r : List Bool). bit ∷ r) (masked_none bits)

pub masked_all : (bits : List Bool) → masked (replicate (length bits) true) bits ≡ replicate (length bits) false
masked_all [] = refl
masked_all (bit ∷ bits) = ap (λ (r : List Bool). false ∷ r) (masked_all bits)

masked_nil : (marks : Late) → masked marks [] ≡ []
masked_nil [] = refl
masked_nil (mark ∷ marks) = refl

pub length-masked : (marks bits : List Bool) → length (masked marks bits) ≡ length bits
length-masked [] bits = refl
length-masked (mark ∷ marks) [] = refl
length-masked (mark ∷ marks) (bit ∷ bits) = ap suc (length-masked marks bits)

take-masked : (n : ℕ) (marks bits : List Bool) → take n (masked marks bits) ≡ masked (take n marks) (take n bits)
take-masked zero marks bits = refl
take-masked (suc n) [] bits = refl
take-masked (suc n) (mark ∷ marks) [] = refl
take-masked (suc n) (mark ∷ marks) (bit ∷ bits) = ap (λ (r : List Bool). (if mark then false else bit) ∷ r) (take-masked n marks bits)

drop-masked : (n : ℕ) (marks bits : List Bool) → drop n (masked marks bits) ≡ masked (drop n marks) (drop n bits)
drop-masked zero marks bits = refl
drop-masked (suc n) [] bits = refl
drop-masked (suc n) (mark ∷ marks) [] = sym (masked_nil (drop n marks))
drop-masked (suc n) (mark ∷ marks) (bit ∷ bits) = drop-masked n marks bits

masked_same : (marks bits : List Bool) → list_any (λ mark. mark) marks ≡ false → masked marks bits ≡ bits
masked_same [] bits none = refl
masked_same (mark ∷ marks) [] none = refl
masked_same (mark ∷ marks) (bit ∷ bits) none =
    let each = or_false mark (list_any (λ mark. mark) marks) none in
    ap (λ (c : Bool). (if c then false else bit) ∷ masked marks bits) each.0 ∙ ap (λ (r : List Bool). bit ∷ r) (masked_same marks bits each.1)

-- bits that touch no late ones
cut_same : (late bits : List Bool) (first width : ℕ) → list_any (λ mark. mark) (take width (drop first late)) ≡ false → take width (drop first (masked late bits)) ≡ take width (drop first bits)
cut_same late bits first width none =
    ap (take width) (drop-masked first late bits) ∙ take-masked width (drop first late) (drop first bits) ∙ masked_same (take width (drop first late)) (take width (drop first bits)) none

abbrev window : List Bool → Bool → ℕ → ℕ → Option ℤ
window bits there first width = option_map (λ (number : ℕ). pos number) (option_map number_of (if there then Some (take width (drop first bits)) else None))

pub hidden_bits : (late all : List Bool) (at : ℕ) → at ≤ length all → (first width : ℤ)
    → (if hit late first width then None else bits_before (masked late (take at all)) at first width) ≡ (if hit late first width then None else bits_before all at first width)
hidden_bits late all at within (pos first) (pos width) = by (hit late (pos first) (pos width)) refl
  where
    front : List Bool
    front = take at all

    whole : take at (masked late (take at all)) ≡ masked late (take at all)
    whole = let long = length-masked late (take at all) in let size = length-take-le at all within in take_all at (masked late (take at all)) (omega (arith, long, size))

    by : (touched : Bool) → hit late (pos first) (pos width) ≡ touched
        → (if touched then None else bits_before (masked late (take at all)) at (pos first) (pos width)) ≡ (if touched then None else bits_before all at (pos first) (pos width))
    by true is = refl
    by false is =
        ap (λ (bits : List Bool). window bits (nat_le (first + width) (length bits)) first width) whole
        ∙ ap (λ (n : ℕ). window (masked late (take at all)) (nat_le (first + width) n) first width) (length-masked late (take at all))
        ∙ ap (λ (bits : List Bool). option_map (λ (number : ℕ). pos number) (option_map number_of (if nat_le (first + width) (length (take at all)) then Some bits else None))) (cut_same late (take at all) first width is)
hidden_bits late all at within (pos first) (negsuc width) = refl
hidden_bits late all at within (negsuc first) (pos width) = refl
hidden_bits late all at within (negsuc first) (negsuc width) = refl

-- bits before a place are those of the front
front_bits : (bits others : List Bool) (at : ℕ) → take at bits ≡ take at others → (first width : ℤ) → bits_before bits at first width ≡ bits_before others at first width
front_bits bits others at same (pos first) (pos width) = ap (λ (front : List Bool). window front (nat_le (first + width) (length front)) first width) same
front_bits bits others at same (pos first) (negsuc width) = refl
front_bits bits others at same (negsuc first) (pos width) = refl
front_bits bits others at same (negsuc first) (negsuc width) = refl

pub sees_front : (known : Facts) (bits others : List Bool) (names : Environment) (at : ℕ) → take at bits ≡ take at others → sees known bits names at ≡ sees known others names at
sees_front known bits others names at same = ap (λ (b : ℤ → ℤ → Option ℤ). see known b names) (fun_ext (λ first. fun_ext (λ width. front_bits bits others at same first width)))

-- one piece more
pub take-plus : (a n : ℕ) (bits : List Bool) → take (a + n) bits ≡ take a bits ++ take n (drop a bits)
take-plus zero n bits = ap (λ (k : ℕ). take k bits) (omega arith)
take-plus (suc a) n [] = take_all (suc a + n) [] (omega arith) ∙ sym (take_all n [] (omega arith))
take-plus (suc a) n (bit ∷ bits) = let next : suc a + n ≡ suc (a + n) = omega arith in ap (λ (k : ℕ). take k (bit ∷ bits)) next ∙ ap (λ (r : List Bool). bit ∷ r) (take-plus a n bits)

pub replicate-plus : (n k : ℕ) (mark : Bool) → replicate n mark ++ replicate k mark ≡ replicate (n + k) mark
replicate-plus zero k mark = let none : k ≡ zero + k = omega arith in ap (λ (m : ℕ). replicate m mark) none
replicate-plus (suc n) k mark = let next : suc (n + k) ≡ suc n + k = omega arith in ap (λ (r : List Bool). mark ∷ r) (replicate-plus n k mark) ∙ ap (λ (m : ℕ). replicate m mark) next

pub length-marks : (n : ℕ) (mark : Bool) → length (replicate n mark) ≡ n
length-marks n mark = length-replicate n mark

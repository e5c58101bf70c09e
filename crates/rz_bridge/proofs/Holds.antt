-- When the rules of MacBinary hold.
use Rattle.std.proofs.Common.{◌≡◌, ℕ, ◌+◌, ◌<◌, ◌≤◌, ◌==◌, ◌&&◌, ◌||◌, nat_lt, not, Bool, true, false, List, length, take, None, refl, ap, ◌∙◌}
use Rattle.std.proofs.lemmas.Bool.{eq-eqb, ltb-true, le-ltb}
use Rattle.rz_core.specs.declared.fault.Kept.TheVariants as kept
use Rattle.rz_bridge.specs.Check.{crc_of}
use Rattle.rz_bridge.specs.Faults.{fault, broken}
use Rattle.rz_core.specs.Numbers.{number}
use Rattle.rz_bridge.specs.MacBinary.{short_header, not_zero, below_129, newer_version, bad_crc, bad_length, truncated}
use Rattle.rz_bridge.specs.declared.fault.BridgeFault.{BridgeFault}

pub unbroken : (test : Bool) (given : BridgeFault) → test ≡ false → broken test given ≡ None
unbroken test given holds = ap (λ (t : Bool). broken t given) holds

pub long_holds : (bytes : List ℕ) → 128 ≤ length bytes → short_header bytes ≡ None
unfolding short_header
long_holds bytes long = unbroken (nat_lt (length bytes) 128) (fault 421 0 (length bytes)) (le-ltb (length bytes) 128 long)

pub zero_holds : (bytes : List ℕ) (place : ℕ) → number 1 bytes place ≡ 0 → not_zero bytes place ≡ None
unfolding not_zero
zero_holds bytes place is = ap (λ (byte : ℕ). broken (nat_lt 0 byte) (fault 422 place byte)) is

pub version_holds : (bytes : List ℕ) (place : ℕ) → 129 ≤ number 1 bytes place → below_129 bytes place ≡ None
unfolding below_129
version_holds bytes place most =
    unbroken (nat_lt (number 1 bytes place) 129) (fault 422 place (number 1 bytes place)) (le-ltb (number 1 bytes place) 129 most)

pub known_holds : (bytes : List ℕ) → number 1 bytes 123 ≡ 129 → newer_version bytes ≡ None
unfolding newer_version
known_holds bytes is = ap (λ (byte : ℕ). broken (nat_lt 129 byte) (fault 427 123 byte)) is

pub check_holds : (bytes : List ℕ) → number 2 bytes 124 ≡ crc_of 0 (take 124 bytes) → bad_crc bytes ≡ None
unfolding bad_crc
check_holds bytes is =
    let computed = crc_of 0 (take 124 bytes) in
    unbroken (not (number 2 bytes 124 == computed)) (record { number = 424; offset = 124; kept = kept.Check 0 (number 2 bytes 124) computed })
    (ap not (eq-eqb (number 2 bytes 124) computed is))

pub name_holds : (bytes : List ℕ) (count : ℕ) → number 1 bytes 1 ≡ count → 1 ≤ count → count ≤ 63 → bad_length bytes ≡ None
unfolding bad_length
name_holds bytes count is some most =
    ap (λ (byte : ℕ). broken (nat_lt byte 1 || nat_lt 63 byte) (fault 425 1 byte)) is
    ∙ unbroken (nat_lt count 1 || nat_lt 63 count) (fault 425 1 count) (λ i. le-ltb count 1 some i || le-ltb 63 count most i)

pub inside : (size place count : ℕ) → (0 < count → place + count ≤ size) → (nat_lt 0 count && nat_lt size (place + count)) ≡ false
inside size place count within = by_some (nat_lt 0 count) refl
  where
    by_some : (some : Bool) → nat_lt 0 count ≡ some → (nat_lt 0 count && nat_lt size (place + count)) ≡ false
    by_some true is = ap (λ (t : Bool). t && nat_lt size (place + count)) is ∙ le-ltb size (place + count) (within (ltb-true 0 count is))
    by_some false is = ap (λ (t : Bool). t && nat_lt size (place + count)) is

pub fork_holds : (bytes : List ℕ) (place count : ℕ) → (0 < count → place + count ≤ length bytes) → truncated bytes place count ≡ None
unfolding truncated
fork_holds bytes place count within =
    unbroken (nat_lt 0 count && nat_lt (length bytes) (place + count)) (fault 426 place count) (inside (length bytes) place count within)

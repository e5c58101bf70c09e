-- The forms of what is written, and of what the reader of MacBinary takes.
use Rattle.std.proofs.Common.{◌≡◌, ℕ, ◌==◌, ◌&&◌, ◌||◌, not, nat_eq, nat_lt, if◌then◌else◌, Bool, true, false, List, [], ◌∷◌, length, Option, Some, None, Ok, refl, arith}
use Rattle.std.proofs.lemmas.Bool.{eq-eqb, ne_eqb, ltb-false, le-leb}
use Rattle.std.specs.List.{starts_with}
use Rattle.rz_core.specs.Lists.{or_else, unless_fault}
use Rattle.rz_core.proofs.Tests.{or_false}
use Rattle.rz_core.specs.Numbers.{be, number}
use Rattle.rz_bridge.specs.Apple.{apple_start, apple_image}
use Rattle.rz_bridge.specs.Faults.{fault, broken}
use Rattle.rz_bridge.specs.MacBinary.{short_header, not_zero, below_129, newer_version, bad_crc, bad_length, header_torn, macbin_torn, macbin_fields, macbin_content}
use Rattle.rz_bridge.specs.declared.apple.AppleForm.TheVariants.{Double, Single}
use Rattle.rz_bridge.specs.declared.fault.BridgeFault.{BridgeFault}
use Rattle.rz_bridge.specs.declared.file.MacFile.{MacFile}
use Rattle.rz_hqx.specs.Text.{text_of}
use Rattle.rz_bridge_files.specs.Forms.{double_magic, single_magic, is_header, form_of}
use Rattle.rz_bridge_files.specs.declared.form.Form.TheVariants.{Raw, AppleDouble, AppleSingle, MacBinary, BinHex}

-- bytes that begin with some are not none
are_some : (bytes : List ℕ) (first : ℕ) (rest : List ℕ) → starts_with nat_eq bytes (first ∷ rest) ≡ true → (length bytes == 0) ≡ false
are_some [] first rest begins = absurd cc
are_some (b ∷ bs) first rest begins = ne_eqb (length (b ∷ bs)) 0 (omega arith)

pub double_found : (file : MacFile) → form_of (apple_image Double file) ≡ AppleDouble
unfolding apple_start be
double_found file =
    let some = are_some (apple_image Double file) 0 (5 ∷ 22 ∷ 7 ∷ []) refl in
    λ i. if some i then Raw else AppleDouble

pub single_found : (file : MacFile) → form_of (apple_image Single file) ≡ AppleSingle
unfolding apple_start be
single_found file =
    let some = are_some (apple_image Single file) 0 (5 ∷ 22 ∷ 0 ∷ []) refl in
    λ i. if some i then Raw else AppleSingle

pub hqx_found : (bytes : List ℕ) → form_of (text_of bytes) ≡ BinHex
unfolding number
hqx_found bytes =
    let some = are_some (text_of bytes) 40 [] refl in
    λ i. if some i then Raw else BinHex

-- Rules that aren't broken.

untrue : (test : Bool) (given : BridgeFault) → broken test given ≡ None → test ≡ false
untrue true given is = absurd cc
untrue false given is = refl

first_none : (first later : Option BridgeFault) → or_else first later ≡ None → (first ≡ None) × (later ≡ None)
first_none None later is = (refl, is)
first_none (Some given) later is = absurd cc

none_torn : (torn : Option BridgeFault) (value file : MacFile) → unless_fault torn value ≡ Ok file → torn ≡ None
none_torn None value file is = refl
none_torn (Some given) value file is = absurd cc

is_zero : (n : ℕ) → nat_lt 0 n ≡ false → (n == 0) ≡ true
is_zero n is = eq-eqb n 0 (omega (arith, ltb-false 0 n is))

-- what the rules say of the header
record IsTaken (bytes : List ℕ) : Type 0 where
  long : nat_lt (length bytes) 128 ≡ false
  first : nat_lt 0 (number 1 bytes 0) ≡ false
  middle : nat_lt 0 (number 1 bytes 74) ≡ false
  last : nat_lt 0 (number 1 bytes 82) ≡ false
  version : nat_lt (number 1 bytes 122) 129 ≡ false
  least : nat_lt (number 1 bytes 123) 129 ≡ false
  name : (nat_lt (number 1 bytes 1) 1 || nat_lt 63 (number 1 bytes 1)) ≡ false

header_untorn : (bytes : List ℕ) → macbin_torn bytes ≡ None → header_torn bytes ≡ None
unfolding macbin_torn
header_untorn bytes is = (first_none (header_torn bytes) _ is).0

taken : (bytes : List ℕ) → header_torn bytes ≡ None → IsTaken bytes
unfolding header_torn short_header not_zero below_129 bad_length
taken bytes is =
    let a = first_none (short_header bytes) _ is in
    let b = first_none (not_zero bytes 0) _ a.1 in
    let c = first_none (not_zero bytes 74) _ b.1 in
    let d = first_none (not_zero bytes 82) _ c.1 in
    let e = first_none (below_129 bytes 122) _ d.1 in
    let f = first_none (below_129 bytes 123) _ e.1 in
    let g = first_none (newer_version bytes) _ f.1 in
    let h = first_none (bad_crc bytes) _ g.1 in
    let j = first_none (bad_length bytes) _ h.1 in
    let count = number 1 bytes 1 in
    record {
      long = untrue (nat_lt (length bytes) 128) (fault 421 0 (length bytes)) a.0;
      first = untrue (nat_lt 0 (number 1 bytes 0)) (fault 422 0 (number 1 bytes 0)) b.0;
      middle = untrue (nat_lt 0 (number 1 bytes 74)) (fault 422 74 (number 1 bytes 74)) c.0;
      last = untrue (nat_lt 0 (number 1 bytes 82)) (fault 422 82 (number 1 bytes 82)) d.0;
      version = untrue (nat_lt (number 1 bytes 122) 129) (fault 422 122 (number 1 bytes 122)) e.0;
      least = untrue (nat_lt (number 1 bytes 123) 129) (fault 422 123 (number 1 bytes 123)) f.0;
      name = untrue (nat_lt count 1 || nat_lt 63 count) (fault 425 1 count) j.0;
    }

header_is : (bytes : List ℕ) → IsTaken bytes → is_header bytes ≡ true
header_is bytes is =
    let count = number 1 bytes 1 in
    let named = or_false (nat_lt count 1) (nat_lt 63 count) is.name in
    let some = le-leb 1 count (ltb-false count 1 named.0) in
    let few = le-leb count 63 (ltb-false 63 count named.1) in
    let middle = is_zero (number 1 bytes 74) is.middle in
    let last = is_zero (number 1 bytes 82) is.last in
    let version = le-leb 129 (number 1 bytes 122) (ltb-false (number 1 bytes 122) 129 is.version) in
    let least = le-leb 129 (number 1 bytes 123) (ltb-false (number 1 bytes 123) 129 is.least) in
    λ i. some i && few i && middle i && last i && version i && least i

found : (bytes : List ℕ) → IsTaken bytes → starts_with nat_eq bytes double_magic ≡ false → starts_with nat_eq bytes single_magic ≡ false
    → form_of bytes ≡ MacBinary
found bytes is double single =
    let long = ltb-false (length bytes) 128 is.long in
    let some : (length bytes == 0) ≡ false = ne_eqb (length bytes) 0 (omega arith) in
    let first = is_zero (number 1 bytes 0) is.first in
    let whole = le-leb 128 (length bytes) long in
    let header = header_is bytes is in
    λ i. if some i then Raw else if double i then AppleDouble else if single i then AppleSingle else if not (first i) then BinHex else if whole i && header i then MacBinary else Raw

pub macbin_found : (bytes : List ℕ) (file : MacFile) → macbin_content bytes ≡ Ok file → starts_with nat_eq bytes double_magic ≡ false
    → starts_with nat_eq bytes single_magic ≡ false → form_of bytes ≡ MacBinary
macbin_found bytes file content double single =
    found bytes (taken bytes (header_untorn bytes (none_torn (macbin_torn bytes) (macbin_fields bytes) file content))) double single

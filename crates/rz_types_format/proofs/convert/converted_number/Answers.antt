use Rattle.std.proofs.Common.{◌≡◌, ℕ, ℤ, pos, negsuc, nat_abs, false, List, [], ◌∷◌, ◌++◌, Some, refl, sym, ap, subst, ◌∙◌, arith, FitsSigned, of_z, to_z, w32, w64, ◌<◌}
use Rattle.std.proofs.lemmas.Bool.{lt-ltb}
use Rattle.std.proofs.lemmas.Int.{to_z-of_z}
use Rattle.std.specs.Fmt.{digits}
use Rattle.std.specs.Int.{FitsUnsignedBits}
use Rattle.rz_core.specs.Decimal.{decimal_of, signed_of}
use Rattle.rz_types_format.specs.Format.{byte_of, number_converted, unsigned_of}
use Rattle.rz_types_format.proofs.convert.converted_number.Goals as goal
use Rattle.rz_types_format.proofs.convert.converted_number.Goals.{in-100+in_ok-write_signed-in-100, in-117+in_ok-write_decimal-in-117, in-120+in_ok-write_hexadecimal-in-120, in-111+in_ok-write_octal-in-111, in-99+in-Ok+in_ok-push-in-Ok}

-- what is written after nothing
alone : (bytes into empty text : List ℕ) → bytes ≡ into → into ≡ empty ++ text → empty ≡ [] → bytes ≡ text
alone bytes into empty text same wrote none = same ∙ wrote ∙ ap (λ (front : List ℕ). front ++ text) none

-- each letter
signed : (letter : ℕ) (number : ℤ) (bytes : List ℕ) → letter ≡ 100 → bytes ≡ signed_of number → Some bytes ≡ number_converted letter number
signed letter number bytes is wrote = rw (is, wrote) refl

unsigned : (letter : ℕ) (number : ℤ) (bytes : List ℕ) → letter ≡ 117 → bytes ≡ decimal_of (unsigned_of number) → Some bytes ≡ number_converted letter number
unsigned letter number bytes is wrote = rw (is, wrote) refl

hexadecimal : (letter : ℕ) (number : ℤ) (bytes : List ℕ) → letter ≡ 120 → bytes ≡ digits 16 false (unsigned_of number) → Some bytes ≡ number_converted letter number
hexadecimal letter number bytes is wrote = rw (is, wrote) refl

octal : (letter : ℕ) (number : ℤ) (bytes : List ℕ) → letter ≡ 111 → bytes ≡ digits 8 false (unsigned_of number) → Some bytes ≡ number_converted letter number
octal letter number bytes is wrote = rw (is, wrote) refl

is_byte : (number : ℤ) (byte : ℕ) → FitsUnsignedBits 8 number → byte ≡ nat_abs number → Some (byte ∷ []) ≡ byte_of number
is_byte (pos n) byte fits is = let small : n < 256 = omega arith in rw (is, lt-ltb n 256 small) refl
is_byte (negsuc n) byte fits is = absurd fits

a_byte : (letter : ℕ) (number : ℤ) (bytes : List ℕ) (byte : ℕ) → letter ≡ 99 → FitsUnsignedBits 8 number → byte ≡ nat_abs number → bytes ≡ byte ∷ []
    → Some bytes ≡ number_converted letter number
a_byte letter number bytes byte is fits same wrote = rw (is, wrote) (is_byte number byte fits same)

-- a number of 32 bits is one of 64
wide : (number : ℤ) → FitsSigned w32 number → FitsSigned w64 number
wide (pos n) fits = record { sfits = omega (arith, fits.sfits) }
wide (negsuc n) fits = record { sfits = omega (arith, fits.sfits) }

pub returns : goal.returns
returns c =
    let none = c.new-bytes.ensures in
    let number : to_z w32 (of_z w32 c.args.number) ≡ c.args.number = to_z-of_z w32 c.args.number c.ranges.number in
    let stands = ap (λ (z : ℤ). unsigned_of z) number in
    elim c.match-letter.branch [
      | in-100+in_ok-write_signed-in-100 w ↦
          let from : w.from.result ≡ c.args.number = w.from.ensures ∙ number in
          let fits : FitsSigned w64 w.from.result = subst (FitsSigned w64) (sym from) (wide c.args.number c.ranges.number) in
          signed c.args.letter c.args.number c.match-letter.bytes w.in-100.is
          (alone _ _ _ _ w.bytes-is w.in_ok-write_signed-in-100.ensures.ok none ∙ ap (λ (z : ℤ). signed_of z) (to_z-of_z w64 w.from.result fits ∙ from))
      | in-117+in_ok-write_decimal-in-117 w ↦
          unsigned c.args.letter c.args.number c.match-letter.bytes w.in-117.is
          (alone _ _ _ _ w.bytes-is w.in_ok-write_decimal-in-117.ensures.ok none ∙ ap (λ (n : ℕ). decimal_of n) (w.from-in-117.ensures ∙ w.cast_unsigned.ensures ∙ stands))
      | in-120+in_ok-write_hexadecimal-in-120 w ↦
          hexadecimal c.args.letter c.args.number c.match-letter.bytes w.in-120.is
          (alone _ _ _ _ w.bytes-is w.in_ok-write_hexadecimal-in-120.ensures none ∙ ap (λ (n : ℕ). digits 16 false n) (w.cast_unsigned-in-120.ensures ∙ stands))
      | in-111+in_ok-write_octal-in-111 w ↦
          octal c.args.letter c.args.number c.match-letter.bytes w.in-111.is
          (alone _ _ _ _ w.bytes-is w.in_ok-write_octal-in-111.ensures none ∙ ap (λ (n : ℕ). digits 8 false n) (w.cast_unsigned-in-111.ensures ∙ stands))
      | in-99+in-Ok+in_ok-push-in-Ok w ↦
          a_byte c.args.letter c.args.number c.match-letter.bytes w.in-Ok.byte w.in-99.is (subst (FitsUnsignedBits 8) number w.in-Ok.ensures.0)
          (w.in-Ok.ensures.1 ∙ ap (λ (z : ℤ). nat_abs z) number) (alone _ _ _ _ w.bytes-is w.in_ok-push-in-Ok.ensures.ok none)
    ]

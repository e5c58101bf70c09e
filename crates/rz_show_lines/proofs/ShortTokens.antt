-- How many bytes tokens have as they are written.
use Rattle.std.proofs.Common.{◌≡◌, ℕ, suc, ◌+◌, ◌-◌, ◌*◌, ◌^◌, ◌<◌, ◌≤◌, pos, negsuc, Bool, true, false, List, [], ◌∷◌, ◌++◌, length, map, arith, length-append}
use Rattle.std.specs.Prelude.{nat_lt, ◌==◌, ◌||◌, ◌%◌}
use Rattle.std.specs.List.{flat_map, AllByRecursion}
use Rattle.std.proofs.lemmas.Fmt.{length-decimal-le}
use Rattle.std.proofs.Math.Pow.{pow_mono}
use Rattle.rz_core.proofs.Tests.{by_test}
use Rattle.rz_core.specs.Decimal.{decimal_of}
use Rattle.rz_core.specs.Lists.{with_front}
use Rattle.rz_core.specs.Quoted.{hex_byte, quoted, shown_byte}
use Rattle.rz_show_lines.specs.Print.{group_rest, group_written, piece_written, signed_number, signed_written}
use Rattle.rz_show_lines.specs.Written.{a_number, group_gap, grouped_byte, line_text, written_text, Written}

-- the bytes of tokens on a line
abbrev pub size : List Written → ℕ
size line = length (line_text line)

pub size_one : (one : Written) (line : List Written) → size (one ∷ line) ≡ length (written_text one) + size line
size_one one line = length-append (written_text one) (line_text line)

pub size_both : (xs ys : List Written) → size (xs ++ ys) ≡ size xs + size ys
size_both [] ys = omega arith
size_both (x ∷ xs) ys = omega (arith, size_one x (xs ++ ys), size_one x xs, size_both xs ys)

-- Numbers.

decimal_short : (n : ℕ) → n ≤ 2 ^ 32 → length (decimal_of n) ≤ 10
unfolding decimal_of
decimal_short n small = length-decimal-le 10 n (omega arith) (omega (arith, small)) (omega (arith, small))

pub positive_short : (n : ℕ) → n ≤ 2 ^ 32 → size (signed_written (pos n)) ≤ 11
positive_short n small = omega (arith, size_one (a_number n) [], decimal_short n small)

pub negative_short : (n : ℕ) → n < 2 ^ 32 → size (signed_written (negsuc n)) ≤ 11
negative_short n small = omega (arith, size_one (a_number (suc n)) [], decimal_short (suc n) (omega (arith, small)))

pub signed_short : (width n : ℕ) → width ≤ 32 → n < 2 ^ width → size (signed_written (signed_number width n)) ≤ 11
signed_short width n most below = by_test (size (signed_written (signed_number width n)) ≤ 11) (nat_lt n (2 ^ (width - 1)))
    (λ h. rw h (positive_short n (omega (arith, below, pow_mono {i = width} {j = 32} most))))
    (λ h. rw h (negative_short (2 ^ width - n - 1) (omega (arith, below, pow_mono {i = width} {j = 32} most))))

-- a point or a rectangle
group_more : (ns : List ℕ) → AllByRecursion (λ n. n < 65536) ns → size (group_rest (map (signed_number 16) ns)) ≤ 13 * length ns + 1
group_more [] each = omega arith
group_more (n ∷ ns) each =
    let number = signed_written (signed_number 16 n) in
    let rest = group_rest (map (signed_number 16) ns) in
    omega (arith, signed_short 16 n (omega arith) (omega (arith, each.0)), size_both number rest, group_more ns each.1)

pub group_short : (ns : List ℕ) → AllByRecursion (λ n. n < 65536) ns → size (group_written (map (signed_number 16) ns)) ≤ 13 * length ns + 2
group_short [] each = omega arith
group_short (n ∷ ns) each =
    let number = signed_written (signed_number 16 n) in
    let rest = group_rest (map (signed_number 16) ns) in
    omega (arith, signed_short 16 n (omega arith) (omega (arith, each.0)), size_both number rest, group_more ns each.1)

-- Texts.

byte_short : (quote byte : ℕ) → length (shown_byte quote byte) ≤ 5
byte_short quote byte = by_test (length (shown_byte quote byte) ≤ 5) (nat_lt byte 32 || nat_lt 126 byte)
    (λ h. rw h (omega arith))
    (λ h. by_test (length (shown_byte quote byte) ≤ 5) ((byte == quote) || (byte == 92)) (λ k. rw (h, k) (omega arith)) (λ k. rw (h, k) (omega arith)))

bytes_short : (quote : ℕ) (bytes : List ℕ) → length (flat_map (shown_byte quote) bytes) ≤ 5 * length bytes
bytes_short quote [] = omega arith
bytes_short quote (b ∷ bytes) =
    omega (arith, length-append (shown_byte quote b) (flat_map (shown_byte quote) bytes), byte_short quote b, bytes_short quote bytes)

pub quoted_short : (quote : ℕ) (bytes : List ℕ) → length (quoted quote bytes) ≤ 5 * length bytes + 2
quoted_short quote bytes = omega (arith, length-append (flat_map (shown_byte quote) bytes) (quote ∷ []), bytes_short quote bytes)

gap_short : (position : ℕ) → length (group_gap position) ≤ 1
gap_short position = by_test (length (group_gap position) ≤ 1) (position == 0)
    (λ h. rw h (omega arith))
    (λ h. by_test (length (group_gap position) ≤ 1) (position % 2 == 0) (λ k. rw (h, k) (omega arith)) (λ k. rw (h, k) (omega arith)))

groups_short : (front bytes : List ℕ) → length (with_front grouped_byte front bytes) ≤ 3 * length bytes
groups_short front [] = omega arith
groups_short front (b ∷ bytes) =
    omega (
      arith,
      length-append (grouped_byte front b) (with_front grouped_byte (front ++ b ∷ []) bytes),
      length-append (group_gap (length front)) (hex_byte b),
      gap_short (length front),
      groups_short (front ++ b ∷ []) bytes,
    )

pub piece_short : (hex : Bool) (bytes : List ℕ) → length (written_text (piece_written hex bytes)) ≤ 5 * length bytes + 3
piece_short true bytes = omega (arith, length-append (with_front grouped_byte [] bytes) (34 ∷ []), groups_short [] bytes)
piece_short false bytes = omega (arith, quoted_short 34 bytes)

-- How long a text is at most.
use Rattle.std.proofs.Common.{◌≡◌, ℕ, zero, suc, ◌+◌, ◌*◌, ◌%◌, ◌^◌, ◌<◌, ◌≤◌, ◌==◌, ◌&&◌, nat_lt, not, if◌then◌else◌, Bool, true, false, List, [], ◌∷◌, ◌++◌, length, map, replicate, ap, arith, length-append}
use Rattle.std.proofs.lemmas.Bool.Decides.{nat_tests}
use Rattle.std.proofs.lemmas.List.{length-map}
use Rattle.std.specs.List.{flat_map}
use Rattle.rz_bridge.specs.declared.file.MacFile.{MacFile}
use Rattle.rz_hqx.specs.BinHex.{hqx_bytes}
use Rattle.rz_hqx.specs.Letters.{letter, sixes}
use Rattle.rz_hqx.specs.Runs.{literal, packed, stored, Code}
use Rattle.rz_hqx.specs.Text.{gap_at, in_lines, head_line, lines_of, text_of}
use Rattle.rz_hqx.proofs.Fielded.{IsWritable, size}
use Rattle.rz_hqx.proofs.Writing.{begins, packed_behind, piece}

few_literal : (byte : ℕ) → length (literal byte) ≤ 2
few_literal byte = by_mark (byte == 144)
  where
    by_mark : (t : Bool) → length (if t then 144 ∷ 0 ∷ [] else byte ∷ []) ≤ 2
    by_mark true = omega arith
    by_mark false = omega arith

abbrev alone : ℕ → Code
alone byte = record { byte = byte; counts = [] }

few_alone : (count byte : ℕ) → length (flat_map stored (replicate count (alone byte))) ≤ 2 * count
few_alone zero byte = omega arith
few_alone (suc count) byte =
    omega (arith, length-append (stored (alone byte)) (flat_map stored (replicate count (alone byte))), length-append (literal byte) [], few_literal byte, few_alone count byte)

many_of : (count : ℕ) → nat_lt count 4 ≡ false → 4 ≤ count
many_of count many = grind (arith, nat_tests)

abbrev long : ℕ → ℕ → Code
long byte count = record { byte = byte; counts = count ∷ [] }

few_piece : (byte count : ℕ) → length (piece byte count) ≤ 2 * count
few_piece byte count = by_count (nat_lt count 4) (many_of count)
  where
    by_count : (t : Bool) → (t ≡ false → 4 ≤ count) → length (flat_map stored (if t then replicate count (alone byte) else long byte count ∷ [])) ≤ 2 * count
    by_count true many = few_alone count byte
    by_count false many = omega (arith, many (λ i. false), length-append (stored (long byte count)) [], length-append (literal byte) (144 ∷ count ∷ []), few_literal byte)

few_next : (t : Bool) (count size : ℕ) (on own off : List ℕ) → length on ≤ 2 * (count + 1 + size) → length own ≤ 2 * count → length off ≤ 2 * (1 + size)
    → length (if t then on else own ++ off) ≤ 2 * (count + suc size)
few_next true count size on own off joins ends starts = omega arith
few_next false count size on own off joins ends starts = omega (arith, length-append own off)

few_behind : (xs : List ℕ) (byte count : ℕ) → length (packed_behind byte count xs) ≤ 2 * (count + length xs)
few_behind [] byte count = omega (arith, few_piece byte count)
few_behind (x ∷ xs) byte count =
    few_next ((x == byte) && nat_lt count 255) count (length xs) (packed_behind byte (count + 1) xs) (piece byte count) (packed_behind x 1 xs)
    (few_behind xs byte (count + 1)) (few_piece byte count) (few_behind xs x 1)

none_packed : length (packed []) ≤ 0
unfolding packed
none_packed = omega arith

few_packed : (bytes : List ℕ) → length (packed bytes) ≤ 2 * length bytes
few_packed [] = omega (arith, none_packed)
few_packed (x ∷ xs) = omega (arith, few_behind xs x 1, ap (length {A = ℕ}) (begins x xs))

few_sixes : (bytes : List ℕ) → length (sixes bytes) ≤ 2 * length bytes + 2
few_sixes [] = omega arith
few_sixes (a ∷ []) = omega arith
few_sixes (a ∷ b ∷ []) = omega arith
few_sixes (a ∷ b ∷ c ∷ rest) = omega (arith, few_sixes rest)

few_gap : (count : ℕ) → length (gap_at count) ≤ 1
few_gap count = by_gap (not (count == 0) && (count % 64 == 0))
  where
    by_gap : (t : Bool) → length {A = ℕ} (if t then 10 ∷ [] else []) ≤ 1
    by_gap true = omega arith
    by_gap false = omega arith

few_in_lines : (chars : List ℕ) (count : ℕ) → length (in_lines count chars) ≤ 2 * length chars
few_in_lines [] count = omega arith
few_in_lines (c ∷ cs) count =
    omega (arith, length-append (gap_at count) (c ∷ in_lines (count + 1) cs), few_gap count, few_in_lines cs (count + 1))

few_lines : (numbers : List ℕ) → length (lines_of numbers) ≤ 51 + 2 * length numbers
few_lines numbers =
    let chars = 58 ∷ map letter numbers ++ 58 ∷ [] in
    omega (
      arith,
      length-append (head_line ++ in_lines 0 chars) (10 ∷ []),
      length-append head_line (in_lines 0 chars),
      few_in_lines chars 0,
      length-append (58 ∷ map letter numbers) (58 ∷ []),
      length-map numbers letter,
    )

pub hqx_short : (file : MacFile) → IsWritable file → length (text_of (packed (hqx_bytes file))) < 2 ^ 32
hqx_short file writable =
    let codes = packed (hqx_bytes file) in
    omega (arith, few_lines (sixes codes), few_sixes codes, few_packed (hqx_bytes file), size file writable, writable.name, writable.data_fork, writable.res_fork)

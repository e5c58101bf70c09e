-- The codes of BinHex are bytes where what they stand for is, and the other way round.
use Rattle.std.proofs.Common.{◌≡◌, ℕ, zero, suc, ◌+◌, ◌-◌, ◌*◌, ◌/◌, ◌%◌, ◌<◌, ◌==◌, nat_lt, cond, if◌then◌else◌, Bool, true, false, List, [], ◌∷◌, ◌++◌, length, replicate, Option, Some, None, Ok, Result, refl, sym, subst, arith}
use Rattle.std.proofs.lemmas.Bool.{eqb-false, ltb-true}
use Rattle.std.specs.List.{before_first, cons_option, filter_map, flat_map, position_or_len, AllByRecursion}
use Rattle.rz_bridge.specs.declared.fault.BridgeFault.{BridgeFault}
use Rattle.rz_laws.proofs.Bytes.{equal_bytes, mapped_bytes, together}
use Rattle.rz_laws.specs.Kept.{AreBytes}
use Rattle.rz_core.proofs.Lists.{all_append, all_split}
use Rattle.rz_core.proofs.Tests.{by_test}
use Rattle.rz_core.specs.Lists.{or_else, unless_fault}
use Rattle.rz_hqx.proofs.Sixes.{IsSix}
use Rattle.rz_hqx.proofs.Undone.{coding_read}
use Rattle.rz_hqx.specs.Letters.{alphabet, eights, number_of}
use Rattle.rz_hqx.specs.Runs.{before_runs, equal_codes, literal, meant, packed, run_codes, runs_of, stored, unpacked, Code, Run}
use Rattle.rz_hqx.specs.Text.{bad_letter, no_end, numbers_in}

-- Letters.

abbrev AreSixes : List ℕ → Type 0
AreSixes numbers = AllByRecursion IsSix numbers

six_before : (place : ℕ) (rest : List ℕ) → AreSixes rest → AreSixes (cons_option (cond (nat_lt place (length alphabet)) (Some place) None) rest)
six_before place rest small = by (nat_lt place (length alphabet)) (λ is. ltb-true place 64 is)
  where
    by : (t : Bool) → (t ≡ true → place < 64) → AreSixes (cons_option (cond t (Some place) None) rest)
    by true below = (below refl, small)
    by false below = small

sixes_read : (letters : List ℕ) → AreSixes (filter_map number_of letters)
sixes_read [] = tt
sixes_read (l ∷ letters) = six_before (position_or_len (λ m. m == l) alphabet) (filter_map number_of letters) (sixes_read letters)

pub numbers_small : (place : ℕ) (body numbers : List ℕ) → numbers_in place body ≡ Ok numbers → AreSixes numbers
unfolding numbers_in
numbers_small place body numbers is =
    let letters = before_first (λ b. b == 58) body in by (or_else (bad_letter place letters) (no_end place body)) (filter_map number_of letters) (sixes_read letters) is
  where
    by : (fault : Option BridgeFault) (read : List ℕ) → AreSixes read → unless_fault fault read ≡ Ok numbers → AreSixes numbers
    by None read small same = let is : read ≡ numbers = cc same in subst AreSixes is small
    by (Some fault) read small same = cc same

pub eights_bytes : (numbers : List ℕ) → AreSixes numbers → AreBytes (eights numbers)
eights_bytes [] small = tt
eights_bytes (p ∷ []) small = tt
eights_bytes (p ∷ q ∷ []) small = let first : p < 64 = small.0 in let second : q < 64 = small.1.0 in (omega arith, tt)
eights_bytes (p ∷ q ∷ r ∷ []) small =
    let first : p < 64 = small.0 in
    let second : q < 64 = small.1.0 in
    let third : r < 64 = small.1.1.0 in
    (omega arith, (omega arith, tt))
eights_bytes (p ∷ q ∷ r ∷ s ∷ rest) small =
    let first : p < 64 = small.0 in
    let second : q < 64 = small.1.0 in
    let third : r < 64 = small.1.1.0 in
    let last : s < 64 = small.1.1.1.0 in
    (omega arith, (omega arith, (omega arith, eights_bytes rest small.1.1.1.1)))

-- Codes that are read.

literal_byte : (byte : ℕ) → AreBytes (literal byte) → byte < 256
literal_byte byte are =
    by_test (byte < 256) (byte == 144)
    (λ is. grind (arith, is))
    (λ other. (subst (λ (t : Bool). AreBytes (if t then 144 ∷ 0 ∷ [] else byte ∷ [])) other are).0)

meant_bytes : (codes : List Code) → AreBytes (flat_map stored codes) → AreBytes (flat_map meant codes)
meant_bytes [] are = tt
meant_bytes (code ∷ codes) are =
    let counts = flat_map (λ count. 144 ∷ count ∷ []) code.counts in
    let parts = all_split (λ b. b < 256) (stored code) (flat_map stored codes) are in
    let byte = literal_byte code.byte (all_split (λ b. b < 256) (literal code.byte) counts parts.0).0 in (
      byte,
      together (flat_map (λ count. replicate (count - 1) code.byte) code.counts) (flat_map meant codes)
          (mapped_bytes (λ count. replicate (count - 1) code.byte) (λ count. equal_bytes (count - 1) code.byte byte) code.counts) (meant_bytes codes parts.1),
    )

pub unpacked_bytes : (coded bytes : List ℕ) → AreBytes coded → unpacked coded ≡ Ok bytes → AreBytes bytes
unpacked_bytes coded bytes are is =
    let coding = coding_read coded bytes is in subst AreBytes (sym coding.told) (meant_bytes coding.codes (subst AreBytes coding.made are))

-- Codes that are written.

abbrev HasByte : Run → Type 0
HasByte run = run.byte < 256

before_bytes : (run : Run) (runs : List Run) → HasByte run → AllByRecursion HasByte runs → AllByRecursion HasByte (before_runs run runs)
before_bytes run [] first rest = (first, tt)
before_bytes run (next ∷ runs) first rest = by (run.byte == next.byte)
  where
    by : (t : Bool) → AllByRecursion HasByte (if t then record { byte = run.byte; count = run.count + next.count } ∷ runs else run ∷ next ∷ runs)
    by true = (first, rest.1)
    by false = (first, rest)

runs_bytes : (bytes : List ℕ) → AreBytes bytes → AllByRecursion HasByte (runs_of bytes)
runs_bytes [] are = tt
runs_bytes (byte ∷ bytes) are = before_bytes (record { byte = byte; count = 1 }) (runs_of bytes) are.0 (runs_bytes bytes are.1)

-- a code of bytes, whose counts have a byte each
record IsOfBytes (code : Code) : Type 0 where
  byte : code.byte < 256
  counts : AreBytes code.counts

alone_bytes : (count byte : ℕ) → byte < 256 → AllByRecursion IsOfBytes (replicate count (record { byte = byte; counts = [] }))
alone_bytes zero byte small = tt
alone_bytes (suc count) byte small = (record { byte = small; counts = tt }, alone_bytes count byte small)

equal_codes_bytes : (byte count : ℕ) → byte < 256 → count < 256 → AllByRecursion IsOfBytes (equal_codes byte count)
equal_codes_bytes byte count small few = by (nat_lt count 4)
  where
    by : (t : Bool) → AllByRecursion IsOfBytes (if t then replicate count (record { byte = byte; counts = [] }) else record { byte = byte; counts = count ∷ [] } ∷ [])
    by true = alone_bytes count byte small
    by false = (record { byte = small; counts = (few, tt) }, tt)

counts_bytes : (byte : ℕ) (counts : List ℕ) → byte < 256 → AreBytes counts → AllByRecursion IsOfBytes (flat_map (equal_codes byte) counts)
counts_bytes byte [] small are = tt
counts_bytes byte (count ∷ counts) small are =
    all_append IsOfBytes (equal_codes byte count) (flat_map (equal_codes byte) counts) (equal_codes_bytes byte count small are.0) (counts_bytes byte counts small are.1)

codes_bytes : (runs : List Run) → AllByRecursion HasByte runs → AllByRecursion IsOfBytes (flat_map run_codes runs)
codes_bytes [] are = tt
codes_bytes (run ∷ runs) are =
    let counts = replicate (run.count / 255) 255 ++ (run.count % 255) ∷ [] in
    let small : AreBytes counts = together (replicate (run.count / 255) 255) ((run.count % 255) ∷ []) (equal_bytes (run.count / 255) 255 (omega arith)) (omega arith, tt) in
    all_append IsOfBytes (run_codes run) (flat_map run_codes runs) (counts_bytes run.byte counts are.0 small) (codes_bytes runs are.1)

literal_bytes : (byte : ℕ) → byte < 256 → AreBytes (literal byte)
literal_bytes byte small = by (byte == 144)
  where
    by : (t : Bool) → AreBytes (if t then 144 ∷ 0 ∷ [] else byte ∷ [])
    by true = (omega arith, (omega arith, tt))
    by false = (small, tt)

marked_bytes : (counts : List ℕ) → AreBytes counts → AreBytes (flat_map (λ count. 144 ∷ count ∷ []) counts)
marked_bytes [] are = tt
marked_bytes (count ∷ counts) are = (omega arith, (are.0, marked_bytes counts are.1))

stored_bytes : (codes : List Code) → AllByRecursion IsOfBytes codes → AreBytes (flat_map stored codes)
stored_bytes [] are = tt
stored_bytes (code ∷ codes) are =
    together (stored code) (flat_map stored codes)
    (together (literal code.byte) (flat_map (λ count. 144 ∷ count ∷ []) code.counts) (literal_bytes code.byte are.0.byte) (marked_bytes code.counts are.0.counts))
    (stored_bytes codes are.1)

pub packed_bytes : (bytes : List ℕ) → AreBytes bytes → AreBytes (packed bytes)
unfolding packed
packed_bytes bytes are = stored_bytes (flat_map run_codes (runs_of bytes)) (codes_bytes (runs_of bytes) (runs_bytes bytes are))

-- Bytes are written run by run.
use Rattle.std.proofs.Common.{◌≡◌, ℕ, suc, ◌+◌, ◌-◌, ◌/◌, ◌%◌, ◌<◌, ◌≤◌, ◌==◌, ◌&&◌, nat_lt, if◌then◌else◌, Bool, true, List, [], ◌∷◌, ◌++◌, length, take, drop, get_or, replicate, refl, sym, ap, ◌∙◌, arith}
use Rattle.std.proofs.lemmas.Bool.{eq-eqb, eqb-true, ltb-true, ltb-false}
use Rattle.std.proofs.lemmas.List.{append-nil, take_all}
use Rattle.std.proofs.lemmas.List.Concat.{flat_map-append}
use Rattle.std.specs.List.{flat_map}
use Rattle.rz_core.proofs.Tests.{by_test, same_sym}
use Rattle.rz_hqx.specs.Runs.{before_runs, equal_codes, packed, run_codes, runs_of, stored, Code, Run}

-- what up to 255 equal bytes are written as
abbrev pub piece : ℕ → ℕ → List ℕ
piece byte count = flat_map stored (equal_codes byte count)

-- bytes after so many equal ones, which go into one run with them as far as they are equal and at most 255
abbrev pub packed_behind : ℕ → ℕ → List ℕ → List ℕ
packed_behind byte count [] = piece byte count
packed_behind byte count (x ∷ xs) =
    if (x == byte) && nat_lt count 255 then packed_behind byte (count + 1) xs else piece byte count ++ packed_behind x 1 xs

-- what runs are written as
abbrev written : List Run → List ℕ
written runs = flat_map stored (flat_map run_codes runs)

abbrev run : ℕ → ℕ → Run
run byte count = record { byte = byte; count = count }

-- Runs.

itself : (byte : ℕ) → (byte == byte) ≡ true
itself byte = eq-eqb byte byte refl

-- two runs of one byte are one
joined : (byte m n : ℕ) (runs : List Run) → before_runs (run byte m) (before_runs (run byte n) runs) ≡ before_runs (run byte (m + n)) runs
joined byte m n [] = ap (λ (t : Bool). if t then run byte (m + n) ∷ [] else run byte m ∷ run byte n ∷ []) (itself byte)
joined byte m n (next ∷ runs) =
    by_test (before_runs (run byte m) (before_runs (run byte n) (next ∷ runs)) ≡ before_runs (run byte (m + n)) (next ∷ runs)) (byte == next.byte)
    (λ same.
    let sum : m + (n + next.count) ≡ m + n + next.count = omega arith in
    ap (λ (t : Bool). before_runs (run byte m) (if t then run byte (n + next.count) ∷ runs else run byte n ∷ next ∷ runs)) same
    ∙ ap (λ (t : Bool). if t then run byte (m + (n + next.count)) ∷ runs else run byte m ∷ run byte (n + next.count) ∷ runs) (itself byte)
    ∙ ap (λ (k : ℕ). run byte k ∷ runs) sum
    ∙ sym (ap (λ (t : Bool). if t then run byte (m + n + next.count) ∷ runs else run byte (m + n) ∷ next ∷ runs) same))
    (λ differs.
    ap (λ (t : Bool). before_runs (run byte m) (if t then run byte (n + next.count) ∷ runs else run byte n ∷ next ∷ runs)) differs
    ∙ ap (λ (t : Bool). if t then run byte (m + n) ∷ next ∷ runs else run byte m ∷ run byte n ∷ next ∷ runs) (itself byte)
    ∙ sym (ap (λ (t : Bool). if t then run byte (m + n + next.count) ∷ runs else run byte (m + n) ∷ next ∷ runs) differs))

-- the first run after a byte is of that byte
first : (byte n : ℕ) (runs : List Run) → (count : ℕ) × (others : List Run) × (before_runs (run byte n) runs ≡ run byte count ∷ others)
first byte n [] = (n, [], refl)
first byte n (next ∷ runs) =
    by_test ((count : ℕ) × (others : List Run) × (before_runs (run byte n) (next ∷ runs) ≡ run byte count ∷ others)) (byte == next.byte)
    (λ same. (n + next.count, runs, ap (λ (t : Bool). if t then run byte (n + next.count) ∷ runs else run byte n ∷ next ∷ runs) same))
    (λ differs. (n, next ∷ runs, ap (λ (t : Bool). if t then run byte (n + next.count) ∷ runs else run byte n ∷ next ∷ runs) differs))

-- a run of at most 255 bytes is one piece
one_piece : (byte count : ℕ) → count ≤ 255 → flat_map stored (run_codes (run byte count)) ≡ piece byte count
one_piece byte count most =
    by_test (flat_map stored (run_codes (run byte count)) ≡ piece byte count) (nat_lt count 255)
    (λ below.
    let bound : count < 255 = ltb-true count 255 below in
    let none : count / 255 ≡ 0 = omega arith in
    let all : count % 255 ≡ count = omega arith in
    ap (λ (q : ℕ). flat_map stored (flat_map (equal_codes byte) (replicate q 255 ++ (count % 255) ∷ []))) none
    ∙ ap (λ (r : ℕ). flat_map stored (equal_codes byte r ++ [])) all
    ∙ ap (flat_map stored) (append-nil (equal_codes byte count)))
    (λ above.
    let bound : 255 ≤ count = ltb-false count 255 above in
    let full : count ≡ 255 = omega arith in
    ap (λ (n : ℕ). flat_map stored (run_codes (run byte n))) full ∙ ap (piece byte) (sym full))

one_run : (byte count : ℕ) (runs : List Run) → count ≤ 255 → written (run byte count ∷ runs) ≡ piece byte count ++ written runs
one_run byte count runs most =
    flat_map-append stored (run_codes (run byte count)) (flat_map run_codes runs)
    ∙ ap (λ (l : List ℕ). l ++ written runs) (one_piece byte count most)

-- of a longer run 255 bytes come first
long_run : (byte count : ℕ) (runs : List Run) → written (run byte (255 + count) ∷ runs) ≡ piece byte 255 ++ written (run byte count ∷ runs)
long_run byte count runs =
    let own : Code = record { byte = byte; counts = 255 ∷ [] } in
    let more : (255 + count) / 255 ≡ suc (count / 255) = omega arith in
    let same : (255 + count) % 255 ≡ count % 255 = omega arith in
    let later = written (run byte count ∷ runs) in
    ap (λ (q : ℕ). flat_map stored (flat_map (equal_codes byte) (replicate q 255 ++ ((255 + count) % 255) ∷ []) ++ flat_map run_codes runs)) more
    ∙ ap (λ (r : ℕ). flat_map stored (flat_map (equal_codes byte) (replicate (suc (count / 255)) 255 ++ r ∷ []) ++ flat_map run_codes runs)) same
    ∙ ap (λ (l : List ℕ). l ++ later) (sym (append-nil (stored own)))

-- Bytes.

pieces : (xs : List ℕ) (byte count : ℕ) → count ≤ 255 → packed_behind byte count xs ≡ written (before_runs (run byte count) (runs_of xs))
pieces [] byte count most = sym (one_run byte count [] most ∙ append-nil (piece byte count))
pieces (x ∷ xs) byte count most =
    let others = runs_of xs in
    let on = packed_behind byte (count + 1) xs in
    let off = piece byte count ++ packed_behind x 1 xs in
    let start = first x 1 others in
    let stopped : packed_behind x 1 xs ≡ written (before_runs (run x 1) others) = pieces xs x 1 (omega arith) in
    let Goal : Type 0 = packed_behind byte count (x ∷ xs) ≡ written (before_runs (run byte count) (runs_of (x ∷ xs))) in
    by_test Goal (x == byte)
    (λ same.
    let equal : x ≡ byte = eqb-true x byte same in
    by_test Goal (nat_lt count 255)
    (λ below.
    let bound : count < 255 = ltb-true count 255 below in
    ap (λ (t : Bool). if t && nat_lt count 255 then on else off) same
    ∙ ap (λ (t : Bool). if t then on else off) below
    ∙ pieces xs byte (count + 1) (omega arith)
    ∙ ap written (sym (joined byte count 1 others))
    ∙ ap (λ (b : ℕ). written (before_runs (run byte count) (before_runs (run b 1) others))) (sym equal))
    (λ above.
    let bound : 255 ≤ count = ltb-false count 255 above in
    let full : count ≡ 255 = omega arith in
    ap (λ (t : Bool). if t && nat_lt count 255 then on else off) same
    ∙ ap (λ (t : Bool). if t then on else off) above
    ∙ ap (λ (l : List ℕ). piece byte count ++ l) (stopped ∙ ap written start.2)
    ∙ ap (λ (n : ℕ). piece byte n ++ written (run x start.0 ∷ start.1)) full
    ∙ ap (λ (b : ℕ). piece byte 255 ++ written (run b start.0 ∷ start.1)) equal
    ∙ sym (long_run byte start.0 start.1)
    ∙ sym
    (ap (λ (l : List Run). written (before_runs (run byte count) l)) start.2
    ∙ ap (λ (b : ℕ). written (before_runs (run byte count) (run b start.0 ∷ start.1))) equal
    ∙ ap (λ (t : Bool). written (if t then run byte (count + start.0) ∷ start.1 else run byte count ∷ run byte start.0 ∷ start.1)) (itself byte)
    ∙ ap (λ (n : ℕ). written (run byte (n + start.0) ∷ start.1)) full)))
    (λ differs.
    ap (λ (t : Bool). if t && nat_lt count 255 then on else off) differs
    ∙ ap (λ (l : List ℕ). piece byte count ++ l) (stopped ∙ ap written start.2)
    ∙ sym (one_run byte count (run x start.0 ∷ start.1) most)
    ∙ sym
    (ap (λ (l : List Run). written (before_runs (run byte count) l)) start.2
    ∙ ap (λ (t : Bool). written (if t then run byte (count + start.0) ∷ start.1 else run byte count ∷ run x start.0 ∷ start.1)) (same_sym byte x ∙ differs)))

-- the first byte begins the first run
pub begins : (x : ℕ) (xs : List ℕ) → packed_behind x 1 xs ≡ packed (x ∷ xs)
unfolding packed
begins x xs = pieces xs x 1 (omega arith)

pub none_written : (bytes : List ℕ) → length bytes < 1 → [] ≡ packed bytes
unfolding packed
none_written [] none = refl
none_written (x ∷ xs) none = absurd (omega arith)

pub all_written : (bytes out : List ℕ) → 1 ≤ length bytes → out ≡ [] → out ++ packed_behind (get_or bytes 0 0) 1 (take (length bytes - 1) (drop 1 bytes)) ≡ packed bytes
all_written [] out some none = absurd (omega arith)
all_written (x ∷ xs) out some none =
    let left : suc (length xs) - 1 ≡ length xs = omega arith in
    ap (λ (o : List ℕ). o ++ packed_behind x 1 (take (suc (length xs) - 1) xs)) none
    ∙ ap (λ (n : ℕ). packed_behind x 1 (take n xs)) left
    ∙ ap (packed_behind x 1) (take_all (length xs) xs (omega arith))
    ∙ begins x xs

-- The run codes of BinHex: 90 and a count stand for a run of one byte, and 90 00 for the byte 90. (RFC 1741.)
use Rattle.std.specs.Prelude.{◌≡◌, ◌≢◌, ℕ, ◌+◌, ◌-◌, ◌/◌, ◌%◌, ◌==◌, nat_lt, if◌then◌else◌, Bool, true, false, List, [], ◌∷◌, ◌++◌, length, replicate, Option, Some, None}
use Rattle.std.specs.List.{flat_map, AllByRecursion}
use Rattle.std.specs.declared.result.Result.{Result}
use Rattle.rz_core.specs.Lists.{or_else, unless_fault}
use Rattle.rz_bridge.specs.Faults.{broken, fault}
use Rattle.rz_bridge.specs.declared.fault.BridgeFault.{BridgeFault}

-- Codes.

-- a byte, and the counts of the runs that go on with it, each of which counts the byte before it, too
pub record Code : Type 0 where
  pub byte : ℕ
  pub counts : List ℕ

-- no count is 0
abbrev pub IsCode : Code → Type 0
IsCode code = AllByRecursion (λ count. count ≢ 0) code.counts

-- a byte by itself
abbrev pub literal : ℕ → List ℕ
literal byte = if byte == 144 then 144 ∷ 0 ∷ [] else byte ∷ []

-- the bytes of a code
abbrev pub stored : Code → List ℕ
stored code = literal code.byte ++ flat_map (λ count. 144 ∷ count ∷ []) code.counts

-- the bytes that a code stands for
abbrev pub meant : Code → List ℕ
meant code = code.byte ∷ flat_map (λ count. replicate (count - 1) code.byte) code.counts

-- Written.

-- so many equal bytes
pub record Run : Type 0 where
  pub byte : ℕ
  pub count : ℕ

-- a run before others: one with the first of them, where that is of the same byte
abbrev pub before_runs : Run → List Run → List Run
before_runs run [] = run ∷ []
before_runs run (next ∷ runs) =
    if run.byte == next.byte then record { byte = run.byte; count = run.count + next.count } ∷ runs else run ∷ next ∷ runs

-- the longest runs of equal bytes
abbrev pub runs_of : List ℕ → List Run
runs_of [] = []
runs_of (byte ∷ bytes) = before_runs (record { byte = byte; count = 1 }) (runs_of bytes)

-- up to 255 equal bytes: fewer than four are a code each, and more are one code
abbrev pub equal_codes : ℕ → ℕ → List Code
equal_codes byte count =
    if nat_lt count 4 then replicate count (record { byte = byte; counts = [] }) else record { byte = byte; counts = count ∷ [] } ∷ []

-- a run: 255 of its bytes as often as they go, and then the others
abbrev pub run_codes : Run → List Code
run_codes run = flat_map (equal_codes run.byte) (replicate (run.count / 255) 255 ++ (run.count % 255) ∷ [])

-- the one coding of bytes
unfoldable pub packed : List ℕ → List ℕ
packed bytes = flat_map stored (flat_map run_codes (runs_of bytes))

-- Read.

-- what bytes are cut into: counts that go on with a byte before them, then codes; and whether a 90 without a count is
-- last
pub record Cut : Type 0 where
  pub counts : List ℕ
  pub codes : List Code
  pub torn : Bool

abbrev pub with_byte : ℕ → Cut → Cut
with_byte byte cut = record { counts = []; codes = record { byte = byte; counts = cut.counts } ∷ cut.codes; torn = cut.torn }

abbrev pub with_count : ℕ → Cut → Cut
with_count count cut = record { counts = count ∷ cut.counts; codes = cut.codes; torn = cut.torn }

-- bytes, and those after a 90, as they are cut
abbrev mutual
  pub cut_of : List ℕ → Cut
  cut_of [] = record { counts = []; codes = []; torn = false }
  cut_of (byte ∷ bytes) = if byte == 144 then marked bytes else with_byte byte (cut_of bytes)

  pub marked : List ℕ → Cut
  marked [] = record { counts = []; codes = []; torn = true }
  marked (count ∷ bytes) = if count == 0 then with_byte 144 (cut_of bytes) else with_count count (cut_of bytes)

-- RunAtStart: a count has no byte before it
abbrev pub run_at_start : List ℕ → Option BridgeFault
run_at_start [] = None
run_at_start (count ∷ counts) = Some (fault 446 0 count)

-- the bytes that codes stand for, or the first fault, which may be Truncated: a 90 is the last byte
unfoldable pub unpacked : List ℕ → Result (List ℕ) BridgeFault
unpacked coded =
    let cut = cut_of coded in
    unless_fault (or_else (run_at_start cut.counts) (broken cut.torn (fault 445 (length coded - 1) 1))) (flat_map meant cut.codes)

-- the first bytes are codes, and the others are what the codes mean
pub record IsCoding (coded bytes : List ℕ) : Type 0 where
  pub codes : List Code
  pub are : AllByRecursion IsCode codes
  pub made : coded ≡ flat_map stored codes
  pub told : bytes ≡ flat_map meant codes

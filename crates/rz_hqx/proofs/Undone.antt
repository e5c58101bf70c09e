-- What bytes are cut into, and what codes are read as; so bytes that were written are read again.
use Rattle.std.proofs.Common.{◌≡◌, ◌≢◌, ℕ, zero, suc, ◌+◌, ◌-◌, ◌*◌, ◌/◌, ◌%◌, ◌≤◌, ◌==◌, nat_lt, if◌then◌else◌, Bool, true, false, List, [], ◌∷◌, ◌++◌, length, replicate, Ok, Err, Result, refl, sym, ap, subst, ◌∙◌, arith, append_assoc}
use Rattle.std.proofs.lemmas.Bool.{eqb-true, eqb-false, ltb-false, ne_eqb}
use Rattle.std.proofs.lemmas.List.{append-nil, replicate-append-replicate}
use Rattle.std.proofs.lemmas.List.Concat.{flat_map-append}
use Rattle.std.specs.List.{flat_map, AllByRecursion}
use Rattle.rz_core.proofs.Lists.{all_append}
use Rattle.rz_core.proofs.Tests.{by_test}
use Rattle.std.specs.Prelude.{IfOk}
use Rattle.rz_core.specs.Lists.{or_else, unless_fault}
use Rattle.rz_core.specs.Stop.{Gives}
use Rattle.rz_core.specs.declared.stop.Stop.{Stop}
use Rattle.rz_bridge.specs.Faults.{broken, fault}
use Rattle.rz_bridge.specs.declared.fault.BridgeFault.{BridgeFault}
use Rattle.rz_hqx.specs.Runs.{before_runs, cut_of, equal_codes, literal, marked, meant, packed, run_at_start, run_codes, runs_of, stored, unpacked, with_byte, with_count, Code, Cut, IsCode, IsCoding, Run}

-- the bytes of counts
abbrev counted : List ℕ → List ℕ
counted counts = flat_map (λ count. 144 ∷ count ∷ []) counts

-- Bytes that are cut.

abbrev end_of : Bool → List ℕ
end_of true = 144 ∷ []
end_of false = []

-- the bytes are what they are cut into, and no count is 0
record Whole (all : List ℕ) (cut : Cut) : Type 0 where
  pub bytes : all ≡ counted cut.counts ++ (flat_map stored cut.codes ++ end_of cut.torn)
  pub counts : AllByRecursion (λ count. count ≢ 0) cut.counts
  pub codes : AllByRecursion IsCode cut.codes

whole_byte : (byte : ℕ) (bytes rest : List ℕ) (cut : Cut) → Whole rest cut → literal byte ++ rest ≡ bytes → Whole bytes (with_byte byte cut)
whole_byte byte bytes rest cut whole is =
    let counts = counted cut.counts in
    let codes = flat_map stored cut.codes in
    record {
      bytes = sym is ∙ ap (λ (l : List ℕ). literal byte ++ l) whole.bytes
          ∙ sym (append_assoc (literal byte ++ counts) codes (end_of cut.torn) ∙ append_assoc (literal byte) counts (codes ++ end_of cut.torn));
      counts = tt;
      codes = (whole.counts, whole.codes);
    }

mutual
  whole_cut : (bytes : List ℕ) → Whole bytes (cut_of bytes)
  whole_cut [] = record { bytes = refl; counts = tt; codes = tt }
  whole_cut (byte ∷ bytes) =
      let cut = cut_of bytes in
      by_test (Whole (byte ∷ bytes) (cut_of (byte ∷ bytes))) (byte == 144)
      (λ is.
      subst (λ (c : Cut). Whole (byte ∷ bytes) c) (sym (ap (λ (t : Bool). if t then marked bytes else with_byte byte cut) is))
      (subst (λ (b : ℕ). Whole (b ∷ bytes) (marked bytes)) (sym (eqb-true byte 144 is)) (whole_marked bytes)))
      (λ differs.
      subst (λ (c : Cut). Whole (byte ∷ bytes) c) (sym (ap (λ (t : Bool). if t then marked bytes else with_byte byte cut) differs))
      (whole_byte byte (byte ∷ bytes) bytes cut (whole_cut bytes) (ap (λ (t : Bool). (if t then 144 ∷ 0 ∷ [] else byte ∷ []) ++ bytes) differs)))

  whole_marked : (bytes : List ℕ) → Whole (144 ∷ bytes) (marked bytes)
  whole_marked [] = record { bytes = refl; counts = tt; codes = tt }
  whole_marked (count ∷ bytes) =
      let cut = cut_of bytes in
      by_test (Whole (144 ∷ count ∷ bytes) (marked (count ∷ bytes))) (count == 0)
      (λ is.
      subst (λ (c : Cut). Whole (144 ∷ count ∷ bytes) c) (sym (ap (λ (t : Bool). if t then with_byte 144 cut else with_count count cut) is))
      (subst (λ (n : ℕ). Whole (144 ∷ n ∷ bytes) (with_byte 144 cut)) (sym (eqb-true count 0 is)) (whole_byte 144 (144 ∷ 0 ∷ bytes) bytes cut (whole_cut bytes) refl)))
      (λ differs.
      subst (λ (c : Cut). Whole (144 ∷ count ∷ bytes) c) (sym (ap (λ (t : Bool). if t then with_byte 144 cut else with_count count cut) differs))
      (let whole = whole_cut bytes in
      record { bytes = ap (λ (l : List ℕ). 144 ∷ count ∷ l) whole.bytes; counts = (eqb-false count 0 differs, whole.counts); codes = whole.codes }))

settled : (counts : List ℕ) (codes : List Code) (torn : Bool) (coded bytes : List ℕ) (cause : BridgeFault) → Whole coded (record { counts = counts; codes = codes; torn = torn })
    → unless_fault (or_else (run_at_start counts) (broken torn cause)) (flat_map meant codes) ≡ Ok bytes → IsCoding coded bytes
settled (count ∷ counts) codes torn coded bytes cause whole is = absurd cc
settled [] codes true coded bytes cause whole is = absurd cc
settled [] codes false coded bytes cause whole is =
    let told : bytes ≡ flat_map meant codes = cc in
    record { codes = codes; are = whole.codes; made = whole.bytes ∙ append-nil (flat_map stored codes); told = told }

-- what codes are read as they mean
pub coding_read : (coded bytes : List ℕ) → unpacked coded ≡ Ok bytes → IsCoding coded bytes
unfolding unpacked
coding_read coded bytes is =
    let cut = cut_of coded in settled cut.counts cut.codes cut.torn coded bytes (fault 445 (length coded - 1) 1) (whole_cut coded) is

-- Codes that are read.

cut_literal : (byte : ℕ) (rest : List ℕ) → cut_of (literal byte ++ rest) ≡ with_byte byte (cut_of rest)
cut_literal byte rest =
    by_test (cut_of (literal byte ++ rest) ≡ with_byte byte (cut_of rest)) (byte == 144)
    (λ is. subst (λ (b : ℕ). cut_of (literal b ++ rest) ≡ with_byte b (cut_of rest)) (sym (eqb-true byte 144 is)) refl)
    (λ differs.
    ap (λ (t : Bool). cut_of ((if t then 144 ∷ 0 ∷ [] else byte ∷ []) ++ rest)) differs
    ∙ ap (λ (t : Bool). if t then marked rest else with_byte byte (cut_of rest)) differs)

abbrev with_counts : List ℕ → Cut → Cut
with_counts [] cut = cut
with_counts (count ∷ counts) cut = with_count count (with_counts counts cut)

cut_counted : (counts rest : List ℕ) → AllByRecursion (λ count. count ≢ 0) counts → cut_of (counted counts ++ rest) ≡ with_counts counts (cut_of rest)
cut_counted [] rest all = refl
cut_counted (count ∷ counts) rest all =
    let later = cut_of (counted counts ++ rest) in
    ap (λ (t : Bool). if t then with_byte 144 later else with_count count later) (ne_eqb count 0 all.0) ∙ ap (with_count count) (cut_counted counts rest all.1)

abbrev of_codes : List Code → Cut
of_codes codes = record { counts = []; codes = codes; torn = false }

counts_before : (counts : List ℕ) (codes : List Code) → with_counts counts (of_codes codes) ≡ record { counts = counts; codes = codes; torn = false }
counts_before [] codes = refl
counts_before (count ∷ counts) codes = ap (with_count count) (counts_before counts codes)

cut_stored : (codes : List Code) → AllByRecursion IsCode codes → cut_of (flat_map stored codes) ≡ of_codes codes
cut_stored [] all = refl
cut_stored (code ∷ codes) all =
    let counts = counted code.counts in
    let later = flat_map stored codes in
    ap cut_of (append_assoc (literal code.byte) counts later)
    ∙ cut_literal code.byte (counts ++ later)
    ∙ ap (with_byte code.byte) (cut_counted code.counts later all.0 ∙ ap (with_counts code.counts) (cut_stored codes all.1) ∙ counts_before code.counts codes)

-- codes are read as what they mean
pub codes_read : (codes : List Code) → AllByRecursion IsCode codes → unpacked (flat_map stored codes) ≡ Ok (flat_map meant codes)
unfolding unpacked
codes_read codes all =
    let cause = fault 445 (length (flat_map stored codes) - 1) 1 in
    ap (λ (cut : Cut). unless_fault (or_else (run_at_start cut.counts) (broken cut.torn cause)) (flat_map meant cut.codes)) (cut_stored codes all)

-- What is written.

abbrev alone : ℕ → Code
alone byte = record { byte = byte; counts = [] }

all_alone : (count byte : ℕ) → AllByRecursion IsCode (replicate count (alone byte))
all_alone zero byte = tt
all_alone (suc count) byte = (tt, all_alone count byte)

meant_alone : (count byte : ℕ) → flat_map meant (replicate count (alone byte)) ≡ replicate count byte
meant_alone zero byte = refl
meant_alone (suc count) byte = ap (λ (l : List ℕ). byte ∷ l) (meant_alone count byte)

abbrev few_or : Bool → ℕ → ℕ → List Code
few_or few byte count = if few then replicate count (alone byte) else record { byte = byte; counts = count ∷ [] } ∷ []

some_of : (count : ℕ) → nat_lt count 4 ≡ false → 4 ≤ count
some_of count many = ltb-false count 4 many

all_equal : (byte count : ℕ) → AllByRecursion IsCode (equal_codes byte count)
all_equal byte count = by_count (nat_lt count 4) (some_of count)
  where
    by_count : (few : Bool) → (few ≡ false → 4 ≤ count) → AllByRecursion IsCode (few_or few byte count)
    by_count true many = all_alone count byte
    by_count false many = let some : 4 ≤ count = many refl in (((λ none. omega (arith, some, none)), tt), tt)

meant_equal : (byte count : ℕ) → flat_map meant (equal_codes byte count) ≡ replicate count byte
meant_equal byte count = by_count (nat_lt count 4) (some_of count)
  where
    by_count : (few : Bool) → (few ≡ false → 4 ≤ count) → flat_map meant (few_or few byte count) ≡ replicate count byte
    by_count true many = meant_alone count byte
    by_count false many =
        let some : 4 ≤ count = many refl in
        let more : suc (count - 1) ≡ count = omega arith in
        ap (λ (l : List ℕ). byte ∷ (l ++ [])) (append-nil (replicate (count - 1) byte))
        ∙ ap (λ (l : List ℕ). byte ∷ l) (append-nil (replicate (count - 1) byte))
        ∙ ap (λ (n : ℕ). replicate n byte) more

module _ (byte : ℕ) where
  all_counts : (counts : List ℕ) → AllByRecursion IsCode (flat_map (equal_codes byte) counts)
  all_counts [] = tt
  all_counts (count ∷ counts) = all_append IsCode (equal_codes byte count) (flat_map (equal_codes byte) counts) (all_equal byte count) (all_counts counts)

  meant_counts : (times rest : ℕ) → flat_map meant (flat_map (equal_codes byte) (replicate times 255 ++ rest ∷ [])) ≡ replicate (times * 255 + rest) byte
  meant_counts zero rest =
      let size : rest ≡ 0 * 255 + rest = omega arith in
      ap (flat_map meant) (append-nil (equal_codes byte rest)) ∙ meant_equal byte rest ∙ ap (λ (n : ℕ). replicate n byte) size
  meant_counts (suc times) rest =
      let later = flat_map (equal_codes byte) (replicate times 255 ++ rest ∷ []) in
      let size : 255 + (times * 255 + rest) ≡ suc times * 255 + rest = omega arith in
      flat_map-append meant (equal_codes byte 255) later
      ∙ ap (λ (l : List ℕ). l ++ flat_map meant later) (meant_equal byte 255)
      ∙ ap (λ (l : List ℕ). replicate 255 byte ++ l) (meant_counts times rest)
      ∙ replicate-append-replicate 255 (times * 255 + rest) byte
      ∙ ap (λ (n : ℕ). replicate n byte) size

-- the bytes of a run
abbrev spelled : Run → List ℕ
spelled run = replicate run.count run.byte

meant_run : (run : Run) → flat_map meant (run_codes run) ≡ spelled run
meant_run run =
    let size : run.count / 255 * 255 + run.count % 255 ≡ run.count = omega arith in
    meant_counts run.byte (run.count / 255) (run.count % 255) ∙ ap (λ (n : ℕ). replicate n run.byte) size

all_runs : (runs : List Run) → AllByRecursion IsCode (flat_map run_codes runs)
all_runs [] = tt
all_runs (run ∷ runs) =
    all_append IsCode (run_codes run) (flat_map run_codes runs) (all_counts run.byte (replicate (run.count / 255) 255 ++ (run.count % 255) ∷ [])) (all_runs runs)

meant_runs : (runs : List Run) → flat_map meant (flat_map run_codes runs) ≡ flat_map spelled runs
meant_runs [] = refl
meant_runs (run ∷ runs) = flat_map-append meant (run_codes run) (flat_map run_codes runs) ∙ (λ i. meant_run run i ++ meant_runs runs i)

spelled_before : (byte : ℕ) (runs : List Run) → flat_map spelled (before_runs (record { byte = byte; count = 1 }) runs) ≡ byte ∷ flat_map spelled runs
spelled_before byte [] = refl
spelled_before byte (next ∷ runs) =
    let longer : Run = record { byte = byte; count = 1 + next.count } in
    let other : List Run = record { byte = byte; count = 1 } ∷ next ∷ runs in
    by_test (flat_map spelled (before_runs (record { byte = byte; count = 1 }) (next ∷ runs)) ≡ byte ∷ flat_map spelled (next ∷ runs)) (byte == next.byte)
    (λ same.
    let more : 1 + next.count ≡ suc next.count = omega arith in
    ap (λ (t : Bool). flat_map spelled (if t then longer ∷ runs else other)) same
    ∙ ap (λ (n : ℕ). replicate n byte ++ flat_map spelled runs) more
    ∙ ap (λ (b : ℕ). byte ∷ (replicate next.count b ++ flat_map spelled runs)) (eqb-true byte next.byte same))
    (λ differs. ap (λ (t : Bool). flat_map spelled (if t then longer ∷ runs else other)) differs)

spelled_runs : (bytes : List ℕ) → flat_map spelled (runs_of bytes) ≡ bytes
spelled_runs [] = refl
spelled_runs (byte ∷ bytes) = spelled_before byte (runs_of bytes) ∙ ap (λ (l : List ℕ). byte ∷ l) (spelled_runs bytes)

pub packed_again : (bytes : List ℕ) → unpacked (packed bytes) ≡ Ok bytes
unfolding packed
packed_again bytes =
    let runs = runs_of bytes in codes_read (flat_map run_codes runs) (all_runs runs) ∙ ap Ok (meant_runs runs ∙ spelled_runs bytes)

-- what was read is what the codes mean
pub coding_given : (coded : List ℕ) (result : Result (List ℕ) (Stop BridgeFault)) → Gives (unpacked coded) result → IfOk result (IsCoding coded)
coding_given coded (Ok bytes) is = coding_read coded bytes is
coding_given coded (Err stop) is = tt

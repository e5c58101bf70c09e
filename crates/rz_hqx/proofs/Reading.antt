-- Codes are read one after the other.
use Rattle.std.proofs.Common.{◌≡◌, ℕ, suc, ◌+◌, ◌-◌, ◌==◌, if◌then◌else◌, Bool, false, List, [], ◌∷◌, ◌++◌, length, get_or, replicate, Ok, Err, Result, refl, sym, ap, ◌∙◌, arith, append_assoc}
use Rattle.std.proofs.lemmas.Bool.{ne_eqb}
use Rattle.std.proofs.lemmas.List.{append-nil, get_or_push, replicate_more, length_push}
use Rattle.std.specs.List.{flat_map}
use Rattle.rz_core.proofs.Tests.{by_test}
use Rattle.rz_core.specs.Lists.{or_else, unless_fault}
use Rattle.rz_bridge.specs.Faults.{broken, fault}
use Rattle.rz_bridge.specs.declared.fault.BridgeFault.{BridgeFault}
use Rattle.rz_hqx.specs.Held.{last_of, run_behind, unpacked_behind}
use Rattle.rz_hqx.specs.Runs.{cut_of, marked, meant, run_at_start, unpacked, with_byte, with_count, Cut}

-- what is read of codes from a place on, after bytes that are known
abbrev pub Read : Type 0
Read = Result (List ℕ) BridgeFault

-- the bytes that counts add after a byte
abbrev grown : ℕ → List ℕ → List ℕ
grown byte counts = flat_map (λ count. replicate (count - 1) byte) counts

-- what is read where the codes end there
abbrev ended : ℕ → Bool → List ℕ → Read
ended end torn bytes = unless_fault (broken torn (fault 445 (end - 1) 1)) bytes

-- what is read after bytes, of which this one is the last
abbrev after : List ℕ → ℕ → ℕ → Cut → Read
after front byte end cut = ended end cut.torn (front ++ byte ∷ [] ++ (grown byte cut.counts ++ flat_map meant cut.codes))

last_is : (front : List ℕ) (byte : ℕ) → last_of (front ++ byte ∷ []) ≡ byte
last_is front byte = get_or_push front byte 0 (length (front ++ byte ∷ []) - 1) (omega (arith, length_push front byte))

-- copies after a byte stand before it as well
copies_are : (front : List ℕ) (byte count : ℕ) → front ++ byte ∷ [] ++ replicate count byte ≡ front ++ replicate count byte ++ byte ∷ []
copies_are front byte count =
    let one : suc count ≡ count + 1 = omega arith in
    append_assoc front (byte ∷ []) (replicate count byte)
    ∙ ap (λ (n : ℕ). front ++ replicate n byte) one
    ∙ ap (λ (l : List ℕ). front ++ l) (sym (replicate_more count byte))
    ∙ sym (append_assoc front (replicate count byte) (byte ∷ []))

-- a byte by itself goes on as its code
byte_after : (front bytes : List ℕ) (byte end : ℕ) (cut : Cut) → bytes ≡ front
    → after front byte end cut ≡ ended end (with_byte byte cut).torn (bytes ++ flat_map meant (with_byte byte cut).codes)
byte_after front bytes byte end cut is =
    ap (ended end cut.torn) (append_assoc front (byte ∷ []) (grown byte cut.counts ++ flat_map meant cut.codes))
    ∙ ap (λ (l : List ℕ). ended end cut.torn (l ++ byte ∷ (grown byte cut.counts ++ flat_map meant cut.codes))) (sym is)

count_after : (front : List ℕ) (byte count end : ℕ) (cut : Cut)
    → after (front ++ replicate (count - 1) byte) byte end cut ≡ after front byte end (with_count count cut)
count_after front byte count end cut =
    let copies = replicate (count - 1) byte in
    let later = grown byte cut.counts in
    let codes = flat_map meant cut.codes in
    ap (λ (l : List ℕ). ended end cut.torn (l ++ (later ++ codes))) (sym (copies_are front byte (count - 1)))
    ∙ ap (ended end cut.torn) (append_assoc (front ++ byte ∷ []) copies (later ++ codes))
    ∙ ap (λ (l : List ℕ). ended end cut.torn (front ++ byte ∷ [] ++ l)) (sym (append_assoc copies later codes))

mutual
  goes_on : (xs front : List ℕ) (byte place : ℕ) → unpacked_behind (front ++ byte ∷ []) place xs ≡ after front byte (place + length xs) (cut_of xs)
  goes_on [] front byte place = ap Ok (sym (append-nil (front ++ byte ∷ [])))
  goes_on (x ∷ xs) front byte place =
      let known = front ++ byte ∷ [] in
      let cut = cut_of xs in
      let size : place + 1 + length xs ≡ place + suc (length xs) = omega arith in
      by_test (unpacked_behind known place (x ∷ xs) ≡ after front byte (place + suc (length xs)) (cut_of (x ∷ xs))) (x == 144)
      (λ is.
      ap (λ (t : Bool). if t then run_behind known place xs else unpacked_behind (known ++ x ∷ []) (place + 1) xs) is
      ∙ run_goes_on xs front byte place
      ∙ sym (ap (λ (t : Bool). after front byte (place + suc (length xs)) (if t then marked xs else with_byte x cut)) is))
      (λ differs.
      ap (λ (t : Bool). if t then run_behind known place xs else unpacked_behind (known ++ x ∷ []) (place + 1) xs) differs
      ∙ goes_on xs known x (place + 1)
      ∙ ap (λ (n : ℕ). after known x n cut) size
      ∙ byte_after known known x (place + suc (length xs)) cut refl
      ∙ sym (ap (λ (t : Bool). after front byte (place + suc (length xs)) (if t then marked xs else with_byte x cut)) differs))

  run_goes_on : (xs front : List ℕ) (byte place : ℕ) → run_behind (front ++ byte ∷ []) place xs ≡ after front byte (place + suc (length xs)) (marked xs)
  run_goes_on [] front byte place = let end : place ≡ place + 1 - 1 = omega arith in ap (λ (n : ℕ). Err (fault 445 n 1)) end
  run_goes_on (count ∷ xs) front byte place =
      let known = front ++ byte ∷ [] in
      let copies = replicate (count - 1) byte in
      let cut = cut_of xs in
      let end = place + suc (suc (length xs)) in
      let size : place + 2 + length xs ≡ end = omega arith in
      let zero_on = unpacked_behind (known ++ 144 ∷ []) (place + 2) xs in
      let run_on = unpacked_behind (known ++ replicate (count - 1) (last_of known)) (place + 2) xs in
      let none_on : Read = if length known == 0 then Err (fault 446 place count) else run_on in
      by_test (run_behind known place (count ∷ xs) ≡ after front byte end (marked (count ∷ xs))) (count == 0)
      (λ is.
      ap (λ (t : Bool). if t then zero_on else none_on) is
      ∙ goes_on xs known 144 (place + 2)
      ∙ ap (λ (n : ℕ). after known 144 n cut) size
      ∙ byte_after known known 144 end cut refl
      ∙ sym (ap (λ (t : Bool). after front byte end (if t then with_byte 144 cut else with_count count cut)) is))
      (λ differs.
      let before : (length known == 0) ≡ false = ne_eqb (length known) 0 (omega (arith, length_push front byte)) in
      ap (λ (t : Bool). if t then zero_on else none_on) differs
      ∙ ap (λ (t : Bool). if t then Err (fault 446 place count) else run_on) before
      ∙ ap (λ (b : ℕ). unpacked_behind (known ++ replicate (count - 1) b) (place + 2) xs) (last_is front byte)
      ∙ ap (λ (l : List ℕ). unpacked_behind l (place + 2) xs) (copies_are front byte (count - 1))
      ∙ goes_on xs (front ++ copies) byte (place + 2)
      ∙ ap (λ (n : ℕ). after (front ++ copies) byte n cut) size
      ∙ count_after front byte count end cut
      ∙ sym (ap (λ (t : Bool). after front byte end (if t then with_byte 144 cut else with_count count cut)) differs))

-- what is read from the first code on
abbrev from_cut : ℕ → Cut → Read
from_cut end cut = unless_fault (or_else (run_at_start cut.counts) (broken cut.torn (fault 445 (end - 1) 1))) (flat_map meant cut.codes)

pub unpacked_is : (coded : List ℕ) → unpacked_behind [] 0 coded ≡ unpacked coded
unfolding unpacked
unpacked_is [] = refl
unpacked_is (x ∷ xs) =
    by_test (unpacked_behind [] 0 (x ∷ xs) ≡ from_cut (suc (length xs)) (cut_of (x ∷ xs))) (x == 144)
    (λ is.
    ap (λ (t : Bool). if t then run_behind [] 0 xs else unpacked_behind (x ∷ []) 1 xs) is
    ∙ run_begins xs
    ∙ sym (ap (λ (t : Bool). from_cut (suc (length xs)) (if t then marked xs else with_byte x (cut_of xs))) is))
    (λ differs.
    ap (λ (t : Bool). if t then run_behind [] 0 xs else unpacked_behind (x ∷ []) 1 xs) differs
    ∙ byte_begins xs x 1 (suc (length xs)) (omega arith)
    ∙ sym (ap (λ (t : Bool). from_cut (suc (length xs)) (if t then marked xs else with_byte x (cut_of xs))) differs))
  where
    byte_begins : (xs : List ℕ) (byte place end : ℕ) → place + length xs ≡ end → unpacked_behind (byte ∷ []) place xs ≡ from_cut end (with_byte byte (cut_of xs))
    byte_begins xs byte place end size =
        goes_on xs [] byte place ∙ ap (λ (n : ℕ). after [] byte n (cut_of xs)) size ∙ byte_after [] [] byte end (cut_of xs) refl

    run_begins : (xs : List ℕ) → run_behind [] 0 xs ≡ from_cut (suc (length xs)) (marked xs)
    run_begins [] = refl
    run_begins (count ∷ xs) =
        let zero_on = unpacked_behind (144 ∷ []) 2 xs in
        let end = suc (suc (length xs)) in
        by_test (run_behind [] 0 (count ∷ xs) ≡ from_cut end (marked (count ∷ xs))) (count == 0)
        (λ is.
        ap (λ (t : Bool). if t then zero_on else Err (fault 446 0 count)) is
        ∙ byte_begins xs 144 2 end (omega arith)
        ∙ sym (ap (λ (t : Bool). from_cut end (if t then with_byte 144 (cut_of xs) else with_count count (cut_of xs))) is))
        (λ differs.
        ap (λ (t : Bool). if t then zero_on else Err (fault 446 0 count)) differs
        ∙ sym (ap (λ (t : Bool). from_cut end (if t then with_byte 144 (cut_of xs) else with_count count (cut_of xs))) differs))

-- Entries in a store to which a name and its contents are added.
use Rattle.std.proofs.Common.{◌≡◌, ℕ, ◌≤◌, ◌<◌, ◌+◌, ◌-◌, ◌^◌, List, [], ◌∷◌, ◌++◌, length, take, drop, refl, sym, ap, ◌∙◌, arith, length-drop, length-append, append_assoc}
use Rattle.std.specs.Prelude.{slice_range}
use Rattle.std.specs.FinMap as map
use Rattle.std.proofs.lemmas.List.{take-append-le, drop-append-le, take_at, drop_at, take_all}
use Rattle.rz_folder.specs.Entries.{pairs_of, files_of, AreWithin}
use Rattle.rz_folder.specs.declared.mem_folder.Entry.{Entry}

-- a range of a store that has grown
pub slice_range-append : (store more : List ℕ) (i j : ℕ) → i ≤ j → j ≤ length store → slice_range (store ++ more) i j ≡ slice_range store i j
slice_range-append store more i j order within =
    ap (take (j - i)) (drop-append-le i store more (omega arith))
    ∙ take-append-le (j - i) (drop i store) more (omega (arith, length-drop i store))

pub pairs_of-append : (store more : List ℕ) (es : List Entry) → AreWithin es (length store) → pairs_of (store ++ more) es ≡ pairs_of store es
pairs_of-append store more [] within = refl
pairs_of-append store more (e ∷ es) within =
    let name = slice_range-append store more e.name_start e.contents_start within.0 (omega arith) in
    let contents = slice_range-append store more e.contents_start e.end within.1 within.2 in
    λ i. (name i, contents i) ∷ pairs_of-append store more es within.4 i

-- what lies within a store lies within a longer one
pub AreWithin-longer : (es : List Entry) (n m : ℕ) → n ≤ m → AreWithin es n → AreWithin es m
AreWithin-longer [] n m longer within = tt
AreWithin-longer (e ∷ es) n m longer within = (within.0, within.1, omega arith, within.3, AreWithin-longer es n m longer within.4)

module _ (store name bytes : List ℕ) (es : List Entry) (within : AreWithin es (length store)) (start middle end : ℕ)
    (at_start : start ≡ length store) (at_middle : middle ≡ length store + length name) (at_end : end ≡ length store + (length name + length bytes)) where
  abbrev pub added : List Entry
  added = record { name_start = start; contents_start = middle; end = end } ∷ es

  added_name : slice_range (store ++ (name ++ bytes)) start middle ≡ name
  added_name = ap (take (middle - start)) (drop_at store (name ++ bytes) start (sym at_start)) ∙ take_at name bytes (middle - start) (omega arith)

  added_contents : slice_range (store ++ (name ++ bytes)) middle end ≡ bytes
  added_contents =
      ap (λ (l : List ℕ). slice_range l middle end) (sym (append_assoc store name bytes))
      ∙ ap (take (end - middle)) (drop_at (store ++ name) bytes middle (omega (arith, length-append store name)))
      ∙ take_all (end - middle) bytes (omega arith)

  -- the new entry's name holds the new contents, and all others are as before
  pub files_of-added : files_of (store ++ (name ++ bytes)) added ≡ map.insert (files_of store es) name bytes
  files_of-added = λ i. map.insert (map.from_entries (pairs_of-append store (name ++ bytes) es within i)) (added_name i) (added_contents i)

  pub AreWithin-added : length bytes < 2 ^ 32 → AreWithin added (length (store ++ (name ++ bytes)))
  AreWithin-added short =
      let size : length (store ++ (name ++ bytes)) ≡ length store + (length name + length bytes) = simp length-append in
      (omega arith, omega arith, omega arith, omega arith, AreWithin-longer es (length store) _ (omega arith) within)

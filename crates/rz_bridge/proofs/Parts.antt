-- The entries of a file that was written, and when its rules hold.
use Rattle.std.proofs.Common.{◌≡◌, ℕ, ◌+◌, ◌*◌, ◌^◌, ◌<◌, ◌≤◌, ◌==◌, ◌&&◌, ◌||◌, nat_lt, if◌then◌else◌, not, Bool, true, false, List, [], ◌∷◌, ◌++◌, length, map, replicate, Some, None, refl, sym, ap, subst, ◌∙◌, arith, append_assoc, length-append}
use Rattle.std.proofs.lemmas.List.{length-replicate}
use Rattle.std.proofs.lemmas.List.Concat.{flat_map-append}
use Rattle.std.specs.List.{find, AllByRecursion}
use Rattle.std.proofs.lemmas.Bool.{eq-eqb, le-ltb}
use Rattle.rz_core.specs.Lists.{with_front, each_with_front, or_else, first_of}
use Rattle.rz_core.specs.Numbers.{be, length-be_2, length-be_4, number, items_from}
use Rattle.rz_bridge.specs.Faults.{fault, broken}
use Rattle.rz_bridge.specs.Apple.{entry_at, entry_count, entries, entry_bytes, part, short_header, magic_of, bad_magic, newer_version, entries_outside, entry_outside, apple_torn, Part, bytes_of, entry_of, part_entry, apple_start, image_of}
use Rattle.rz_bridge.specs.declared.apple.AppleForm.{AppleForm}
use Rattle.rz_bridge.specs.declared.apple.AppleForm.TheVariants.{Double, Single}
use Rattle.rz_bridge.specs.declared.entry.Entry.{Entry}
use Rattle.rz_core.proofs.Placed.{Has, has_all, has_left, has_right, has_at, number_is}
use Rattle.rz_bridge.proofs.Standing.{AreAt, all_at, piece_is}
use Rattle.rz_bridge.proofs.Holds.{unbroken, inside}

-- Lengths.

pub length-entry_of : (id offset count : ℕ) → length (entry_of id offset count) ≡ 12
unfolding entry_of
length-entry_of id offset count = omega (arith, length-append {A = ℕ}, length-be_4)

pub length-apple_start : (form : AppleForm) (count : ℕ) → length (apple_start form count) ≡ 26
unfolding apple_start
length-apple_start form count = omega (arith, length-append {A = ℕ}, length-replicate {A = ℕ}, length-be_2, length-be_4)

length-entries : (count : ℕ) (before parts : List Part) → length (with_front (part_entry count) before parts) ≡ 12 * length parts
length-entries count before [] = omega arith
length-entries count before (p ∷ ps) =
    let own = part_entry count before p in
    let rest = with_front (part_entry count) (before ++ p ∷ []) ps in
    omega (arith, length-append own rest, length-entry_of p.id (26 + 12 * count + length (bytes_of before)) (length p.bytes), length-entries count (before ++ p ∷ []) ps)

bytes_append : (before parts : List Part) → length (bytes_of (before ++ parts)) ≡ length (bytes_of before) + length (bytes_of parts)
bytes_append before parts = ap length (flat_map-append (λ (p : Part). p.bytes) before parts) ∙ length-append (bytes_of before) (bytes_of parts)

bytes_split : (before : List Part) (p : Part) (after : List Part) → length (bytes_of (before ++ p ∷ after)) ≡ length (bytes_of before) + length p.bytes + length (bytes_of after)
bytes_split before p after = omega (arith, bytes_append before (p ∷ after), length-append p.bytes (bytes_of after))

pub length-image_of : (form : AppleForm) (parts : List Part) → length (image_of form parts) ≡ 26 + 12 * length parts + length (bytes_of parts)
length-image_of form parts =
    let heads = each_with_front (part_entry (length parts)) parts in
    omega (
      arith,
      length-append (apple_start form (length parts) ++ heads) (bytes_of parts),
      length-append (apple_start form (length parts)) heads,
      length-apple_start form (length parts),
      length-entries (length parts) [] parts,
    )

-- Entries.

-- the entry of a part at a place, among so many and after those before it
abbrev pub read_entry : ℕ → ℕ → List Part → Part → Entry
read_entry count place before p =
    record { place = place; id = p.id; offset = 26 + 12 * count + length (bytes_of before); length = length p.bytes }

abbrev pub read_entries : ℕ → ℕ → List Part → List Part → List Entry
read_entries count place before [] = []
read_entries count place before (p ∷ ps) = read_entry count place before p ∷ read_entries count (place + 12) (before ++ p ∷ []) ps

entry_is : (bytes : List ℕ) (place id offset count : ℕ) → Has bytes place (entry_of id offset count) → id < 2 ^ 32 → offset < 2 ^ 32 → count < 2 ^ 32
    → entry_at bytes place ≡ record { place = place; id = id; offset = offset; length = count }
unfolding entry_at entry_of
entry_is bytes place id offset count has id_fits offset_fits count_fits =
    let all = all_at bytes place (be 4 id) (be 4 offset ∷ be 4 count ∷ []) has in
    let first : number 4 bytes place ≡ id = number_is bytes 4 place id all.0 (omega arith) in
    let second : number 4 bytes (place + 4) ≡ offset =
    number_is bytes 4 (place + 4) offset (has_at bytes _ (place + 4) (be 4 offset) (omega (arith, length-be_4 id)) all.1.0) (omega arith) in
    let third : number 4 bytes (place + 8) ≡ count =
    number_is bytes 4 (place + 8) count (has_at bytes _ (place + 8) (be 4 count) (omega (arith, length-be_4 id, length-be_4 offset)) all.1.1.0) (omega arith) in
    λ i. record { place = place; id = first i; offset = second i; length = third i }

-- an id has 32 bits
abbrev pub HasId : Part → Type 0
HasId p = p.id < 2 ^ 32

entries_are : (bytes : List ℕ) (count place : ℕ) (before parts : List Part) → Has bytes place (with_front (part_entry count) before parts) → AllByRecursion HasId parts
    → 26 + 12 * count + length (bytes_of (before ++ parts)) < 2 ^ 32
    → items_from (entry_at bytes) 12 place (length parts) ≡ read_entries count place before parts
entries_are bytes count place before [] has ids small = refl
entries_are bytes count place before (p ∷ ps) has ids small =
    let offset = 26 + 12 * count + length (bytes_of before) in
    let own = entry_of p.id offset (length p.bytes) in
    let rest = with_front (part_entry count) (before ++ p ∷ []) ps in
    let size = bytes_split before p ps in
    let first = entry_is bytes place p.id offset (length p.bytes) (has_left bytes place own rest has) ids.0 (omega (arith, size)) (omega (arith, size)) in
    let shifted : 26 + 12 * count + length (bytes_of ((before ++ p ∷ []) ++ ps)) < 2 ^ 32 =
    subst (λ (l : List Part). 26 + 12 * count + length (bytes_of l) < 2 ^ 32) (sym (append_assoc before (p ∷ []) ps)) small in
    let later = entries_are bytes count (place + 12) (before ++ p ∷ []) ps
    (has_right bytes place (place + 12) own rest (omega (arith, length-entry_of p.id offset (length p.bytes))) has) ids.1 shifted in
    λ i. first i ∷ later i

magic_fits : (form : AppleForm) → magic_of form < 2 ^ 32
magic_fits Double = omega arith
magic_fits Single = omega arith

-- The bytes of a part.

-- the bytes of the first part with an id; where there is none, no bytes
abbrev pub bytes_with : ℕ → List Part → List ℕ
bytes_with id [] = []
bytes_with id (p ∷ ps) = if p.id == id then p.bytes else bytes_with id ps

found : (bytes : List ℕ) (count place id : ℕ) (before parts : List Part) → Has bytes (26 + 12 * count + length (bytes_of before)) (bytes_of parts)
    → entry_bytes bytes (find (λ entry. entry.id == id) (read_entries count place before parts)) ≡ bytes_with id parts
found bytes count place id before [] has = refl
found bytes count place id before (p ∷ ps) has =
    let at = 26 + 12 * count + length (bytes_of before) in
    let next = 26 + 12 * count + length (bytes_of (before ++ p ∷ [])) in
    by_id (p.id == id)
    (found bytes count (place + 12) id (before ++ p ∷ []) ps (has_right bytes at next p.bytes (bytes_of ps) (omega (arith, bytes_split before p [])) has))
  where
    by_id : (same : Bool)
        → entry_bytes bytes (find (λ entry. entry.id == id) (read_entries count (place + 12) (before ++ p ∷ []) ps)) ≡ bytes_with id ps
        → entry_bytes bytes (if same then Some (read_entry count place before p) else find (λ entry. entry.id == id) (read_entries count (place + 12) (before ++ p ∷ []) ps))
        ≡ (if same then p.bytes else bytes_with id ps)
    by_id true rest =
        let at = 26 + 12 * count + length (bytes_of before) in
        piece_is bytes at p.bytes (has_left bytes at p.bytes (bytes_of ps) has)
    by_id false rest = rest

-- Rules.

within : (bytes : List ℕ) (entry : Entry) → entry.offset + entry.length ≤ length bytes → entry_outside bytes entry ≡ None
unfolding entry_outside
within bytes entry ends =
    unbroken (nat_lt 0 entry.length && nat_lt (length bytes) (entry.offset + entry.length)) (fault 423 entry.place entry.id)
    (inside (length bytes) entry.offset entry.length (λ some. ends))

all_within : (bytes : List ℕ) (count place : ℕ) (before parts : List Part) → 26 + 12 * count + length (bytes_of (before ++ parts)) ≤ length bytes
    → first_of (map (entry_outside bytes) (read_entries count place before parts)) ≡ None
all_within bytes count place before [] ends = refl
all_within bytes count place before (p ∷ ps) ends =
    let size = bytes_split before p ps in
    let first = within bytes (read_entry count place before p) (omega (arith, size)) in
    let shifted : 26 + 12 * count + length (bytes_of ((before ++ p ∷ []) ++ ps)) ≤ length bytes =
    subst (λ (l : List Part). 26 + 12 * count + length (bytes_of l) ≤ length bytes) (sym (append_assoc before (p ∷ []) ps)) ends in
    let later = all_within bytes count (place + 12) (before ++ p ∷ []) ps shifted in
    λ i. or_else (first i) (later i)

module _ (form : AppleForm) (parts : List Part) (ids : AllByRecursion HasId parts) (few : length parts < 2 ^ 16) (small : 26 + 12 * length parts + length (bytes_of parts) < 2 ^ 32) where
  abbrev image : List ℕ
  image = image_of form parts

  count : ℕ
  count = length parts

  abbrev heads : List ℕ
  heads = each_with_front (part_entry (length parts)) parts

  whole : Has image 0 (apple_start form (length parts)) × AreAt image (0 + length (apple_start form (length parts))) (heads ∷ bytes_of parts ∷ [])
  whole = all_at image 0 (apple_start form (length parts)) (heads ∷ bytes_of parts ∷ []) (has_all image)

  start : Has image 0 (be 4 (magic_of form)) × AreAt image (0 + length (be 4 (magic_of form))) (be 4 131072 ∷ replicate 16 0 ∷ be 2 (length parts) ∷ [])
  unfolding apple_start
  start = all_at image 0 (be 4 (magic_of form)) (be 4 131072 ∷ replicate 16 0 ∷ be 2 (length parts) ∷ []) whole.0

  magic_is : number 4 image 0 ≡ magic_of form
  magic_is = number_is image 4 0 (magic_of form) start.0 (magic_fits form)

  version_is : number 4 image 4 ≡ 131072
  version_is = number_is image 4 4 131072 (has_at image _ 4 (be 4 131072) (omega (arith, length-be_4)) start.1.0) (omega arith)

  count_is : entry_count image ≡ length parts
  unfolding entry_count
  count_is =
      number_is image 2 24 (length parts) (has_at image _ 24 (be 2 (length parts)) (omega (arith, length-be_4, length-replicate {A = ℕ})) start.1.1.1.0)
      (omega (arith, few))

  -- where the bytes of the parts begin
  pub bytes_at : Has image (26 + 12 * length parts) (bytes_of parts)
  bytes_at =
      has_at image _ (26 + 12 * length parts) (bytes_of parts) (omega (arith, length-apple_start form (length parts), length-entries (length parts) [] parts)) whole.1.1.0

  pub entries_read : entries image ≡ read_entries (length parts) 26 [] parts
  unfolding entries
  entries_read =
      ap (items_from (entry_at image) 12 26) count_is
      ∙ entries_are image (length parts) 26 [] parts (has_at image _ 26 heads (omega (arith, length-apple_start form (length parts))) whole.1.0) ids small

  -- what is read of an id: the bytes of its first part
  pub part_of_image : (id : ℕ) → part image id ≡ bytes_with id parts
  unfolding part
  part_of_image id =
      ap (λ (l : List Entry). entry_bytes image (find (λ entry. entry.id == id) l)) entries_read ∙ found image (length parts) 26 id [] parts (has_at image _ (26 + 12 * length parts + length (bytes_of [])) (bytes_of parts) (omega arith) bytes_at)

  long : short_header image ≡ None
  unfolding short_header
  long =
      unbroken (nat_lt (length image) 26) (fault 421 0 (length image)) (le-ltb (length image) 26 (omega (arith, length-image_of form parts)))

  magic_holds : bad_magic form image ≡ None
  unfolding bad_magic
  magic_holds =
      unbroken (not (number 4 image 0 == magic_of form)) (fault 422 0 (number 4 image 0))
      (ap not (eq-eqb (number 4 image 0) (magic_of form) magic_is))

  version_holds : newer_version image ≡ None
  unfolding newer_version
  version_holds = ap (λ (version : ℕ). broken (not ((version == 131072) || (version == 65536))) (fault 427 4 version)) version_is

  entries_hold : entries_outside image ≡ None
  unfolding entries_outside
  entries_hold =
      unbroken (nat_lt (length image) (26 + 12 * entry_count image)) (fault 423 24 (entry_count image))
      (le-ltb (length image) (26 + 12 * entry_count image) (omega (arith, length-image_of form parts, count_is)))

  pub holds : apple_torn form image ≡ None
  unfolding apple_torn
  holds =
      let each = ap (λ (l : List Entry). first_of (map (entry_outside image) l)) entries_read
      ∙ all_within image (length parts) 26 [] parts (omega (arith, length-image_of form parts)) in
      λ i. or_else (long i) (or_else (magic_holds i) (or_else (version_holds i) (or_else (entries_hold i) (or_else (each i) None))))

-- Names and contents that lie one after the other in a store of bytes.
use Rattle.std.specs.Prelude.{ℕ, ◌≤◌, ◌<◌, ◌+◌, ◌^◌, List, [], ◌∷◌, slice_range}
use Rattle.std.specs.FinMap as map
use Rattle.rz_folder.specs.Folder.{Files}
use Rattle.rz_folder.specs.declared.mem_folder.Entry.{Entry}

-- the name and the contents of an entry
abbrev pub pair_of : List ℕ → Entry → List ℕ × List ℕ
pair_of store e = (slice_range store e.name_start e.contents_start, slice_range store e.contents_start e.end)

-- the names and contents of several
abbrev pub pairs_of : List ℕ → List Entry → List (List ℕ × List ℕ)
pairs_of store [] = []
pairs_of store (e ∷ es) = pair_of store e ∷ pairs_of store es

-- the files that they stand for; of a name that stands there twice the first entry counts
abbrev pub files_of : List ℕ → List Entry → Files
files_of store entries = map.from_entries (pairs_of store entries)

-- each entry lies within the first bytes, so many of them, and its contents are fewer than 2^32
abbrev pub AreWithin : List Entry → ℕ → Type 0
AreWithin [] size = Unit {0}
AreWithin (e ∷ es) size =
    (e.name_start ≤ e.contents_start) × (e.contents_start ≤ e.end) × (e.end ≤ size)
    × (e.end < e.contents_start + 2 ^ 32) × AreWithin es size

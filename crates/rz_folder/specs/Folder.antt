-- What a folder holds, and what a read and a write say of it.
use Rattle.std.specs.Prelude.{◌≡◌, ℕ, ◌^◌, ◌<◌, List, length, IsSomeAnd}
use Rattle.std.specs.declared.option.Option.{Option}
use Rattle.std.specs.declared.option.Option.TheVariants.{Some, None}
use Rattle.std.specs.Ordering.{nat_cmp}
use Rattle.std.specs.Cmp.Lexicographic.{slice_cmp}
use Rattle.std.specs.FinMap as map
use Rattle.rz_folder.specs.declared.folder.Read.{Read}
use Rattle.rz_folder.specs.declared.folder.Read.TheVariants as read
use Rattle.rz_folder.specs.declared.folder.Written.{Written}
use Rattle.rz_folder.specs.declared.folder.Written.TheVariants as written

-- the contents under each name; names and contents are lists of bytes
abbrev pub Files : Type 0
Files = map.FinMap (slice_cmp nat_cmp) (List ℕ)

-- contents that a read gives are fewer than 2^32 bytes
abbrev pub IsShort : Read → Type 0
IsShort (read.Bytes bytes) = length bytes < 2 ^ 32
IsShort read.Missing = Unit {0}
IsShort read.Failed = Unit {0}
IsShort read.NoMemory = Unit {0}

-- a read that gives contents gives those under the name, and one that finds none is right
abbrev pub ReadsEntry : Option (List ℕ) → Read → Type 0
ReadsEntry entry (read.Bytes bytes) = entry ≡ Some bytes
ReadsEntry entry read.Missing = entry ≡ None
ReadsEntry entry read.Failed = Unit {0}
ReadsEntry entry read.NoMemory = Unit {0}

-- what a read of a name gives, for a folder that holds these files or doesn't tell
abbrev pub Reads : List ℕ → Option Files → Read → Type 0
Reads name None result = IsShort result
Reads name (Some files) result = IsShort result × ReadsEntry (map.get files name) result

-- How a write of bytes under a name changes the files that a folder tells. One that is done sets that
-- entry alone; one that failed leaves all entries but that one as they were.
abbrev pub Writes : List ℕ → List ℕ → Option Files → Option Files → Written → Type 0
Writes name bytes None after result = Unit {0}
Writes name bytes (Some before) after written.Done = after ≡ Some (map.insert before name bytes)
Writes name bytes (Some before) after written.Failed =
    IsSomeAnd after (λ files. map.remove files name ≡ map.remove before name)

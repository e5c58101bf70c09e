-- Which names a call may read.
use Rattle.std.specs.Prelude.{◌≡◌, ℕ, List, Option, Some, None, slice_get}
use Rattle.rz_folder.specs.Folder.{Files}
use Rattle.rz_folder.specs.declared.folder.Folder.{Ghosts}

-- each of these names may be read
abbrev pub MayRead : {F : Type 0} → Ghosts F → F → (List ℕ → Type 0) → Type 0
MayRead g folder Names = (name : List ℕ) → Names name → g.may_read folder name

-- one of these names
abbrev pub IsOneOf : List (List ℕ) → List ℕ → Type 0
IsOneOf names name = (k : ℕ) × (slice_get names k ≡ Some name)

-- the name, where one is given
abbrev pub IsIt : Option (List ℕ) → List ℕ → Type 0
IsIt None name = ⊥
IsIt (Some one) name = name ≡ one

-- the names that depend on what the files hold: where a folder doesn't tell its files, all names are
abbrev pub ByFiles : (Files → List ℕ → Type 0) → Option Files → List ℕ → Type 0
ByFiles Names None name = Unit {0}
ByFiles Names (Some files) name = Names files name

-- each of the names that depend on the files of the folder may be read
abbrev pub MayReadOf : {F : Type 0} → Ghosts F → F → (Files → List ℕ → Type 0) → Type 0
MayReadOf g folder Names = MayRead g folder (ByFiles Names (g.files folder))

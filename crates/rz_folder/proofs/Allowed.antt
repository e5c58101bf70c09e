-- What a caller may read, a call may read.
use Rattle.std.proofs.Common.{◌≡◌, ℕ, List, Option, Some, None, refl, subst}
use Rattle.rz_folder.specs.Folder.{Files}
use Rattle.rz_folder.specs.MayRead.{ByFiles, MayRead, MayReadOf}
use Rattle.rz_folder.specs.OnlyReads.{OnlyReads}
use Rattle.rz_folder.specs.declared.folder.Folder.{Ghosts}

-- some names are among others, where that is so of the files that a folder tells
by_files : (told : Option Files) (Names Others : Files → List ℕ → Type 0)
    → ((files : Files) → told ≡ Some files → (name : List ℕ) → Names files name → Others files name) → (name : List ℕ) → ByFiles Names told name → ByFiles Others told name
by_files None Names Others so name is = tt
by_files (Some files) Names Others so name is = so files refl name is

-- names that don't depend on files
by_no_files : (told : Option Files) (Names : List ℕ → Type 0) → (name : List ℕ) → Names name → ByFiles (λ files. Names) told name
by_no_files None Names name is = tt
by_no_files (Some files) Names name is = is

module _ {F : Type 0} (g : Ghosts F) where
  module _ {folder : F} (Names : Files → List ℕ → Type 0) (may : MayReadOf g folder Names) where
    -- names that depend on files, which are among those of the caller
    pub may_read_fewer : (Fewer : Files → List ℕ → Type 0)
        → ((files : Files) → g.files folder ≡ Some files → (name : List ℕ) → Fewer files name → Names files name) → MayReadOf g folder Fewer
    may_read_fewer Fewer so name is = may name (by_files (g.files folder) Fewer Names so name is)

    -- names that don't
    pub may_read_these : (These : List ℕ → Type 0)
        → ((files : Files) → g.files folder ≡ Some files → (name : List ℕ) → These name → Names files name) → MayRead g folder These
    may_read_these These so name is = may name (by_files (g.files folder) (λ files. These) Names so name (by_no_files (g.files folder) These name is))

  module _ {old new : F} {P : Type 0} (reads : OnlyReads g old new P) where
    -- after a call that only reads
    pub may_read_after : (Names : List ℕ → Type 0) → MayRead g old Names → MayRead g new Names
    may_read_after Names may name is = reads.allowed name (may name is)

    pub may_read_of_after : (Names : Files → List ℕ → Type 0) → MayReadOf g old Names → MayReadOf g new Names
    may_read_of_after Names may name is = reads.allowed name (may name (subst (λ (told : Option Files). ByFiles Names told name) reads.unchanged is))

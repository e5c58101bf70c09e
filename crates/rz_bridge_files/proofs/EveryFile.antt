-- Each path gives a name or is refused, and so is each file that is written to it.
use Rattle.std.proofs.Common.{◌≡◌, ◌≢◌, ◌⊎◌, inl, inr, ℕ, List, [], ◌++◌, Ok, Err, refl}
use Rattle.rz_core.proofs.EveryCut.{is_nothing}
use Rattle.rz_core.proofs.Has.{has_is, has_then, Has}
use Rattle.rz_folder.specs.Temporary.{IsParted}
use Rattle.rz_pre_source.specs.Source.{mark, IsBadAt, IsTextOf}
use Rattle.rz_bridge.specs.declared.file.MacFile.{MacFile}
use Rattle.rz_bridge_files.specs.declared.form.Form.{Form}
use Rattle.rz_bridge_files.specs.declared.form.Form.TheVariants.{Raw, AppleDouble, AppleSingle, MacBinary, BinHex}
use Rattle.rz_bridge_files.specs.Names.{bad_name, Named, TakesName}
use Rattle.rz_bridge_files.specs.Names.Named.{own, raw, taken}
use Rattle.rz_bridge_files.specs.Names.TakesName.{foreign, roman}

-- from the laws that a path parts, and that a source has a text or a first fault, and never both
module _ (parts : (path : List ℕ) → (folder last : List ℕ) × IsParted path folder last)
    (reads : (source : List ℕ) → ((text : List ℕ) × IsTextOf source text) ⊎ ((offset : ℕ) × IsBadAt source offset))
    (not_both : (source text : List ℕ) (offset : ℕ) → IsTextOf source text → IsBadAt source offset → ⊥) where
  pub every_name : (path : List ℕ) → Has (TakesName path)
  every_name path = let part = parts path in by part.0 part.1 part.2 (reads (mark ++ part.1))
    where
      by : (folder last : List ℕ) → IsParted path folder last
          → ((text : List ℕ) × IsTextOf (mark ++ last) text) ⊎ ((offset : ℕ) × IsBadAt (mark ++ last) offset) → Has (TakesName path)
      by folder last parted (inl (name, text)) = (Ok name, roman folder last name parted text refl)
      by folder last parted (inr (offset, bad)) = (Err (bad_name last), foreign folder last parted (λ name text. not_both (mark ++ last) name offset text bad) refl)

-- from the law before
module _ (names : (path : List ℕ) → Has (TakesName path)) where
  unless_raw : (form : Form) (path : List ℕ) (file : MacFile) → form ≢ Raw → Dec (file.name ≡ []) → Has (Named form path file)
  unless_raw form path file not_raw (no some) = (Ok file, own not_raw some refl)
  unless_raw form path file not_raw (yes empty) =
      let found = has_then (TakesName path) (λ name renamed. renamed ≡ Ok (record file { name = name })) (names path) (λ name takes. has_is (Ok (record file { name = name }))) in
      (found.0, taken not_raw empty found.1)

  pub every_file : (form : Form) (path : List ℕ) (file : MacFile) → Has (Named form path file)
  every_file Raw path file = (Ok file, raw refl refl)
  every_file AppleDouble path file = unless_raw AppleDouble path file (λ is. cc is) (is_nothing file.name)
  every_file AppleSingle path file = unless_raw AppleSingle path file (λ is. cc is) (is_nothing file.name)
  every_file MacBinary path file = unless_raw MacBinary path file (λ is. cc is) (is_nothing file.name)
  every_file BinHex path file = unless_raw BinHex path file (λ is. cc is) (is_nothing file.name)

-- The first file under some names, from the reads of those before it.
use Rattle.std.proofs.Common.{◌≡◌, ℕ, suc, ◌+◌, List, [], ◌∷◌, drop, Option, Some, None, IfSome, refl, sym, ap, subst, ◌∙◌}
use Rattle.std.specs.Prelude.{slice_get}
use Rattle.std.specs.FinMap as finite
use Rattle.std.proofs.lemmas.List.{at_drop_more}
use Rattle.std.proofs.lemmas.Option.{slice_get_within, get_or_from_slice_get, same_Some}
use Rattle.rz_folder.specs.Folder.{Files, Reads}
use Rattle.rz_folder.specs.MayRead.{IsOneOf}
use Rattle.rz_folder.specs.declared.folder.Read.TheVariants as read
use Rattle.rz_folder.specs.Names.{file_of, first_file}

pub if_some : {A : Type 0} (o : Option A) (P : A → Type 0) → ((x : A) → o ≡ Some x → P x) → IfSome o P
if_some None P so = tt
if_some (Some x) P so = so x refl

pub drop_at : {A : Type 0} (xs : List A) (k : ℕ) (x : A) → slice_get xs k ≡ Some x → drop k xs ≡ x ∷ drop (k + 1) xs
drop_at xs k x is =
    at_drop_more (λ (ys : List _). ys) xs k x (slice_get_within xs k x is) ∙ ap (λ y. y ∷ drop (k + 1) xs) (get_or_from_slice_get xs k x x is)

-- What a read tells.

pub reads_bytes : (name : List ℕ) (told : Option Files) (files : Files) (bytes : List ℕ) → told ≡ Some files → Reads name told (read.Bytes bytes) → finite.get files name ≡ Some bytes
reads_bytes name None files bytes is reads = absurd cc
reads_bytes name (Some others) files bytes is reads = subst (λ (fs : Files). finite.get fs name ≡ Some bytes) (same_Some others files is) reads.1

pub reads_missing : (name : List ℕ) (told : Option Files) (files : Files) → told ≡ Some files → Reads name told read.Missing → finite.get files name ≡ None
reads_missing name None files is reads = absurd cc
reads_missing name (Some others) files is reads = subst (λ (fs : Files). finite.get fs name ≡ None) (same_Some others files is) reads.1

module _ (files : Files) (names : List (List ℕ)) (k : ℕ) (name : List ℕ) (is : slice_get names k ≡ Some name) where
  here : file_of files (drop k names) ≡ first_file name (finite.get files name) (file_of files (drop (k + 1) names))
  here = ap (file_of files) (drop_at names k name is)

  pub found_here : (bytes : List ℕ) → file_of files names ≡ file_of files (drop k names) → finite.get files name ≡ Some bytes → Some (name, bytes) ≡ file_of files names
  found_here bytes so_far has =
      sym (so_far ∙ here ∙ ap (λ (o : Option (List ℕ)). first_file name o (file_of files (drop (k + 1) names))) has)

  pub found_later : file_of files names ≡ file_of files (drop k names) → finite.get files name ≡ None → file_of files names ≡ file_of files (drop (k + 1) names)
  found_later so_far has =
      so_far ∙ here ∙ ap (λ (o : Option (List ℕ)). first_file name o (file_of files (drop (k + 1) names))) has

-- The file that is found has one of the names, and these are its bytes.
abbrev IsUnder : Files → List (List ℕ) → List ℕ → List ℕ → Type 0
IsUnder files names name bytes = IsOneOf names name × (finite.get files name ≡ Some bytes)

pub found_under : (files : Files) (names : List (List ℕ)) (name bytes : List ℕ) → file_of files names ≡ Some (name, bytes) → IsUnder files names name bytes
found_under files [] name bytes is = absurd cc
found_under files (first ∷ names) name bytes is = by (finite.get files first) refl (found_under files names name bytes) is
  where
    by : (entry : Option (List ℕ)) → finite.get files first ≡ entry → (file_of files names ≡ Some (name, bytes) → IsUnder files names name bytes)
        → first_file first entry (file_of files names) ≡ Some (name, bytes) → IsUnder files (first ∷ names) name bytes
    by None none later is = let under = later is in ((suc under.0.0, under.0.1), under.1)
    by (Some held) has later is =
        let same = same_Some (first, held) (name, bytes) is in
        ((0, ap (λ (found : List ℕ × List ℕ). Some found.0) same), subst (λ (found : List ℕ × List ℕ). finite.get files found.0 ≡ Some found.1) same has)

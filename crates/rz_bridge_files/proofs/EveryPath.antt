-- Each path has a folder part and a last name, and each header file a data file.
use Rattle.std.proofs.Common.{◌≡◌, ◌≢◌, ℕ, zero, suc, ◌<◌, false, ◌⊎◌, inl, inr, List, [], ◌∷◌, ◌++◌, length, take, drop, get_or, refl, sym, ap, ◌∙◌, arith, take-append-drop}
use Rattle.std.specs.Prelude.{◌==◌, codes}
use Rattle.std.specs.Str.{bytes_eq}
use Rattle.std.proofs.lemmas.Bool.{eqb-false, eqb-true}
use Rattle.std.proofs.lemmas.Slice.Eq.{bytes_eq-Decides}
use Rattle.rz_core.proofs.EveryCut.{is_nothing}
use Rattle.rz_core.proofs.Tests.{by_test, true_false}
use Rattle.rz_folder.specs.Temporary.{IsParted}
use Rattle.rz_bridge_files.specs.DataFile.{IsDataFile, IsDataName}
use Rattle.rz_bridge_files.specs.DataFile.IsDataName.{plain, other}

-- Paths.

abbrev HasNoSlash : List ℕ → Type 0
HasNoSlash last = (k : ℕ) → k < length last → get_or last k 0 ≢ 47

abbrev EndsSo : List ℕ → Type 0
EndsSo folder = (folder ≡ []) ⊎ ((front : List ℕ) × (folder ≡ front ++ 47 ∷ []))

-- one byte more in front
name_more : (x : ℕ) (last : List ℕ) → x ≢ 47 → HasNoSlash last → HasNoSlash (x ∷ last)
name_more x last differs none zero less = differs
name_more x last differs none (suc k) less = none k (omega (arith, less))

folder_more : (x y : ℕ) (folder : List ℕ) → EndsSo (y ∷ folder) → EndsSo (x ∷ y ∷ folder)
folder_more x y folder (inl empty) = absurd (cc empty)
folder_more x y folder (inr (front, is)) = inr (x ∷ front, ap (λ (l : List ℕ). x ∷ l) is)

abbrev Parting : List ℕ → Type 0
Parting path = (folder last : List ℕ) × IsParted path folder last

pub every_parting : (path : List ℕ) → Parting path
every_parting [] = ([], [], record { whole = refl; no_slash = λ k less. absurd (omega (arith, less)); ends = inl refl })
every_parting (x ∷ path) = by (every_parting path)
  where
    by : Parting path → Parting (x ∷ path)
    by (y ∷ folder, last, is) =
        (x ∷ y ∷ folder, last, record { whole = ap (λ (l : List ℕ). x ∷ l) is.whole; no_slash = is.no_slash; ends = folder_more x y folder is.ends })
    by ([], last, is) =
        let whole : x ∷ path ≡ x ∷ last = ap (λ (l : List ℕ). x ∷ l) is.whole in
        by_test (Parting (x ∷ path)) (x == 47)
        (λ same. (x ∷ [], last, record { whole = whole; no_slash = is.no_slash; ends = inr ([], ap (λ (b : ℕ). b ∷ []) (eqb-true x 47 same)) }))
        (λ differs. ([], x ∷ last, record { whole = whole; no_slash = name_more x last (eqb-false x 47 differs) is.no_slash; ends = inl refl }))

-- Data files.

abbrev HasDataName : List ℕ → Type 0
HasDataName last = (name : List ℕ) × IsDataName last name

data_name : (last : List ℕ) → HasDataName last
data_name last =
    by_test (HasDataName last) (bytes_eq (take 2 last) (codes "._")) (λ same. begun ((bytes_eq-Decides (take 2 last) (codes "._")).0 same) (is_nothing (drop 2 last)))
    (λ differs. (last ++ codes ".data", other (λ rest some is. unlike differs rest is) refl))
  where
    begun : take 2 last ≡ codes "._" → Dec (drop 2 last ≡ []) → HasDataName last
    begun same (yes empty) = (last ++ codes ".data", other (λ rest some is. some (sym (ap (drop 2) is) ∙ empty)) refl)
    begun same (no some) = (drop 2 last, plain (sym (take-append-drop 2 last) ∙ ap (λ (l : List ℕ). l ++ drop 2 last) same) some)

    unlike : bytes_eq (take 2 last) (codes "._") ≡ false → (rest : List ℕ) → last ≡ codes "._" ++ rest → ⊥
    unlike differs rest is = true_false (sym ((bytes_eq-Decides (take 2 last) (codes "._")).1 (ap (take 2) is)) ∙ differs)

pub every_data_file : (header : List ℕ) → (name : List ℕ) × IsDataFile header name
every_data_file header =
    let path = every_parting header in
    let own = data_name path.1 in
    (path.0 ++ own.0, record { folder = path.0; last = path.1; own = own.0; parted = path.2; named = own.1; is = refl })

-- The name of the file that holds the data fork beside a header file of AppleDouble.
use Rattle.std.specs.Prelude.{◌≡◌, ◌≢◌, ℕ, List, [], ◌++◌, codes}
use Rattle.rz_folder.specs.Temporary.{IsParted}

-- a header file `._n` has the data file `n`, and any other header file `n`, and `._` itself, the data file `n.data`
pub data IsDataName (last name : List ℕ) : Type 0 where
  plain : last ≡ codes "._" ++ name → name ≢ [] → IsDataName last name
  other : ((rest : List ℕ) → rest ≢ [] → last ≡ codes "._" ++ rest → ⊥) → name ≡ last ++ codes ".data" → IsDataName last name

-- the data file lies in the folder of the header file
pub record IsDataFile (header name : List ℕ) : Type 0 where
  pub folder : List ℕ
  pub last : List ℕ
  pub own : List ℕ
  pub parted : IsParted header folder last
  pub named : IsDataName last own
  pub is : name ≡ folder ++ own

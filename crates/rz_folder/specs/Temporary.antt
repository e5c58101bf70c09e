-- The name of the file that a write fills before that file takes the place of the one asked for.
use Rattle.std.specs.Prelude.{◌≡◌, ◌≢◌, ℕ, ◌<◌, ◌⊎◌, List, [], ◌∷◌, ◌++◌, length, slice_index, codes, decimal}
use Rattle.std.specs.Path.{slash}

-- A path parts into its folder part and its last name: the name has no slash, and the folder part is empty or
-- ends in a slash.
pub record IsParted (path folder last : List ℕ) : Type 0 where
  pub whole : path ≡ folder ++ last
  pub no_slash : (k : ℕ) → k < length last → slice_index last k ≢ slash
  pub ends : (folder ≡ []) ⊎ ((front : List ℕ) × (folder ≡ front ++ slash ∷ []))

-- the name is the folder part of the path, `.rezkit-` and the number
pub record IsNameBeside (path : List ℕ) (number : ℕ) (name : List ℕ) : Type 0 where
  pub folder : List ℕ
  pub last : List ℕ
  pub parted : IsParted path folder last
  pub is : name ≡ folder ++ codes ".rezkit-" ++ decimal number

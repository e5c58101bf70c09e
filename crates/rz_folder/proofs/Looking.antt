-- What may be looked for under its names.
use Rattle.std.proofs.Common.{ℕ, List}
use Rattle.rz_folder.specs.MayRead.{IsOneOf, MayRead}
use Rattle.rz_folder.specs.declared.folder.Folder.{Ghosts}
use Rattle.rz_folder.specs.Names.{names_of, utf8_name, LooksFor}

module _ {F : Type 0} (g : Ghosts F) {folder : F} (paths : List (List ℕ)) where
  -- one file, whose name is of the set
  pub may_look : (Owns : List ℕ → Type 0) → MayRead g folder (LooksFor paths Owns) → (own : List ℕ) → Owns own → MayRead g folder (IsOneOf (names_of paths (utf8_name own)))
  may_look Owns may own is = λ name one. may name (own, is, one)

  -- the files whose names are of a smaller set
  pub may_look_fewer : (Owns Fewer : List ℕ → Type 0) → MayRead g folder (LooksFor paths Owns) → ((own : List ℕ) → Fewer own → Owns own) → MayRead g folder (LooksFor paths Fewer)
  may_look_fewer Owns Fewer may so name (own, is, one) = may name (own, so own is, one)

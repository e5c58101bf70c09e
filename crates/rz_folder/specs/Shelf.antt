-- What contracts see of a shelf.
use Rattle.std.specs.Prelude.{refl, ℕ}
use Rattle.std.specs.Coded.{Coded, code_by, coded×, coded_ℕ, coded_list}
use Rattle.std.specs.FinMap as map
use Rattle.rz_folder.specs.Folder.{Files}

-- what each name holds, and the number of writes, each of which failed
pub record ShelfState : Type 0 where
  pub files : Files
  pub writes : ℕ

-- states as pairs
abbrev pub coded_shelf : Coded ShelfState
coded_shelf =
    code_by (Files × ℕ) (coded× (map.code (coded_list coded_ℕ) (coded_list coded_ℕ)) coded_ℕ) (λ s. (s.files, s.writes)) (λ t. record { files = t.0; writes = t.1 }) (λ _. refl)

-- What is read is what bytes tell.
use Rattle.std.proofs.Common.{◌≡◌, ℕ, List, Option, Some, None, ◌∙◌}
use Rattle.rz_core.specs.declared.facts.Facts.{Facts}
use Rattle.rz_types_fields.specs.declared.tree.Tree.{Tree}
use Rattle.rz_types_fields.specs.Spells.{SpellsPlainly}
use Rattle.rz_types_fields.specs.Field.{PlainBody}
use Rattle.rz_unlay.specs.Cursor.{reading}
use Rattle.rz_unlay.specs.Reading.{IsTold}

module _ (known : Facts) (body : PlainBody) (bytes : List ℕ) where
  -- each row that spells the bytes plainly is read
  abbrev pub AreRead : Type 0
  AreRead = (row : List Tree) → SpellsPlainly known body row bytes → reading known body bytes ≡ Some row

  -- so what is read is each row that is told, and where nothing is read, none is told
  pub every_told : AreRead → (found : Option (List Tree)) → found ≡ reading known body bytes → (row : List Tree) → IsTold known body bytes row → found ≡ Some row
  every_told are found is row told = is ∙ are row told.1

  pub none_told : AreRead → None ≡ reading known body bytes → (row : List Tree) → IsTold known body bytes row → ⊥
  none_told are is row told = let wrong = every_told are None is row told in cc

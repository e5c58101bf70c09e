-- What every entry has, where entries stand, and entries without the places where they were read.
use Rattle.std.specs.Prelude.{ℕ, ◌<◌, ◌^◌, FitsSigned, List}
use Rattle.std.specs.Int.{w16}
use Rattle.std.specs.List.{AllByRecursion}
use Rattle.rz_lex.specs.Printed.{AreBytes}
use Rattle.rz_catalog_text.specs.declared.entry.Entry.{Entry}

-- a type of 32 bits, an id of 16, a place of 32, and bytes
pub record IsStored (entry : Entry) : Type 0 where
  pub code : entry.kind.code < 2 ^ 32
  pub id : FitsSigned w16 entry.id
  pub leaf : entry.leaf < 2 ^ 32
  pub text : AreBytes entry.text

-- the entry as one that was not read
abbrev pub unmarked : Entry → Entry
unmarked entry = record { kind = entry.kind; id = entry.id; leaf = entry.leaf; text = entry.text; mark = record { file = 0; line = 0 } }

-- each entry stands in one of so many files
abbrev pub AreEntriesIn : ℕ → List Entry → Type 0
AreEntriesIn files entries = AllByRecursion (λ e. e.mark.file < files) entries

-- Compiling and reading are inverse.
use Rattle.std.proofs.Common.{◌≡◌, ◌↔◌, ℕ, true, List, Some, Result, Ok, subst}
use Rattle.rz_core.proofs.Once.{same_ok}
use Rattle.rz_core.specs.declared.facts.Facts.{Facts}
use Rattle.rz_layout.specs.Compiled.{IsCompiled}
use Rattle.rz_types_fields.specs.Laid.{laid, Refusal}
use Rattle.rz_types_fields.specs.Spells.{Spells, SpellsPlainly}
use Rattle.rz_types_fields.specs.declared.tree.Tree.{Tree}
use Rattle.rz_types.specs.Field.{PlainBody}
use Rattle.rz_types.specs.Readable.{is_readable}
use Rattle.rz_unlay.specs.Cursor.{reading}
use Rattle.rz_unlay.specs.Reading.{IsTold}
use Rattle.rz_laws.specs.Inverse.{CompilesPlainly, IsPlain}

module _ (known : Facts) (body : PlainBody) (row : List Tree)
    (one : (answer other : Result (List ℕ) Refusal) → IsCompiled known body row answer → IsCompiled known body row other → answer ≡ other)
    (spelled : (bytes : List ℕ) → SpellsPlainly known body row bytes → Spells known body row bytes) where
  -- a row that spells bytes plainly is plain: it compiles to no others
  plain_row : (bytes : List ℕ) → SpellsPlainly known body row bytes → IsPlain known body row
  plain_row bytes plainly other compiled =
      subst (SpellsPlainly known body row) (same_ok {F = Refusal} bytes other (one (Ok bytes) (Ok other) (spelled bytes plainly) compiled)) plainly

  pub told_so : (bytes : List ℕ) → is_readable body ≡ true → IsTold known body bytes row ↔ CompilesPlainly known body row bytes
  told_so bytes readable = (
    λ told. record { compiled = spelled bytes told.1; plain = plain_row bytes told.1 },
    λ compiles. (readable, compiles.plain bytes compiles.compiled),
  )

  -- so it is of the definitions that go step by step, where what spells bytes is what is laid, and what spells them plainly
  -- is what is read
  pub steps_so : (bytes : List ℕ)
      → (Spells known body row bytes → laid known body row ≡ Ok bytes) → (laid known body row ≡ Ok bytes → Spells known body row bytes)
      → (reading known body bytes ≡ Some row → SpellsPlainly known body row bytes) → (SpellsPlainly known body row bytes → reading known body bytes ≡ Some row)
      → (reading known body bytes ≡ Some row) ↔ ((laid known body row ≡ Ok bytes) × IsPlain known body row)
  steps_so bytes lays laid_spells plainly reads = (
    λ is. (lays (spelled bytes (plainly is)), plain_row bytes (plainly is)),
    λ is. reads (is.1 bytes (laid_spells is.0)),
  )

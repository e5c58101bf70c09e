-- Which rows the bytes of a resource tell: those that compile to these bytes and are plain. (MPW Rez; MPW DeRez.)
use Rattle.std.specs.Prelude.{ℕ, List, Ok}
use Rattle.rz_core.specs.declared.facts.Facts.{Facts}
use Rattle.rz_layout.specs.Compiled.{IsCompiled}
use Rattle.rz_types_fields.specs.Spells.{SpellsPlainly}
use Rattle.rz_types_fields.specs.declared.tree.Tree.{Tree}
use Rattle.rz_types.specs.Field.{PlainBody}

-- a row is plain: the bytes to which it compiles it spells plainly
abbrev pub IsPlain : Facts → PlainBody → List Tree → Type 0
IsPlain known body row = (bytes : List ℕ) → IsCompiled known body row (Ok bytes) → SpellsPlainly known body row bytes

-- a row compiles to these bytes and is plain
pub record CompilesPlainly (known : Facts) (body : PlainBody) (row : List Tree) (bytes : List ℕ) : Type 0 where
  pub compiled : IsCompiled known body row (Ok bytes)
  pub plain : IsPlain known body row

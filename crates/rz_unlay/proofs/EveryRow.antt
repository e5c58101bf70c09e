-- Of all bytes it is decided which row they tell.
use Rattle.std.proofs.Common.{◌≡◌, ℕ, suc, ◌<◌, ◌≤◌, nat_le, nat_lt, true, List, [], ◌∷◌, length, Option, Some, None, refl, sym, ◌∙◌, arith}
use Rattle.std.specs.Prelude.{slice_index}
use Rattle.std.specs.List.{AllByRecursion}
use Rattle.std.proofs.lemmas.Bool.Decides.{nat_tests}
use Rattle.rz_core.proofs.EveryCut.{both}
use Rattle.rz_core.proofs.Tests.{by_test, true_false}
use Rattle.rz_core.specs.Decided.{Decided}
use Rattle.rz_core.specs.declared.facts.Facts.{Facts}
use Rattle.rz_types_fields.specs.declared.tree.Tree.{Tree}
use Rattle.rz_types_fields.specs.Spells.{SpellsPlainly}
use Rattle.rz_types.specs.Field.{PlainBody}
use Rattle.rz_types.specs.Readable.{is_readable}
use Rattle.rz_unlay.proofs.ReadsBits.{each_small}
use Rattle.rz_unlay.proofs.Tells.{none_told, AreRead}
use Rattle.rz_unlay.specs.Cursor.{reading}
use Rattle.rz_unlay.specs.Reading.{IsTold}

abbrev AreSmall : List ℕ → Type 0
AreSmall bytes = (k : ℕ) → slice_index bytes k < 256

is_small : (byte : ℕ) → Dec (byte < 256)
is_small byte = by_test (Dec (byte < 256)) (nat_lt byte 256) (λ less. yes (grind (arith, nat_tests))) (λ more. no (λ less. grind (arith, nat_tests)))

are_bytes : (bytes : List ℕ) → Dec (AllByRecursion (λ byte. byte < 256) bytes)
are_bytes [] = yes tt
are_bytes (byte ∷ bytes) = both (is_small byte) (are_bytes bytes)

each_byte : (bytes : List ℕ) → AreSmall bytes → AllByRecursion (λ byte. byte < 256) bytes
each_byte [] small = tt
each_byte (byte ∷ bytes) small = (small 0, each_byte bytes (λ k. small (suc k)))

module _ (known : Facts) (body : PlainBody) (bytes : List ℕ) where
  abbrev Answer : Type 0
  Answer = (answer : Option (List Tree)) × Decided (IsTold known body bytes) answer

  never : ((row : List Tree) → SpellsPlainly known body row bytes → ⊥) → Answer
  never none = (None, λ row told. none row told.1)

  module _ (few : (row : List Tree) → SpellsPlainly known body row bytes → length bytes ≤ 16777212) (are : is_readable body ≡ true → AreRead known body bytes)
      (plain : is_readable body ≡ true → length bytes ≤ 16777212 → AreSmall bytes → (row : List Tree) → reading known body bytes ≡ Some row → SpellsPlainly known body row bytes) where
    found : is_readable body ≡ true → length bytes ≤ 16777212 → AreSmall bytes → (read : Option (List Tree)) → reading known body bytes ≡ read → Answer
    found readable short small None is = (None, none_told known body bytes (are readable) (sym is))
    found readable short small (Some row) is = (Some row, (readable, plain readable short small row is))

    of_bytes : is_readable body ≡ true → length bytes ≤ 16777212 → Dec (AllByRecursion (λ byte. byte < 256) bytes) → Answer
    of_bytes readable short (yes all) = found readable short (each_small bytes all) (reading known body bytes) refl
    of_bytes readable short (no some) = never (λ row spells. some (each_byte bytes spells.spelling.are_bytes))

    pub every_row : Answer
    every_row =
        by_test Answer (is_readable body)
        (λ readable. by_test Answer (nat_le (length bytes) 16777212)
        (λ short. of_bytes readable (grind (arith, nat_tests)) (are_bytes bytes))
        (λ long. never (λ row spells. let short = few row spells in grind (arith, nat_tests))))
        (λ other. (None, λ row told. true_false (sym told.0 ∙ other)))

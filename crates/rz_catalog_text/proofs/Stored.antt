-- The file of the text of entries has the same entries.
use Rattle.std.proofs.Common.{◌≡◌, ℕ, List, [], ◌∷◌, map, Ok, inl, refl, ap, arith}
use Rattle.rz_pre_source.specs.Source.{IsTextOf, IsUnmarked}
use Rattle.rz_catalog_text.specs.Stored.{unmarked}
use Rattle.rz_catalog_text.specs.declared.entry.Entry.{Entry}
use Rattle.rz_catalog_text.specs.Source.{HasEntries}
use Rattle.rz_catalog_text.specs.Text.{entries_text}
use Rattle.rz_catalog_text.specs.Back.{AreReadBack}
use Rattle.rz_show_lines.proofs.Pages.{whole_text}

-- the text begins with a quote mark, where there is an entry
abbrev first_byte : List ℕ → ℕ
first_byte [] = 0
first_byte (b ∷ bytes) = b

no_mark : ◌≡◌ {A = ℕ} 39 239 → ⊥
no_mark same = omega (arith, same)

not_marked : (entries : List Entry) → IsUnmarked (entries_text entries)
not_marked [] utf8 is = cc
not_marked (entry ∷ entries) utf8 is = no_mark (ap first_byte is)

pub file_back : (entries : List Entry) → AreReadBack entries → (file : ℕ) → (back : List Entry) × HasEntries file (entries_text entries) (Ok back) × (map unmarked back ≡ map unmarked entries)
file_back entries again file =
    let whole = whole_text (entries_text entries) again.tokens again.has file in
    let these = again.read whole.0 whole.2 in (
      these.back,
      inl (entries_text entries, IsTextOf.unmarked (not_marked entries) refl, inl (whole.0, whole.1, these.are)),
      these.same,
    )

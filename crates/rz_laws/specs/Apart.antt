-- Entries for different resources.
use Rattle.std.specs.Prelude.{◌≡◌, ◌==◌, ◌&&◌, Bool, false, List}
use Rattle.std.specs.List.{list_any, AllByRecursion}
use Rattle.rz_catalog.specs.Apply.{id_bits_of}
use Rattle.rz_catalog_text.specs.declared.entry.Entry.{Entry}

-- the two entries have the same type and id
abbrev pub same_resource : Entry → Entry → Bool
same_resource a b = (a.kind.code == b.kind.code) && (id_bits_of a == id_bits_of b)

-- none of the others has the type and id of one of the entries
abbrev pub AreApart : List Entry → List Entry → Type 0
AreApart entries others = AllByRecursion (λ e. list_any (same_resource e) entries ≡ false) others

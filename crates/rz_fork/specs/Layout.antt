-- The numbers of a fork's bytes: the header, the outline of the map, the entries of the type list and the
-- references. (Inside Macintosh: More Macintosh Toolbox, Resource Manager, resource file format.)
use Rattle.std.specs.Prelude.{ℕ, ◌+◌, ◌%◌, List}
use Rattle.rz_core.specs.Numbers.{number, items_from}
use Rattle.rz_fork.specs.declared.layout.Header.{Header}
use Rattle.rz_fork.specs.declared.layout.Outline.{Outline}
use Rattle.rz_fork.specs.declared.layout.TypeEntry.{TypeEntry}
use Rattle.rz_fork.specs.declared.layout.Reference.{Reference}

-- a count that is stored in 2 bytes: the number stored is one less, modulo 65,536
abbrev pub count_at : List ℕ → ℕ → ℕ
count_at bytes place = (number 2 bytes place + 1) % 65536

-- the header
unfoldable pub header_of : List ℕ → Header
header_of bytes = record {
  data_at = number 4 bytes 0;
  map_at = number 4 bytes 4;
  data_length = number 4 bytes 8;
  map_length = number 4 bytes 12;
}

-- where the type list begins in the map
unfoldable pub types_of : List ℕ → Header → ℕ
types_of bytes h = number 2 bytes (h.map_at + 24)

-- the outline of a map whose type list begins there
unfoldable pub outline_of : List ℕ → Header → ℕ → Outline
outline_of bytes h types = record {
  header = h;
  types = types;
  names = number 2 bytes (h.map_at + 26);
  count = count_at bytes (h.map_at + types);
}

-- the outline of a fork
abbrev pub the_outline : List ℕ → Outline
the_outline bytes = let h = header_of bytes in outline_of bytes h (types_of bytes h)

-- where the type list begins in the fork
abbrev pub types_place : Outline → ℕ
types_place o = o.header.map_at + o.types

-- the entry of the type list at a place
unfoldable pub entry_at : List ℕ → Outline → ℕ → TypeEntry
entry_at bytes o place = record {
  place = place;
  code = number 4 bytes place;
  count = count_at bytes (place + 4);
  list = types_place o + number 2 bytes (place + 6);
}

-- the entries of the type list
unfoldable pub entries : List ℕ → Outline → List TypeEntry
entries bytes o = items_from (entry_at bytes o) 8 (types_place o + 2) o.count

-- the reference at a place
unfoldable pub reference_at : List ℕ → ℕ → Reference
reference_at bytes place = record {
  place = place;
  id = number 2 bytes place;
  name = number 2 bytes (place + 2);
  attr = number 1 bytes (place + 4);
  data_at = number 3 bytes (place + 5);
}

-- the references of a type
unfoldable pub references : List ℕ → TypeEntry → List Reference
references bytes t = items_from (reference_at bytes) 12 t.list t.count

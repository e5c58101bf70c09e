-- Resources as they are shown, each by its bytes or by a row. (As MPW DeRez shows them.)
use Rattle.std.specs.Prelude.{ℕ, Bool, List, codes, flat_map}
use Rattle.rz_core.specs.declared.resource.Resource.{Resource}
use Rattle.rz_types_fields.specs.declared.tree.Tree.{Tree}
use Rattle.rz_types.specs.Field.{PlainBody}
use Rattle.rz_show.specs.Statement.{data_items, row_items, statement_lines}
use Rattle.rz_show_lines.specs.Written.{lines_text, Written}

-- a resource, by its bytes in a `data` statement, or by a row of its type's fields in a `resource` statement
pub data Showing : Type 0 where
  by_bytes : (resource : Resource) → Showing
  by_row : (resource : Resource) → (body : PlainBody) → (row : List Tree) → Showing

-- its lines, where these are the live macros
abbrev pub showing_lines : (hidden : List ℕ → Bool) → Showing → List (List Written)
showing_lines hidden (by_bytes r) = statement_lines (codes "data") r.kind.code r.id r.name r.attr (data_items r.bytes)
showing_lines hidden (by_row r body row) = statement_lines (codes "resource") r.kind.code r.id r.name r.attr (row_items hidden body row)

abbrev pub showing_text : (hidden : List ℕ → Bool) → Showing → List ℕ
showing_text hidden showing = lines_text (showing_lines hidden showing)

-- the statements, in order
abbrev pub showings_text : (hidden : List ℕ → Bool) → List Showing → List ℕ
showings_text hidden list = flat_map (showing_text hidden) list

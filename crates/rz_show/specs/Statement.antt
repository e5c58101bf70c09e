-- Statements as lines: a head, items, and what ends them. (As MPW DeRez shows them.)
use Rattle.std.specs.Prelude.{ℕ, ℤ, Bool, true, List, [], ◌∷◌, ◌++◌, codes}
use Rattle.rz_core.specs.declared.facts.Facts.{Facts}
use Rattle.rz_lex.specs.declared.sign.Sign.TheVariants as signs
use Rattle.rz_types_fields.specs.declared.tree.Tree.{Tree}
use Rattle.rz_types.specs.Field.{PlainBody}
use Rattle.rz_show.specs.Head.{head_lines}
use Rattle.rz_show_lines.specs.Print.{list_lines, no_prints, print, Prints}
use Rattle.rz_show.specs.Shown.{row_prints, text_print}
use Rattle.rz_show_lines.specs.Written.{a_sign, Written}

-- the end of a statement, and an empty line
abbrev pub close_lines : List (List Written)
close_lines = (a_sign signs.CloseBrace ∷ a_sign signs.Semicolon ∷ []) ∷ [] ∷ []

-- a statement with this word, a type, an id, a name, attributes, and items, which stand one level deep
unfoldable pub statement_lines : (word : List ℕ) → (code : ℕ) → (id : ℤ) → (name : List ℕ) → (attr : ℕ) → Prints → List (List Written)
statement_lines word code id name attr items = head_lines word code id name attr ++ (list_lines 1 items ++ close_lines)

-- the bytes of a resource as items: one text, in hexadecimal
abbrev pub data_items : List ℕ → Prints
data_items bytes = print (text_print true bytes) no_prints

-- a row of these fields as items, where these are the live macros
abbrev pub row_items : (hidden : List ℕ → Bool) → PlainBody → List Tree → Prints
row_items hidden body row = row_prints hidden body row no_prints

-- the `data` statement of a resource of which these facts are known, with its bytes
abbrev pub data_lines : Facts → List ℕ → List (List Written)
data_lines facts bytes = statement_lines (codes "data") facts.kind.code facts.id facts.name facts.attr (data_items bytes)

-- the `resource` statement of a resource of which these facts are known, and which is such a row
abbrev pub row_lines : (hidden : List ℕ → Bool) → Facts → PlainBody → List Tree → List (List Written)
row_lines hidden facts body row = statement_lines (codes "resource") facts.kind.code facts.id facts.name facts.attr (row_items hidden body row)

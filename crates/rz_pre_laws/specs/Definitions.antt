-- What a name stands for after what was read: the last definition decides. (MPW Rez.)
use Rattle.std.specs.Prelude.{◌≡◌, ℕ, true, false, List, [], ◌∷◌, ◌++◌, map, option_map}
use Rattle.std.specs.List.{AllByRecursion}
use Rattle.std.specs.Str.{bytes_eq, str_to_ascii_lowercase}
use Rattle.rz_words.specs.Words.{is_label, role_of}
use Rattle.rz_pre.specs.Live.{shapes_of, Row}
use Rattle.rz_pre_laws.specs.Unfolding.{Entry, Line, Opened}
use Rattle.rz_pre.specs.declared.act.Act.{Act}
use Rattle.rz_pre.specs.declared.act.Act.TheVariants.{Set}
use Rattle.rz_pre.specs.declared.program.Def.{Def}

-- A definition is a row: a name in lower case, and what it stands for from there on, or nothing where it is undefined.

-- those of the words
abbrev pub worded : Def → Row
worded def = (str_to_ascii_lowercase def.name.bytes, option_map shapes_of def.text)

-- that of a line that has one
abbrev pub set_by : Act → List Row
set_by (Set word body) = (str_to_ascii_lowercase word.bytes, option_map shapes_of body) ∷ []
set_by act = []

abbrev pub defined_by : Entry → List Row
defined_by (Opened name) = []
defined_by (Line level around line act) = set_by act

abbrev pub defined_in : List Entry → List Row
defined_in [] = []
defined_in (entry ∷ entries) = defined_by entry ++ defined_in entries

-- all definitions in their order: those of the words come first
abbrev pub definitions : List Def → List Entry → List Row
definitions defs entries = map worded defs ++ defined_in entries

-- none of them is of this name
abbrev pub LeavesName : List ℕ → List Row → Type 0
LeavesName name rows = AllByRecursion (λ (row : Row). bytes_eq name row.0 ≡ false) rows

-- Reserved words are never defined.

-- a word that isn't reserved
abbrev pub IsFree : List ℕ → Type 0
IsFree word = is_label (role_of word) ≡ true

-- the definitions of the words are of none that is
abbrev pub AreFree : List Def → Type 0
AreFree defs = AllByRecursion (λ def. IsFree def.name.bytes) defs

-- a name that such a word has in lower case
abbrev pub IsFreeName : List ℕ → Type 0
IsFreeName name = (word : List ℕ) × (str_to_ascii_lowercase word ≡ name) × IsFree word

-- What expressions mention: names, each by what is asked of it, and facts.
use Rattle.std.specs.Prelude.{ℕ, Bool, true, false, List, [], ◌∷◌, ◌++◌, Option, Some, None}
use Rattle.std.specs.List.{list_any}
use Rattle.std.specs.Option.{is_some}
use Rattle.rz_expr.specs.Environment.{count_key, place_key, predefined, row_key, rows_key, Key}
use Rattle.rz_expr.specs.Term.{BitsAt, Constant, FactOf, Indexed, Named, OfOne, OfTwo, RowNumber, RowsOf, Term}
use Rattle.rz_words.specs.declared.words.FactWord.{FactWord}

-- a name by itself; a label in the rows of an array, with an index; an array, by the number of its rows, or by that of
-- the row around; a label, with bits after it; and a fact. Names are as they are written
pub data Mention : Type 0 where
  alone : List ℕ → Mention
  indexed : List ℕ → Mention
  counted : List ℕ → Mention
  around : List ℕ → Mention
  with_bits : List ℕ → Mention
  fact : FactWord → Mention

-- what an expression mentions, in order
abbrev pub mentions : Term → List Mention
mentions (Constant number) = []
mentions (Named name) = alone name ∷ []
mentions (Indexed name index) = indexed name ∷ mentions index
mentions (RowsOf name) = counted name ∷ []
mentions (RowNumber name) = around name ∷ []
mentions (BitsAt name start width) = with_bits name ∷ (mentions start ++ mentions width)
mentions (FactOf which) = fact which ∷ []
mentions (OfOne op operand) = mentions operand
mentions (OfTwo op left right) = mentions left ++ mentions right

-- `true` and `false`, which are names in every expression
abbrev pub is_true_or_false : Mention → Bool
is_true_or_false (alone name) = is_some (predefined name)
is_true_or_false other = false

abbrev pub is_name : Mention → Bool
is_name (fact which) = false
is_name other = true

-- a name stands in an expression
abbrev pub has_names : Term → Bool
has_names term = list_any is_name (mentions term)

-- the name, as it is written
abbrev pub name_mentioned : Mention → Option (List ℕ)
name_mentioned (alone name) = Some name
name_mentioned (indexed name) = Some name
name_mentioned (counted name) = Some name
name_mentioned (around name) = Some name
name_mentioned (with_bits name) = Some name
name_mentioned (fact which) = None

-- the key whose value is asked for
abbrev pub key_mentioned : Mention → Option Key
key_mentioned (alone name) = Some (place_key name)
key_mentioned (indexed name) = Some (rows_key name)
key_mentioned (counted name) = Some (count_key name)
key_mentioned (around name) = Some (row_key name)
key_mentioned (with_bits name) = Some (place_key name)
key_mentioned (fact which) = None

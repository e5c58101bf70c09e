-- The source of a sample: a type, and resources of it whose rows follow from their numbers; and the lines that are said of it.
use Rattle.std.specs.Prelude.{ℕ, ◌+◌, ◌*◌, ◌%◌, List, [], ◌∷◌, ◌++◌, codes, length, map, replicate}
use Rattle.std.specs.List.{flat_map, range_with_len}
use Rattle.rz_core.specs.Decimal.{decimal_of}

-- the line that declares the type: a count and so many rows, each a number and a text
unfoldable pub sample_types : List ℕ
sample_types = codes "type 'Samp' { integer = $$CountOf(r); array r { byte; pstring; }; };\n"

-- row j of resource k: a number below 128, and a text of at most four letters
unfoldable pub sample_row : ℕ → ℕ → List ℕ
sample_row k j = decimal_of ((7 * k + 13 * j) % 128) ++ codes ", \"" ++ replicate ((k + j) % 5) 97 ++ codes "\""

-- the rows of resource k, of which there are at most seven
abbrev pub sample_rows : ℕ → List (List ℕ)
sample_rows k = map (sample_row k) (range_with_len 0 (k % 8))

-- rows, with a comma and a blank before each but the first
abbrev pub rows_text : List (List ℕ) → List ℕ
rows_text [] = []
rows_text (row ∷ rows) = row ++ flat_map (λ (next : List ℕ). codes ", " ++ next) rows

-- the line of resource k
unfoldable pub sample_statement : ℕ → List ℕ
sample_statement k = codes "resource 'Samp' (" ++ decimal_of k ++ codes ") { { " ++ rows_text (sample_rows k) ++ codes " } };\n"

-- the type, and so many resources of it, from resource 0 on
unfoldable pub sample_source : ℕ → List ℕ
sample_source count = sample_types ++ flat_map sample_statement (range_with_len 0 count)

-- What is said of it.

-- a line: a word and a number
abbrev pub number_line : List ℕ → ℕ → List ℕ
number_line word number = word ++ decimal_of number ++ codes "\n"

-- the lines: how many resources there are, and how many bytes the fork, its text and the second fork have
unfoldable pub sample_lines : ℕ → List ℕ → List ℕ → List ℕ → List ℕ
sample_lines count fork text again =
    number_line (codes "resources ") count ++ number_line (codes "fork ") (length fork) ++ number_line (codes "text ") (length text)
    ++ number_line (codes "again ") (length again)

-- What an expression sees: the values of names, bits, and facts.
use Rattle.std.specs.Prelude.{◌≡◌, ℕ, ℤ, pos, codes, if◌then◌else◌, List, Option, Some, None}
use Rattle.std.specs.Str.{str_eq_ignore_ascii_case, str_to_ascii_lowercase}
use Rattle.rz_words.specs.declared.words.FactWord.{FactWord}

-- What can have a value: a name by itself, as a label, and an array by the number of its rows; a label in the rows of
-- an array by the number of these rows, and by its place in one of them, which are counted from 1; and an array by the
-- number of the row around. Names are the same in whatever case.
pub data Key : Type 0 where
  place_of : List ℕ → Key
  count_of : List ℕ → Key
  rows_of : List ℕ → Key
  place_in : List ℕ → ℤ → Key
  row_in : List ℕ → Key

-- the key of a name in any case
abbrev pub place_key : List ℕ → Key
place_key name = place_of (str_to_ascii_lowercase name)

abbrev pub count_key : List ℕ → Key
count_key name = count_of (str_to_ascii_lowercase name)

abbrev pub rows_key : List ℕ → Key
rows_key name = rows_of (str_to_ascii_lowercase name)

abbrev pub place_in_key : List ℕ → ℤ → Key
place_in_key name number = place_in (str_to_ascii_lowercase name) number

abbrev pub row_key : List ℕ → Key
row_key name = row_in (str_to_ascii_lowercase name)

-- the values of the words that are names in every expression
abbrev pub predefined : List ℕ → Option ℤ
predefined name =
    if str_eq_ignore_ascii_case name (codes "true") then Some (pos 1)
    else if str_eq_ignore_ascii_case name (codes "false") then Some (pos 0)
    else None

-- the value of each key that has one
pub record Environment : Type 0 where
  pub give : Key → Option ℤ

-- the values of keys, the unsigned number in so many bits from a bit on where they are there, and the facts
pub record Sight : Type 0 where
  pub names : Environment
  pub bits : ℤ → ℤ → Option ℤ
  pub fact : FactWord → ℤ

-- what the first gives, the second gives
pub record IsPartOf (known finished : Environment) : Type 0 where
  pub give : (key : Key) (value : ℤ) → known.give key ≡ Some value → finished.give key ≡ Some value

-- what is seen in the first is seen so in the second
pub record IsSeenIn (known finished : Sight) : Type 0 where
  pub names : IsPartOf known.names finished.names
  pub bits : (first width value : ℤ) → known.bits first width ≡ Some value → finished.bits first width ≡ Some value
  pub fact : (which : FactWord) → known.fact which ≡ finished.fact which

-- Files by their names: the first one that stands under some names, and the names of an included file. (MPW Rez.)
use Rattle.std.specs.Prelude.{◌≡◌, ℕ, List, [], ◌∷◌, ◌++◌, map, Option, Some, None, option_map, Ok, Err}
use Rattle.std.specs.Option.{ok_or}
use Rattle.std.specs.declared.result.Result.{Result}
use Rattle.std.specs.FinMap as finite
use Rattle.std.specs.Str.{encode_utf8_all}
use Rattle.rz_core.specs.Message.{IsNameable}
use Rattle.rz_core.specs.Roman.{roman_char}
use Rattle.rz_core.specs.declared.fault.Fault.{Fault}
use Rattle.rz_core.specs.declared.fault.Kept.TheVariants.{Name}
use Rattle.rz_core.specs.declared.fault.Mark.{Mark}
use Rattle.rz_folder.specs.Folder.{Files}
use Rattle.rz_folder.specs.MayRead.{IsOneOf}

-- the first of these names under which a file stands, and its bytes
abbrev pub first_file : List ℕ → Option (List ℕ) → Option (List ℕ × List ℕ) → Option (List ℕ × List ℕ)
first_file name None later = later
first_file name (Some bytes) later = Some (name, bytes)

abbrev pub file_of : Files → List (List ℕ) → Option (List ℕ × List ℕ)
file_of files [] = None
file_of files (name ∷ names) = first_file name (finite.get files name) (file_of files names)

-- its bytes alone, or this fault where no file stands under any of the names
abbrev pub bytes_of : Files → List (List ℕ) → Fault → Result (List ℕ) Fault
bytes_of files names missing = ok_or (option_map (λ found. found.1) (file_of files names)) missing

-- 101
abbrev pub missing_file : Option Mark → List ℕ → Fault
missing_file mark name = record { number = 101; mark = mark; kept = Name name }

-- a fault that a message can name whatever files there are: it has no mark
abbrev pub IsUnplaced : Fault → Type 0
IsUnplaced fault = (files : ℕ) → IsNameable files fault

-- the bytes of the file of this name; 101 where there is none
abbrev pub HasEntry : List ℕ → Option (List ℕ) → Result (List ℕ) Fault → Type 0
HasEntry name None answer = answer ≡ Err (missing_file None name)
HasEntry name (Some bytes) answer = answer ≡ Ok bytes

abbrev pub HasBytes : List ℕ → Files → Result (List ℕ) Fault → Type 0
HasBytes name files = HasEntry name (finite.get files name)

-- the names of an included file in UTF-8: its own, and then after each path and `/`
abbrev pub utf8_name : List ℕ → List ℕ
utf8_name name = encode_utf8_all (map roman_char name)

abbrev pub names_of : List (List ℕ) → List ℕ → List (List ℕ)
names_of paths name = name ∷ map (λ path. path ++ 47 ∷ name) paths

-- one of the names under which a file is looked for whose own name is of this set
abbrev pub LooksFor : List (List ℕ) → (List ℕ → Type 0) → List ℕ → Type 0
LooksFor paths Owns name = (own : List ℕ) × Owns own × IsOneOf (names_of paths (utf8_name own)) name

-- The name that a file of the Macintosh takes from the path that it is written to.
use Rattle.std.specs.Prelude.{◌≡◌, ◌≢◌, ℕ, pos, List, [], ◌++◌, length, Ok, Err}
use Rattle.std.specs.Str.{chars}
use Rattle.std.specs.declared.option.Option.TheVariants.{None}
use Rattle.std.specs.declared.result.Result.{Result}
use Rattle.rz_core.specs.Answers.{Then}
use Rattle.rz_core.specs.declared.fault.Fault.{Fault}
use Rattle.rz_core.specs.declared.fault.Kept.TheVariants.{Number}
use Rattle.rz_folder.specs.Temporary.{IsParted}
use Rattle.rz_pre_source.specs.Source.{mark, IsTextOf}
use Rattle.rz_bridge.specs.declared.file.MacFile.{MacFile}
use Rattle.rz_bridge_files.specs.declared.form.Form.{Form}
use Rattle.rz_bridge_files.specs.declared.form.Form.TheVariants.{Raw}

-- 425, with the number of characters of a name in UTF-8
abbrev pub bad_name : List ℕ → Fault
bad_name name = record { number = 425; mark = None; kept = Number (pos (length (chars name))) }

-- the last name of the path in Mac Roman, or 425 where one of its characters has no byte there
pub data TakesName (path : List ℕ) (answer : Result (List ℕ) Fault) : Type 0 where
  roman : (folder last name : List ℕ) → IsParted path folder last → IsTextOf (mark ++ last) name → answer ≡ Ok name → TakesName path answer
  foreign : (folder last : List ℕ) → IsParted path folder last → ((name : List ℕ) → IsTextOf (mark ++ last) name → ⊥)
      → answer ≡ Err (bad_name last) → TakesName path answer

-- the same file, with the name that it takes from the path where it has none; a raw file needs none
pub data Named (form : Form) (path : List ℕ) (file : MacFile) (answer : Result MacFile Fault) : Type 0 where
  raw : form ≡ Raw → answer ≡ Ok file → Named form path file answer
  own : form ≢ Raw → file.name ≢ [] → answer ≡ Ok file → Named form path file answer
  taken : form ≢ Raw → file.name ≡ []
      → Then (TakesName path) (λ name renamed. renamed ≡ Ok (record file { name = name })) answer → Named form path file answer

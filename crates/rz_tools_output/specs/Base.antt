-- What `rez` begins with: a new file, or with `-a` what the file of the output's name holds. (MPW Rez.)
use Rattle.std.specs.Prelude.{◌≡◌, ◌≤◌, ℕ, ◌==◌, nat_lt, pos, if◌then◌else◌, Bool, true, false, List, [], length, map, bit_and, bit_or, Option, Some, None, Ok, Err}
use Rattle.std.specs.FinMap as finite
use Rattle.std.specs.List.{AllByRecursion}
use Rattle.std.specs.declared.result.Result.{Result}
use Rattle.rz_bridge.specs.declared.file.MacFile.{MacFile}
use Rattle.rz_core.specs.Lists.{first_of, unless_fault}
use Rattle.rz_core.specs.Resources.{KeysDiffer}
use Rattle.rz_core.specs.Stop.{◌>>=◌}
use Rattle.rz_core.specs.declared.fault.Fault.{Fault}
use Rattle.rz_core.specs.declared.fault.Kept.TheVariants.{Number}
use Rattle.rz_core.specs.declared.resource.OsType.{OsType}
use Rattle.rz_core.specs.declared.resource.Resource.{Resource}
use Rattle.rz_bridge_files.specs.Contents.{admit_fork, file_in, form_or}
use Rattle.rz_folder.specs.Folder.{Files}
use Rattle.rz_folder.specs.Names.{missing_file}
use Rattle.rz_fork.specs.Contents.{Fork}
use Rattle.rz_set.specs.ResSet.{AreNamed}
use Rattle.rz_bridge_files.specs.Forms.{raw_file, raw_finder}
use Rattle.rz_bridge_files.specs.declared.form.Form.{Form}
use Rattle.rz_bridge_files.specs.declared.form.Form.TheVariants.{Raw}
use Rattle.rz_tools_output.specs.declared.base.Base as code
use Rattle.rz_tools_output.specs.declared.base.Beginning.{Beginning}

-- a form, the fields of a file, and what its fork holds
pub record Base : Type 0 where
  pub form : Form
  pub file : MacFile
  pub fork : Fork

-- A new file.

-- the type of applications, `APPL`
abbrev pub application : OsType
application = record { code = 1095782476 }

-- an application without a creator, `????`, and all else empty
abbrev pub new_file : MacFile
new_file = record (raw_file []) { finder = record raw_finder { kind = application } }

abbrev pub new_base : Base
new_base = record { form = Raw; file = new_file; fork = record { list = []; attributes = 0; reserved = [] } }

-- A file that is there.

-- the bytes of a file, or none where there is none
abbrev pub or_empty : Option (List ℕ) → List ℕ
or_empty None = []
or_empty (Some bytes) = bytes

-- the call gave these
abbrev pub HasOrNone : Option (List ℕ) → Result (List ℕ) Fault → Type 0
HasOrNone None answer = answer ≡ Ok []
HasOrNone (Some bytes) answer = answer ≡ Ok bytes

-- 220 with the attributes
abbrev pub read_only : ℕ → Fault
read_only attributes = record { number = 220; mark = None; kept = Number (pos attributes) }

-- a file and its fork; the bit 80 of the map's attributes says that the fork may be read only: 220. Of the file all
-- else than its fork is kept
abbrev pub begun_with : Form → MacFile → Fork → Result Base Fault
begun_with form file fork =
    if bit_and fork.attributes 128 == 0 then Ok (record { form = form; file = record file { res_fork = [] }; fork = fork }) else Err (read_only fork.attributes)

-- 301 for a resource of more than 16,777,212 bytes, with its length
abbrev pub too_long : Resource → Option Fault
too_long r = if nat_lt 16777212 (length r.bytes) then Some (record { number = 301; mark = None; kept = Number (pos (length r.bytes)) }) else None

-- a fork, or the first of its resources that is too long where they must be short
abbrev pub limited : (short : Bool) → Fork → Result Fork Fault
limited short fork = if short then unless_fault (first_of (map too_long fork.list)) fork else Ok fork

-- what bytes hold to begin with, in the form that is asked for or else that they have: the rules of the form, then
-- those of the fork, then 301 where its resources must be short, then 220
abbrev pub base_in : (short : Bool) → Option Form → List ℕ → Result Base Fault
base_in short form bytes = file_in None form bytes [] >>= λ file. admit_fork None file.res_fork >>= λ fork. limited short fork >>= begun_with (form_or form bytes) file

-- a new file, or what the file of this name is to be appended to holds; where there is none, it counts as a file of no
-- bytes
abbrev pub base_of : Bool → List ℕ → Files → Result Base Fault
base_of append name files = if append then base_in false None (or_empty (finite.get files name)) else Ok new_base

-- what the file of this name holds, whose resources must be short: 101 where there is none
abbrev pub base_held : Option Form → List ℕ → Option (List ℕ) → Result Base Fault
base_held form name None = Err (missing_file None name)
base_held form name (Some bytes) = base_in true form bytes

-- What can be begun with: the keys of the resources differ, and their names and the reserved bytes are as short as a
-- fork has them.
pub record CanBegin (base : Base) : Type 0 where
  pub keys : KeysDiffer [] base.fork.list
  pub named : AreNamed base.fork.list
  pub room : length base.fork.reserved ≤ 240

-- and no resource is too long
pub record IsShortBase (base : Base) : Type 0 where
  pub begins : CanBegin base
  pub short : AllByRecursion (λ r. length r.bytes ≤ 16777212) base.fork.list

-- the attributes of the map that is written: the bit 80 too where it becomes read only
abbrev pub attributes_asked : Bool → Base → ℕ
attributes_asked read_only base = if read_only then bit_or base.fork.attributes 128 else base.fork.attributes

-- What the code holds.

-- all but the resources
abbrev pub base_with : code.Base → List Resource → Base
base_with base list = record { form = base.form; file = base.file; fork = record { list = list; attributes = base.attributes; reserved = base.reserved } }

abbrev pub begun_of : Beginning → Base
begun_of begun = base_with begun.base begun.list

-- The file that is written of the fork of the resources. (MPW Rez; RFC 1740; RFC 1741.)
use Rattle.std.specs.Prelude.{◌≡◌, ◌<◌, ◌^◌, ℕ, ◌==◌, ◌+ℤ◌, pos, if◌then◌else◌, Bool, true, List, Option, None, unwrap_or, Ok, Err}
use Rattle.std.specs.Int.{cast_unsigned, w32}
use Rattle.std.specs.declared.result.Result.{Result}
use Rattle.rz_bridge.specs.declared.file.Finder.{Finder}
use Rattle.rz_bridge.specs.declared.file.MacFile.{MacFile}
use Rattle.rz_core.specs.Answers.{Then}
use Rattle.rz_core.specs.Message.{is_fault}
use Rattle.rz_core.specs.declared.fault.Fault.{Fault}
use Rattle.rz_core.specs.declared.fault.Kept.TheVariants as kept
use Rattle.rz_core.specs.declared.moment.Moment.{Moment}
use Rattle.rz_core.specs.declared.resource.OsType.{OsType}
use Rattle.rz_core.specs.declared.resource.Resource.{Resource}
use Rattle.rz_fork.specs.Image.{fork_of}
use Rattle.rz_fork.specs.declared.fault.LimitFault.{LimitFault}
use Rattle.rz_bridge_files.specs.Names.{Named}
use Rattle.rz_bridge_files.specs.Written.{written_as}
use Rattle.rz_bridge_files.specs.declared.form.Form.{Form}
use Rattle.rz_tools_output.specs.Base.{attributes_asked, Base}
use Rattle.rz_tools_output.specs.declared.target.Target as code

-- What is asked for: the name of the file to write, its form, its type and its creator where they are given, and
-- whether the map of its fork becomes read only.
pub record Target : Type 0 where
  pub name : List ℕ
  pub form : Option Form
  pub kind : Option OsType
  pub creator : Option OsType
  pub read_only : Bool

-- The fork.

-- a length past its limit
abbrev pub past_limit : LimitFault → Fault
past_limit fault = record { number = fault.number; mark = None; kept = kept.Number (pos fault.length) }

-- a fault of a limit: the table has its number, and its length is less than 2^63
pub record IsLimit (fault : LimitFault) : Type 0 where
  pub number : is_fault fault.number ≡ true
  pub length : fault.length < 2 ^ 63

abbrev pub fork_or_fault : Result (List ℕ) LimitFault → Result (List ℕ) Fault
fork_or_fault (Ok fork) = Ok fork
fork_or_fault (Err fault) = Err (past_limit fault)

-- the fork of a list of resources with these attributes and reserved bytes, or the first limit that it passes
unfoldable pub list_fork : ℕ → List ℕ → List Resource → Result (List ℕ) Fault
list_fork attributes reserved list = fork_or_fault (fork_of list attributes reserved)

-- The file.

-- the seconds of a moment since the first of 1904
abbrev pub mac_time : Moment → ℕ
mac_time moment = cast_unsigned w32 (moment.unix +ℤ pos 2082844800)

-- the form that is written: the one that is asked for, else that of the file to begin with
abbrev pub form_asked : Target → Base → Form
form_asked asked base = unwrap_or asked.form base.form

-- with the type and the creator that are asked for
abbrev pub finder_asked : Target → Finder → Finder
finder_asked asked finder = record finder { kind = unwrap_or asked.kind finder.kind; creator = unwrap_or asked.creator finder.creator }

-- when it was made, if that is told; else now
abbrev pub created_at : ℕ → Moment → ℕ
created_at created moment = if created == 0 then mac_time moment else created

-- the file of a fork: all other fields are those to begin with
abbrev pub file_of : Target → Moment → MacFile → List ℕ → MacFile
file_of asked moment file fork = record file {
  finder = finder_asked asked file.finder;
  created = created_at file.created moment;
  modified = mac_time moment;
  res_fork = fork;
}

-- the file that is written of a fork, in the form that is asked for: it takes a name where it has none (425), and then
-- the rules of the form (425, 428)
abbrev pub IsFileOf : Target → Moment → Base → List ℕ → Result (List ℕ) Fault → Type 0
IsFileOf asked moment base fork =
    Then (Named (form_asked asked base) asked.name (file_of asked moment base.file fork))
    (λ file bytes. bytes ≡ written_as (form_asked asked base) file)

-- the file that is written of the resources: their fork, or the first limit that it passes (302 to 304), and then the
-- file
abbrev pub IsOutput : Target → Moment → Base → List Resource → Result (List ℕ) Fault → Type 0
IsOutput asked moment base list =
    Then (λ fork. fork ≡ list_fork (attributes_asked asked.read_only base) base.fork.reserved list) (IsFileOf asked moment base)

-- What the code holds.

abbrev pub target : code.Target → Target
target held = record { name = held.name.now; form = held.form; kind = held.kind; creator = held.creator; read_only = held.read_only }

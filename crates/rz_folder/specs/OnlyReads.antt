-- What a call that only reads leaves of a folder.
use Rattle.std.specs.Prelude.{◌≡◌, ◌≤◌, ℕ, List}
use Rattle.rz_folder.specs.Counts.{Rose}
use Rattle.rz_folder.specs.declared.folder.Folder.{Ghosts}

-- No file has changed, where the folder tells its files. No count fell; those of writes and of failed writes are as
-- before, and if a read failed, that of failed reads rose. Each name that might be read may be read still.
pub record OnlyReads {F : Type 0} (g : Ghosts F) (old new : F) (Failed : Type 0) : Type 0 where
  pub unchanged : g.files new ≡ g.files old
  pub counted : g.read_faults old ≤ g.read_faults new
  pub other_count : g.write_faults new ≡ g.write_faults old
  pub unwritten : g.writes new ≡ g.writes old
  pub cause : Failed → Rose (g.read_faults old) (g.read_faults new)
  pub allowed : (name : List ℕ) → g.may_read old name → g.may_read new name

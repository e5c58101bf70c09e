-- What can be seen of the folder and of the sinks of a run, before and after it.
use Rattle.std.specs.Prelude.{◌⊎◌, ℕ, List}
use Rattle.std.specs.declared.option.Option.{Option}
use Rattle.rz_folder.specs.Counts.{Rose}
use Rattle.rz_folder.specs.Folder.{Files}
use Rattle.rz_folder.specs.Sink.{GotFront, IsOut, Stream, Told}
use Rattle.rz_folder.specs.declared.folder.Folder as folder
use Rattle.rz_folder.specs.declared.sink.Sink as sink

-- What the folder, the output and the sink of messages tell: the files, the bytes of both sinks that are out and that are held
-- back, how many calls of each failed, and how many writes the folder had, those that failed among them.
pub record World : Type 0 where
  pub files : Option Files
  pub out : Option Stream
  pub err : Option Stream
  pub read_faults : ℕ
  pub write_faults : ℕ
  pub writes : ℕ
  pub out_faults : ℕ
  pub err_faults : ℕ

-- what is seen of a folder, an output and a sink of messages
abbrev pub world : {F O E : Type 0} → (F → Option Files) → (F → ℕ) → (F → ℕ) → (F → ℕ) → (O → Option Stream) → (O → ℕ) → (E → Option Stream) → (E → ℕ) → F → O → E → World
world files read_faults write_faults writes stream faults said said_faults folder out err = record {
  files = files folder;
  out = stream out;
  err = said err;
  read_faults = read_faults folder;
  write_faults = write_faults folder;
  writes = writes folder;
  out_faults = faults out;
  err_faults = said_faults err;
}

-- this holds of what is seen before and after a run of this folder, this output and this sink of messages
abbrev pub Runs : {F O E : Type 0} → folder.Ghosts F → sink.Ghosts O → sink.Ghosts E → F → F → O → O → E → E → (World → World → Type 0) → Type 0
Runs f o e folder_old folder_new out_old out_new err_old err_new P =
    P (world f.files f.read_faults f.write_faults f.writes o.stream o.faults e.stream e.faults folder_old out_old err_old)
    (world f.files f.read_faults f.write_faults f.writes o.stream o.faults e.stream e.faults folder_new out_new err_new)

abbrev pub ReadFailed : World → World → Type 0
ReadFailed before after = Rose before.read_faults after.read_faults

abbrev pub WriteFailed : World → World → Type 0
WriteFailed before after = Rose before.write_faults after.write_faults ⊎ Rose before.out_faults after.out_faults

-- a sink that tells its bytes has got a front of the text, and the whole text is out where none of its calls failed
abbrev pub Says : List ℕ → Option Stream → Option Stream → ℕ → ℕ → Type 0
Says text before after faults_before faults_after =
    Told (GotFront text) before after × ((Rose faults_before faults_after → ⊥) → Told (IsOut text) before after)

-- the same of the sink of messages of a run
abbrev pub SaysText : List ℕ → World → World → Type 0
SaysText text before after = Says text before.err after.err before.err_faults after.err_faults

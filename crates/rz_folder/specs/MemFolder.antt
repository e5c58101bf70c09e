-- What the fields of a folder in memory stand for.
use Rattle.std.specs.Prelude.{◌+◌, ◌≤◌, length, vec_len, vec_capacity}
use Rattle.std.specs.VecDeque.{deque_len, deque_capacity}
use Rattle.rz_folder.specs.FolderState.{FolderState}
use Rattle.rz_folder.specs.Entries.{files_of, AreWithin}
use Rattle.rz_folder.specs.declared.mem_folder.MemFolder.TheInside.{Inside}

-- the state that contracts see
abbrev pub folder_state : Inside → FolderState
folder_state f = record {
  files = files_of f.store.items f.entries.items;
  write_room = f.write_room;
  byte_room = f.byte_room;
  calls = f.calls;
  failing = f.failing;
  read_faults = f.read_faults;
  write_faults = f.write_faults;
  writes = f.writes;
}

-- every entry lies in the store, and the memory of the room is there
pub record IsStored (f : Inside) : Type 0 where
  pub within : AreWithin f.entries.items (length f.store.items)
  pub room_for_writes : deque_len f.entries + f.write_room ≤ deque_capacity f.entries
  pub room_for_bytes : vec_len f.store + f.byte_room ≤ vec_capacity f.store

-- What contracts see of a folder in memory, and how its calls change it.
use Rattle.std.specs.Prelude.{◌≡◌, refl, ℕ, ◌+◌, ◌-◌, ◌<◌, nat_lt, ◌==◌, ◌||◌, ◌⊎◌, if◌then◌else◌, List, length}
use Rattle.std.specs.Coded.{Coded, code_by, coded×, coded_ℕ, coded_list}
use Rattle.std.specs.FinMap as map
use Rattle.rz_folder.specs.Counts.{next}
use Rattle.rz_folder.specs.Folder.{Files}

-- The files, the room (how many writes and how many bytes more it takes), the number of reads and writes so
-- far, the number of the call that is to fail (0: none), the numbers of reads and writes that failed, and the number of
-- all writes.
pub record FolderState : Type 0 where
  pub files : Files
  pub write_room : ℕ
  pub byte_room : ℕ
  pub calls : ℕ
  pub failing : ℕ
  pub read_faults : ℕ
  pub write_faults : ℕ
  pub writes : ℕ

-- states as tuples
abbrev pub coded_state : Coded FolderState
coded_state = code_by (Files × (ℕ × (ℕ × (ℕ × (ℕ × (ℕ × (ℕ × ℕ)))))))
    (coded× (map.code (coded_list coded_ℕ) (coded_list coded_ℕ)) (coded× coded_ℕ (coded× coded_ℕ (coded× coded_ℕ (coded× coded_ℕ (coded× coded_ℕ (coded× coded_ℕ coded_ℕ)))))))
    (λ s. (s.files, (s.write_room, (s.byte_room, (s.calls, (s.failing, (s.read_faults, (s.write_faults, s.writes))))))))
    (λ t. record { files = t.0; write_room = t.1.0; byte_room = t.1.1.0; calls = t.1.1.1.0; failing = t.1.1.1.1.0; read_faults = t.1.1.1.1.1.0; write_faults = t.1.1.1.1.1.1.0; writes = t.1.1.1.1.1.1.1 })
    (λ _. refl)

-- no files, no room, no calls
abbrev pub empty_folder : FolderState
empty_folder = record { files = map.empty; write_room = 0; byte_room = 0; calls = 0; failing = 0; read_faults = 0; write_faults = 0; writes = 0 }

-- the next call is the one that is to fail
abbrev pub IsNextNamed : FolderState → Type 0
IsNextNamed s = next s.calls ≡ s.failing

-- one more write of these bytes under this name does not fit
abbrev pub LacksRoom : FolderState → List ℕ → List ℕ → Type 0
LacksRoom s name bytes = (s.write_room ≡ 0) ⊎ (s.byte_room < length name + length bytes)

-- the state after a read: one call more, and a fault if it was named
abbrev pub after_read : FolderState → FolderState
after_read s =
    if next s.calls == s.failing
    then record s { calls = next s.calls; read_faults = next s.read_faults }
    else record s { calls = next s.calls }

-- the state after a write: one call more, and a fault if it was named or lacks room, else the entry
abbrev pub after_write : FolderState → List ℕ → List ℕ → FolderState
after_write s name bytes =
    if (next s.calls == s.failing) || (s.write_room == 0) || nat_lt s.byte_room (length name + length bytes)
    then record s { calls = next s.calls; write_faults = next s.write_faults; writes = next s.writes }
    else record s {
      files = map.insert s.files name bytes;
      write_room = s.write_room - 1;
      byte_room = s.byte_room - (length name + length bytes);
      calls = next s.calls;
      writes = next s.writes;
    }

-- What contracts see of a sink in memory, and how its calls change it.
use Rattle.std.specs.Prelude.{◌≡◌, ℕ, ◌-◌, ◌<◌, min, nat_lt, ◌==◌, if◌then◌else◌, List, [], ◌++◌, length, take}
use Rattle.rz_folder.specs.Counts.{next}

-- The bytes written, the room (how many bytes more it takes), the number of puts so far, the number of the
-- put that is to fail (0: none), how many bytes that one takes first, and the number of puts that failed.
pub record SinkState : Type 0 where
  pub written : List ℕ
  pub room : ℕ
  pub calls : ℕ
  pub failing : ℕ
  pub taken : ℕ
  pub faults : ℕ

-- nothing written, no room, no puts
abbrev pub empty_sink : SinkState
empty_sink = record { written = []; room = 0; calls = 0; failing = 0; taken = 0; faults = 0 }

-- the next put is the one that is to fail
abbrev pub IsNextNamed : SinkState → Type 0
IsNextNamed s = next s.calls ≡ s.failing

-- the piece does not fit
abbrev pub LacksRoom : SinkState → List ℕ → Type 0
LacksRoom s piece = s.room < length piece

-- these bytes after the others; the room falls by so many
abbrev pub appended : SinkState → List ℕ → SinkState
appended s bytes = record s { written = s.written ++ bytes; room = s.room - length bytes }

-- the front of a piece that the put takes which is to fail: as much as the piece, the room and its number allow
abbrev pub front_taken : SinkState → List ℕ → List ℕ
front_taken s piece = take (min (min (length piece) s.room) s.taken) piece

-- the state after a put: one call more, and the piece; or a fault, with a front of the piece if it was named,
-- and with nothing if it only lacks room
abbrev pub after_put : SinkState → List ℕ → SinkState
after_put s piece =
    if next s.calls == s.failing
    then record (appended s (front_taken s piece)) { calls = next s.calls; faults = next s.faults }
    else if nat_lt s.room (length piece)
    then record s { calls = next s.calls; faults = next s.faults }
    else record (appended s piece) { calls = next s.calls }

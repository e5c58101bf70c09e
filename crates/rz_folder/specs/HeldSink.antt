-- What contracts see of a sink in memory that holds bytes back.
use Rattle.std.specs.Prelude.{ℕ, ◌≤◌, length, take, drop}
use Rattle.rz_folder.specs.Sink.{Stream}
use Rattle.rz_folder.specs.SinkState.{SinkState}

-- the sink that has all that was put, and how many of its bytes are out
pub record HeldState : Type 0 where
  pub sink : SinkState
  pub out : ℕ

-- its bytes: the first so many are out
abbrev pub stream_of : HeldState → Stream
stream_of s = record { out = take s.out s.sink.written; held = drop s.out s.sink.written }

-- no more bytes are out than were put
abbrev pub IsWithin : HeldState → Type 0
IsWithin s = s.out ≤ length s.sink.written

-- What the fields of a sink in memory stand for.
use Rattle.std.specs.Prelude.{◌+◌, ◌≤◌, vec_len, vec_capacity}
use Rattle.rz_folder.specs.SinkState.{SinkState}
use Rattle.rz_folder.specs.declared.mem_sink.MemSink.TheInside.{Inside}

-- the state that contracts see
abbrev pub sink_state : Inside → SinkState
sink_state s = record { written = s.bytes.items; room = s.room; calls = s.calls; failing = s.failing; taken = s.taken; faults = s.faults }

-- the memory of the room is there
abbrev pub IsRoomy : Inside → Type 0
IsRoomy s = vec_len s.bytes + s.room ≤ vec_capacity s.bytes

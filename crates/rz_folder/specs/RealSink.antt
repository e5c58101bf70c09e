-- What contracts see of a sink over a writer.
use Rattle.std.specs.Prelude.{ℕ, List, [], Bool, true, false}
use Rattle.std.specs.declared.option.Option.{Option}
use Rattle.std.specs.declared.option.Option.TheVariants.{Some, None}
use Rattle.rz_folder.specs.Sink.{Stream}
use Rattle.rz_folder.specs.declared.sink.Put.{Put}
use Rattle.rz_folder.specs.declared.sink.Put.TheVariants.{Done, Failed}

-- what the sink tells of its bytes, how many calls failed, and whether any did, after which nothing more is written
pub record RealState : Type 0 where
  pub stream : Option Stream
  pub faults : ℕ
  pub has_failed : Bool

-- what a writer tells that it got is out, and these bytes are held back
abbrev pub stream_over : Option (List ℕ) → List ℕ → Option Stream
stream_over None held = None
stream_over (Some out) held = Some (record { out = out; held = held })

-- a sink before its first call, over a writer that tells these bytes, or nothing
abbrev pub begun : Option (List ℕ) → RealState
begun contents = record { stream = stream_over contents []; faults = 0; has_failed = false }

-- a call that is done, or that failed
abbrev pub put_of : Bool → Put
put_of true = Done
put_of false = Failed

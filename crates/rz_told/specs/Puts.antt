-- How a text was put that is made while it is put.
use Rattle.std.specs.Prelude.{◌≡◌, ℕ, List, Ok, Err}
use Rattle.std.specs.declared.result.Result.{Result}
use Rattle.rz_folder.specs.Counts.{faults_with}
use Rattle.rz_folder.specs.Sink.{Puts}
use Rattle.rz_folder.specs.declared.sink.Put.{Put}
use Rattle.rz_folder.specs.declared.sink.Put.TheVariants as puts
use Rattle.rz_folder.specs.declared.sink.Sink.{Ghosts}
use Rattle.rz_told.specs.declared.put.Failed.{Failed}

-- how it ended
abbrev pub put_of : Result (Unit {0}) Failed → Put
put_of (Ok done) = puts.Done
put_of (Err failed) = puts.Failed

-- The whole text was put, and the sink counts as many faults as before; or a front of it, up to the one put that failed.
pub record PutsText {O : Type 0} (g : Ghosts O) (old new : O) (text : List ℕ) (result : Result (Unit {0}) Failed) : Type 0 where
  pub told : Puts text (g.stream old) (g.stream new) (put_of result)
  pub counted : g.faults new ≡ faults_with (g.faults old) (put_of result)

-- What contracts see of a sink over bytes of its own.
use Rattle.std.specs.Prelude.{ℕ, List}

-- the bytes that were put, and the number of puts that failed
pub record TextState : Type 0 where
  pub bytes : List ℕ
  pub faults : ℕ

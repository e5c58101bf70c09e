-- What is looked for was found, or there is none.
use Rattle.std.specs.Prelude.{Option, MatchOption}

abbrev pub Decided : {X : Type 0} → (X → Type 0) → Option X → Type 0
Decided P found = MatchOption found ((x : _) → P x → ⊥) P

-- What a reader of lent bytes gave, with the bytes that it lends in place of their loans.
use Rattle.std.specs.Prelude.{ℕ, List}
use Rattle.std.specs.declared.option.Option.{Option}
use Rattle.std.specs.declared.option.Option.TheVariants.{Some, None}
use Rattle.std.specs.Borrow.{Bor}

-- the bytes after what was read
abbrev pub seen : Option (Bor (List ℕ)) → Option (List ℕ)
seen None = None
seen (Some rest) = Some rest.now

-- what was read, and the bytes after it
abbrev pub seen_pair : {A : Type 0} → Option (A × Bor (List ℕ)) → Option (A × List ℕ)
seen_pair None = None
seen_pair (Some read) = Some (read.0, read.1.now)

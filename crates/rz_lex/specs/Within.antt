-- In which files tokens stand.
use Rattle.std.specs.Prelude.{ℕ, ◌<◌, List}
use Rattle.std.specs.List.{AllByRecursion}
use Rattle.rz_lex.specs.declared.token.Token.{Token}

-- each token stands in one of so many files
abbrev pub AreWithin : ℕ → List Token → Type 0
AreWithin files tokens = AllByRecursion (λ token. token.mark.file < files) tokens

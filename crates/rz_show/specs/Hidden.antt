-- The names of macros that the code holds, in lower case.
use Rattle.std.specs.Prelude.{ℕ, Bool, false, List, Option, Some, None}
use Rattle.std.specs.List.{list_any}
use Rattle.std.specs.Str.{bytes_eq, str_to_ascii_lowercase}
use Rattle.rz_show.specs.declared.hidden.Hidden.{Hidden}

-- a name is one of them, in whatever case
abbrev pub hides : Hidden → List ℕ → Bool
hides hidden name = list_any (λ held. bytes_eq (str_to_ascii_lowercase name) held.items) hidden.held.keys

-- no name is hidden where no macros are given
abbrev pub hides_in : Option Hidden → List ℕ → Bool
hides_in None = λ name. false
hides_in (Some hidden) = hides hidden

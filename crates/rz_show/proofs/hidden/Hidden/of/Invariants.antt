use Rattle.std.proofs.Common.{◌≡◌, ℕ, List, take}
use Rattle.std.specs.List.{list_any}
use Rattle.std.specs.Str.{bytes_eq, str_to_ascii_lowercase}
use Rattle.rz_show.proofs.hidden.Hidden.of.Given as goal

abbrev pub invariant-loop-name : goal.invariant-loop-name
invariant-loop-name l = (name : List ℕ) → list_any (λ held. bytes_eq (str_to_ascii_lowercase name) held.items) l.held.keys ≡ list_any (λ one. bytes_eq (str_to_ascii_lowercase name) one.bytes) (take l.name-index l.names)

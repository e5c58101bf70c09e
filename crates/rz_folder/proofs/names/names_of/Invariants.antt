use Rattle.std.proofs.Common.{◌≡◌, ◌-◌, ◌≤◌, ◌++◌, ◌∷◌, map, take, length, string_bytes}
use Rattle.rz_folder.proofs.names.names_of.Given as goal

abbrev pub invariant-loop-k : goal.invariant-loop-k
invariant-loop-k l = record {
  named : l.names ≡ string_bytes l.own ∷ map (λ path. path ++ 47 ∷ string_bytes l.own) (take l.k l.paths);
  within : l.k ≤ length l.paths;
}

abbrev pub decreases-loop-k : goal.decreases-loop-k
decreases-loop-k l = length l.paths - l.k

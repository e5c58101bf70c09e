-- What a host in memory gives.
use Rattle.std.specs.Prelude.{ℕ, List, [], ◌∷◌, map, Option, Some, None, if◌then◌else◌, bytes_eq}
use Rattle.std.specs.Borrow.{Bor}
use Rattle.rz_tools_host.specs.Process.{Process}
use Rattle.rz_tools_host.specs.declared.mem_host.MemHost.{MemHost}

-- variables as pairs of a name and a value
abbrev pub pairs_of : List (Bor (List ℕ) × Bor (List ℕ)) → List (List ℕ × List ℕ)
pairs_of variables = map (λ one. (one.0.now, one.1.now)) variables

-- the value of the first that has the name
abbrev pub value_in : List (List ℕ × List ℕ) → List ℕ → Option (List ℕ)
value_in [] name = None
value_in ((own, value) ∷ others) name = if bytes_eq name own then Some value else value_in others name

abbrev pub process_of : MemHost → Process
process_of host = record {
  args = map (λ arg. arg.now) host.args.now;
  variables = value_in (pairs_of host.variables.now);
  clock = host.clock;
}

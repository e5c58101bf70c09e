-- Values that are there because no rule is broken.
use Rattle.std.proofs.Common.{◌≡◌, ℕ, ◌≤◌, nat_lt, ◌||◌, Bool, true, false, List, [], ◌∷◌, length, Option, Some, None, Ok, Err, Result, refl}
use Rattle.std.proofs.lemmas.Bool.{ltb-false}
use Rattle.rz_bridge.specs.Faults.{bad_name, broken, fault, file_refused, fork_too_long, forks_refused}
use Rattle.rz_bridge.specs.declared.fault.BridgeFault.{BridgeFault}
use Rattle.rz_bridge.specs.declared.file.MacFile.{MacFile}
use Rattle.rz_core.proofs.Lists.{or_else_none}
use Rattle.rz_core.proofs.Tests.{or_false}
use Rattle.rz_core.specs.Lists.{first_of, unless_fault}
use Rattle.rz_core.specs.Numbers.{kept_length}
use Rattle.rz_core.specs.Stop.{◌>>=◌}

pub unfaulted : {X F : Type 0} (broken : Option F) (value given : X) → unless_fault broken value ≡ Ok given → (broken ≡ None) × (value ≡ given)
unfaulted None value given is = (refl, cc is)
unfaulted (Some fault) value given is = cc is

-- of two steps of which the last has a value, the first has one
pub first_step : {X Y F : Type 0} (held : Result X F) (next : X → Result Y F) (given : Y) → (held >>= next) ≡ Ok given
    → (value : X) × (held ≡ Ok value) × (next value ≡ Ok given)
first_step (Ok value) next given is = (value, refl, is)
first_step (Err fault) next given is = cc is

pub passes : (test : Bool) (given : BridgeFault) → broken test given ≡ None → test ≡ false
passes true given is = cc is
passes false given is = refl

-- What is not refused.

fork_short : (fork : List ℕ) → fork_too_long fork ≡ None → length fork ≤ 33554432
unfolding fork_too_long
fork_short fork is =
    ltb-false 33554432 (length fork) (passes (nat_lt 33554432 (length fork)) (fault 428 0 (kept_length (length fork))) is)

pub forks_short : (file : MacFile) → forks_refused file ≡ None → (length file.data_fork ≤ 33554432) × (length file.res_fork ≤ 33554432)
unfolding forks_refused
forks_short file is =
    let parts = or_else_none (fork_too_long file.data_fork) (first_of (fork_too_long file.res_fork ∷ [])) is in
    let last = or_else_none (fork_too_long file.res_fork) None parts.1 in
    (fork_short file.data_fork parts.0, fork_short file.res_fork last.0)

pub record IsShort (file : MacFile) : Type 0 where
  pub some : 1 ≤ length file.name
  pub name : length file.name ≤ 63
  pub data_fork : length file.data_fork ≤ 33554432
  pub res_fork : length file.res_fork ≤ 33554432

name_short : (name : List ℕ) → bad_name name ≡ None → (1 ≤ length name) × (length name ≤ 63)
unfolding bad_name
name_short name is =
    let tests = or_false (nat_lt (length name) 1) (nat_lt 63 (length name)) (passes _ (fault 425 0 (kept_length (length name))) is) in
    (ltb-false (length name) 1 tests.0, ltb-false 63 (length name) tests.1)

pub file_short : (file : MacFile) → file_refused file ≡ None → IsShort file
unfolding file_refused
file_short file is =
    let parts = or_else_none (bad_name file.name) (first_of (forks_refused file ∷ [])) is in
    let name = name_short file.name parts.0 in
    let forks = forks_short file (or_else_none (forks_refused file) None parts.1).0 in
    record { some = name.0; name = name.1; data_fork = forks.0; res_fork = forks.1 }

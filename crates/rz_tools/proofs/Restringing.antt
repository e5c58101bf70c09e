-- What `restring` keeps of a fork and of what was said, so that its file can be written.
use Rattle.std.proofs.Common.{◌≡◌, ◌≤◌, ℕ, Bool, ◌||◌, List, [], ◌∷◌, ◌++◌, map, Option, Some, None, Err, refl, sym, ap, subst, ◌∙◌, arith}
use Rattle.std.specs.List.{list_any}
use Rattle.std.specs.declared.result.Result.{Result}
use Rattle.rz_catalog.specs.Stays.{bare}
use Rattle.rz_core.specs.Message.{IsMarked}
use Rattle.rz_core.specs.Resources.{same_key, KeysDiffer}
use Rattle.rz_core.specs.declared.fault.Fault.{Fault}
use Rattle.rz_core.specs.declared.fault.Mark.{Mark}
use Rattle.rz_core.specs.Stop.{halt_of, Meets, OnFault, Yields}
use Rattle.rz_core.specs.declared.resource.Resource.{Resource}
use Rattle.rz_core.specs.declared.stop.Stop.{Stop}
use Rattle.rz_core.specs.declared.stop.Stop.TheVariants.{Refused, NoMemory}
use Rattle.rz_tools_answer.specs.Warning.{AreWarnings}
use Rattle.rz_set.specs.ResSet.{AreNamed}

-- Lists whose resources are the same but for their bytes.

any_bare : (list : List Resource) (r : Resource) → list_any (λ b. same_key b r) (map bare list) ≡ list_any (λ b. same_key b r) list
any_bare [] r = refl
any_bare (b ∷ list) r = ap (λ (rest : Bool). same_key (bare b) r || rest) (any_bare list r)

map_behind : (list : List Resource) (r : Resource) → map bare (list ++ r ∷ []) ≡ map bare list ++ bare r ∷ []
map_behind [] r = refl
map_behind (b ∷ list) r = ap (λ (rest : List Resource). bare b ∷ rest) (map_behind list r)

bare_keys : (before list : List Resource) → KeysDiffer before list → KeysDiffer (map bare before) (map bare list)
bare_keys before [] differ = tt
bare_keys before (r ∷ list) differ =
    (any_bare before r ∙ differ.0, subst (λ (front : List Resource). KeysDiffer front (map bare list)) (map_behind before r) (bare_keys (before ++ r ∷ []) list differ.1))

keys_bare : (before list : List Resource) → KeysDiffer (map bare before) (map bare list) → KeysDiffer before list
keys_bare before [] differ = tt
keys_bare before (r ∷ list) differ =
    (sym (any_bare before r) ∙ differ.0, keys_bare (before ++ r ∷ []) list (subst (λ (front : List Resource). KeysDiffer front (map bare list)) (sym (map_behind before r)) differ.1))

bare_named : (list : List Resource) → AreNamed list → AreNamed (map bare list)
bare_named [] all = tt
bare_named (r ∷ list) all = (all.0, bare_named list all.1)

named_bare : (list : List Resource) → AreNamed (map bare list) → AreNamed list
named_bare [] all = tt
named_bare (r ∷ list) all = (all.0, named_bare list all.1)

module _ (list new : List Resource) (same : map bare new ≡ map bare list) where
  pub keys_kept : KeysDiffer [] list → KeysDiffer [] new
  keys_kept differ = keys_bare [] new (subst (λ (l : List Resource). KeysDiffer [] l) (sym same) (bare_keys [] list differ))

  pub names_kept : AreNamed list → AreNamed new
  names_kept all = named_bare new (subst AreNamed (sym same) (bare_named list all))

-- More files.

marked_more : (files more : ℕ) (mark : Option Mark) → files ≤ more → IsMarked files mark → IsMarked more mark
marked_more files more None le is = tt
marked_more files more (Some mark) le is = omega (arith, le, is)

pub warnings_more : (files more : ℕ) (faults : List Fault) → files ≤ more → AreWarnings files faults → AreWarnings more faults
warnings_more files more [] le all = tt
warnings_more files more (fault ∷ faults) le all = (record { number = all.0.number; place = marked_more files more fault.mark le all.0.place }, warnings_more files more faults le all.1)

-- Faults.

pub stopped_nameable : (X Y : Type 0) (Answers : Result X Fault → Type 0) (P : Fault → Type 0) → ((fault : Fault) → Answers (Err fault) → P fault) → (stop : Stop Fault)
    → Meets {X = X} (Err stop) Answers → OnFault {X = Y} (Err stop) P
stopped_nameable X Y Answers P so (Refused fault) is = so fault is
stopped_nameable X Y Answers P so NoMemory is = tt

-- the end of a call that reads no files
pub halts_as : {X : Type 0} (answers : Result X Fault → Type 0) (stop : Stop Fault) → Meets {X = X} (Err stop) answers → Yields {X = X} (Err (halt_of stop)) answers
halts_as answers (Refused fault) is = is
halts_as answers NoMemory is = tt

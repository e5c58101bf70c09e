-- What is lent of a fork in place.
use Rattle.std.specs.Prelude.{◌≡◌, ◌<◌, ℕ, List, [], ◌∷◌, map, drop, ◌++◌, length}
use Rattle.std.specs.List.{flat_map, AllByRecursion}
use Rattle.std.specs.declared.option.Option.{Option}
use Rattle.std.specs.declared.option.Option.TheVariants.{Some, None}
use Rattle.rz_core.specs.Resources.{KeysDiffer}
use Rattle.rz_core.specs.declared.resource.Resource.{Resource}
use Rattle.rz_fork.specs.Rules.{count_of}
use Rattle.rz_fork.specs.Code.{HasResources, IsAdmitted}
use Rattle.rz_fork.specs.Contents.{contents, resource_of, resources_of, FitsFork}
use Rattle.rz_fork.specs.Layout.{entries, references}
use Rattle.rz_fork.specs.declared.layout.Outline.{Outline}
use Rattle.rz_fork.specs.declared.layout.TypeEntry.{TypeEntry}
use Rattle.rz_fork.specs.declared.view.ResView.{ResView}

-- the resource that is lent
abbrev pub lent : ResView → Resource
lent v = record { kind = v.kind; id = v.id; name = v.name.now; attr = v.attr; bytes = v.bytes.now }

-- the first of a list is given and the others stand after it; nothing is given exactly where there is none
abbrev pub GivesFirst : {A : Type 0} → Option A → List A → List A → Type 0
GivesFirst None before behind = (before ≡ []) × (behind ≡ [])
GivesFirst (Some one) before behind = before ≡ one ∷ behind

-- Calls.

-- what is still to be lent: the references from here of the type that is begun, and the types from there
abbrev pub left : List ℕ → Outline → TypeEntry → ℕ → ℕ → List Resource
left bytes o t next begun = map (resource_of bytes o t) (drop next (references bytes t)) ++ flat_map (resources_of bytes o) (drop begun (entries bytes o))

-- what is still to be lent lies in the fork
pub record CanLend (bytes : List ℕ) (o : Outline) (t : TypeEntry) (next begun : ℕ) : Type 0 where
  pub entry : next < t.count → HasResources bytes o t
  pub others : begun < o.count → IsAdmitted bytes o

-- the bytes are none, or an admitted fork that lies so and has so many references; no two of its resources have the
-- same type and id, and each is one that a fork can hold
pub record IsLent (bytes : List ℕ) (o : Outline) (count : ℕ) : Type 0 where
  pub none : length bytes ≡ 0 → o.count ≡ 0
  pub some : 0 < length bytes → IsAdmitted bytes o
  pub counted : count ≡ count_of (entries bytes o)
  pub keys : KeysDiffer [] (contents bytes).list
  pub fits : AllByRecursion FitsFork (contents bytes).list

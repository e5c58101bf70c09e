-- What rez begins with, from what the file to append to holds.
use Rattle.std.proofs.Common.{◌≡◌, ℕ, Bool, true, false, if◌then◌else◌, List, Option, Some, None, Ok, Err, inl, inr, sym, ap, subst, ◌∙◌, arith}
use Rattle.std.specs.FinMap as finite
use Rattle.std.specs.declared.result.Result.{Result}
use Rattle.rz_core.specs.Answers.{Then}
use Rattle.rz_core.specs.declared.fault.Fault.{Fault}
use Rattle.rz_folder.specs.Folder.{Files}
use Rattle.rz_tools_output.specs.Base.{base_in, base_of, new_base, or_empty, Base, CanBegin, HasOrNone}

-- A new file.

pub begins_new : (append : Bool) (name : List ℕ) → append ≡ false → (files : Files) (answer : Result Base Fault) → Ok new_base ≡ answer → base_of append name files ≡ answer
begins_new append name new files answer is = ap (λ (b : Bool). if b then base_in false None (or_empty (finite.get files name)) else Ok new_base) new ∙ is

pub can_begin_new : (base : Base) → base ≡ new_base → CanBegin base
can_begin_new base is = subst CanBegin (sym is) (record { keys = tt; named = tt; room = omega arith })

-- One that is there.

pub or_none : (entry : Option (List ℕ)) (bytes : List ℕ) → HasOrNone entry (Ok bytes) → or_empty entry ≡ bytes
or_none None bytes is = cc is
or_none (Some held) bytes is = cc is

pub not_refused : (entry : Option (List ℕ)) (fault : Fault) → HasOrNone entry (Err fault) → ⊥
not_refused None fault is = cc is
not_refused (Some held) fault is = cc is

pub begins_there : (append : Bool) (name : List ℕ) → append ≡ true → (files : Files) (answer : Result Base Fault)
    → Then (HasOrNone (finite.get files name)) (λ bytes given. base_in false None bytes ≡ given) answer → base_of append name files ≡ answer
begins_there append name appends files answer (inl (bytes, is, so)) =
    ap (λ (b : Bool). if b then base_in false None (or_empty (finite.get files name)) else Ok new_base) appends
    ∙ ap (λ (b : List ℕ). base_in false None b) (or_none (finite.get files name) bytes is) ∙ so
begins_there append name appends files answer (inr (fault, is, same)) = absurd (not_refused (finite.get files name) fault is)

-- Entries that were applied: none is refused, and each resource has its own put.
use Rattle.std.proofs.Common.{◌≡◌, Bool, List, [], ◌∷◌, ◌++◌, Option, Some, None, refl, sym, ap, subst, ◌∙◌}
use Rattle.std.specs.Prelude.{Ok}
use Rattle.std.proofs.lemmas.List.{append-nil, append_assoc}
use Rattle.rz_catalog.proofs.Pairs.{by_each, each_by, AreBy}
use Rattle.rz_catalog.specs.Apply.{first_refused, Applied, IsAppliedTo, IsRestrung}
use Rattle.rz_catalog.specs.Stock.{AreStocked, Stocked}
use Rattle.rz_catalog_text.specs.declared.entry.Entry.{Entry}
use Rattle.rz_core.proofs.Once.{ok_or_err}
use Rattle.rz_core.specs.Lists.{first_in, or_else}
use Rattle.rz_core.specs.declared.fault.Fault.{Fault}
use Rattle.rz_core.specs.declared.moment.Moment.{Moment}
use Rattle.rz_core.specs.declared.resource.Resource.{Resource}
use Rattle.rz_types_table.specs.Table.{Declaration}

-- The first fault of two lists.

earlier_first : {F : Type 0} (a b c : Option F) → or_else (or_else a b) c ≡ or_else a (or_else b c)
earlier_first None b c = refl
earlier_first (Some fault) b c = refl

pub first_append : {A F : Type 0} (rule : List A → A → Option F) (front xs ys : List A) → first_in rule front (xs ++ ys) ≡ or_else (first_in rule front xs) (first_in rule (front ++ xs) ys)
first_append rule front [] ys = ap (λ l. first_in rule l ys) (sym (append-nil front))
first_append rule front (x ∷ xs) ys =
    ap (or_else (rule front x)) (first_append rule (front ++ x ∷ []) xs ys ∙ ap (λ l. or_else (first_in rule (front ++ x ∷ []) xs) (first_in rule l ys)) (append_assoc front (x ∷ []) xs))
    ∙ sym (earlier_first (rule front x) (first_in rule (front ++ x ∷ []) xs) (first_in rule (front ++ (x ∷ xs)) ys))

-- What is applied.

module _ (types : List Declaration) (moment : Moment) where
  -- what each resource gets of the entries
  abbrev pub Restrings : List Entry → Stocked → Resource → Type 0
  Restrings entries s n = IsRestrung types moment entries s (Ok n)

  pub record IsMade (over : Bool) (list : List Resource) (entries : List Entry) (new : List Resource) : Type 0 where
    pub stock : List Stocked
    pub stocked : AreStocked types moment list stock
    pub none : first_refused over stock entries ≡ None
    pub each : AreBy (Restrings entries) stock new

  pub made_of : (over : Bool) (list : List Resource) (entries : List Entry) (new : List Resource) → Applied types moment over list entries (Ok new) → IsMade over list entries new
  made_of over list entries new it = by (first_refused over it.stock entries) refl it.is
    where
      by : (fault : Option Fault) → first_refused over it.stock entries ≡ fault → IsAppliedTo types moment it.stock entries fault (Ok new) → IsMade over list entries new
      by (Some fault) so is = absurd (ok_or_err new fault is)
      by None so is = record { stock = it.stock; stocked = it.stocked; none = so; each = by_each (IsRestrung types moment entries) it.stock new is }

  pub made_applied : (over : Bool) (list : List Resource) (entries : List Entry) (new : List Resource) → IsMade over list entries new → Applied types moment over list entries (Ok new)
  made_applied over list entries new it = record {
    stock = it.stock;
    stocked = it.stocked;
    is = subst (λ (fault : Option Fault). IsAppliedTo types moment it.stock entries fault (Ok new)) (sym it.none) (each_by (IsRestrung types moment entries) it.stock new it.each);
  }

-- A list as a part of the type of its own items: what lets a tree of lists be a plain tree to contracts.
use mathlib.Core.Path.{◌≡◌, refl, sym}
use mathlib.Core.List.{List, []}
use mathlib.Core.Former.{Former, this, list, via, children}
use base.Stored.{code_map}
use denote.RattleType.{RattleType}
use denote.HoleLaws.{Alike}
use denote.HolePlaces.{Recodes, struct_places, laid}
use denote.Hole.Carrier.{listed, list-listed}
use denote.Hole.Fix.{over}
use denote.Param.Weighed.{Weighed, w_list}
use denote.Model.Placed.{view_places}
use Rattle.std.specs.formers.vec.Vec as vec
use Rattle.std.specs.declared.alloc.Global.{Global}
use Rattle.std.specs.contracts.alloc.Global as heap
use Rattle.std.specs.contracts.impls.GlobalAllocator.TheImpl.{ghosts}
use Rattle.rz_core.specs.declared.list.Listing.TheInside.{Inside}
use Rattle.rz_core.specs.declared.list.Listing.TheView.{view, invariant}
use Rattle.rz_core.specs.contracts.list.Listing as listing
use Rattle.rz_core.specs.contracts.list.Listing.TheInside as inside

-- a list of items is a list of their values
abbrev pub the_former : Former {0} → Former {0}
the_former item = list item

abbrev pub the_weighed : {item : Former {0}} → Weighed item → Weighed (the_former item)
the_weighed weighed = w_list weighed

abbrev pub the_empty : List ⊥
the_empty = []

abbrev pub the_items : (X : Type 0) → List X → List X
the_items X items = items

pub the_items_listed : (X : Type 0) (items : List X) → listed _ (children (the_former this) X items) ≡ the_items X items
the_items_listed X items = list-listed X items

-- the one field
abbrev fields : Former {0}
fields = via (vec.the_former this Global) Inside (λ X held. held.items) (λ X items. record { items = items }) (λ X held. refl) (λ X items. refl)

module _ (R S : RattleType) (change : R.Denot → S.Denot) where
  pub the_places : Alike R S change → Alike (listing.the_row R) (listing.the_row S) ((the_former this).map R.Denot S.Denot change)
  the_places alike = view_places fields (list this) view (λ X Y k u. refl) (λ X u. refl) R.Denot S.Denot change (listing.the_row R).coded (listing.the_row S).coded
      (invariant R.Denot) (invariant S.Denot) (λ u p q. refl) (λ u p q. refl) (λ u e. tt) (λ u e. tt)
      (over (inside.the_row R)) (over (inside.the_row S))
      (struct_places (inside.the_type R) (inside.the_type S) (vec.mapped change, tt) _ (λ d. refl) refl (laid _ _ _ (vec.the_places heap.the_row ghosts R S change alike), tt))

  pub the_codes_placed : Recodes R S change → Recodes (listing.the_row R) (listing.the_row S) ((the_former this).map R.Denot S.Denot change)
  the_codes_placed recodes items = sym (code_map R.coded.code S.coded.code change (λ x. sym (recodes x)) items)

-- A list of resources with the texts of entries in place of its leaves, or why an entry is refused.
use Rattle.std.specs.Prelude.{◌≡◌, ℕ, ◌==◌, nat_le, Bool, true, false, not, ◌&&◌, if◌then◌else◌, List, [], ◌∷◌, filter, length, Option, Some, None, option_map, Ok, Err}
use Rattle.std.specs.Int.{cast_unsigned, w16}
use Rattle.std.specs.List.{list_any}
use Rattle.std.specs.Option.{ok_or, unwrap_or}
use Rattle.std.specs.declared.result.Result.{Result}
use Rattle.rz_core.specs.Decided.{Decided}
use Rattle.rz_core.specs.Lists.{each_with_front, first_in, first_of}
use Rattle.rz_core.specs.Resources.{id_bits, is_protected}
use Rattle.rz_core.specs.declared.fault.Fault.{Fault}
use Rattle.rz_core.specs.declared.fault.Kept.TheVariants.{Key}
use Rattle.rz_core.specs.declared.moment.Moment.{Moment}
use Rattle.rz_core.specs.declared.resource.Resource.{Resource}
use Rattle.rz_catalog_text.specs.InOrder.{EachInOrder}
use Rattle.rz_catalog_text.specs.declared.entry.Entry.{Entry}
use Rattle.rz_types_fields.specs.declared.tree.Tree.{Tree}
use Rattle.rz_types_table.specs.Table.{Declaration}
use Rattle.rz_catalog.specs.Leaves.{leaves, HasTexts}
use Rattle.rz_catalog.specs.Stock.{texts_of, AreStocked, HasTree, Stocked}

-- the first item that passes
abbrev pub first_such : {A : Type 0} → (A → Bool) → List A → Option A
first_such test [] = None
first_such test (x ∷ xs) = if test x then Some x else first_such test xs

-- Entries and resources.

-- the 16 bits of an entry's id
abbrev pub id_bits_of : Entry → ℕ
id_bits_of e = cast_unsigned w16 e.id

-- the entry is for this resource: it has its type and id
abbrev pub is_entry_for : Resource → Entry → Bool
is_entry_for r e = (r.kind.code == e.kind.code) && (id_bits r == id_bits_of e)

-- the two entries have the same type, id and leaf
abbrev pub same_leaf : Entry → Entry → Bool
same_leaf a b = ((a.kind.code == b.kind.code) && (id_bits_of a == id_bits_of b)) && (a.leaf == b.leaf)

-- the texts with those of entries in place: of several entries with a leaf the first one counts
abbrev pub text_for : List Entry → ℕ → List ℕ → List ℕ
text_for entries leaf own = unwrap_or (option_map (λ e. e.text) (first_such (λ e. leaf == e.leaf) entries)) own

abbrev pub placed : List Entry → List (List ℕ) → List (List ℕ)
placed entries texts = each_with_front (λ before own. text_for entries (length before) own ∷ []) texts

-- Refusals.

-- a fault of an entry keeps its type and id
abbrev pub fault_of : ℕ → Entry → Fault
fault_of number e = record { number = number; mark = Some e.mark; kept = Key e.kind e.id }

-- a fault where a test holds
abbrev pub refused_where : Bool → Fault → Option Fault
refused_where true fault = Some fault
refused_where false fault = None

-- why an entry is refused, for a resource or for none: 462 where there is no such leaf, 219 for a protected resource, if these may not
-- be changed, 463 where an entry before has the same leaf
abbrev pub fault_for : (over : Bool) → Option Stocked → (twice : Bool) → Entry → Option Fault
fault_for over None twice e = Some (fault_of 462 e)
fault_for over (Some s) twice e =
    first_of (
    refused_where (nat_le (length (texts_of s)) e.leaf) (fault_of 462 e)
    ∷ refused_where (not over && is_protected s.resource) (fault_of 219 e)
    ∷ refused_where twice (fault_of 463 e)
    ∷ [])

-- an entry after others is for the first resource that has its type and id
abbrev pub entry_fault : Bool → List Stocked → List Entry → Entry → Option Fault
entry_fault over stock before e = fault_for over (first_such (λ s. is_entry_for s.resource e) stock) (list_any (same_leaf e) before) e

abbrev pub first_refused : Bool → List Stocked → List Entry → Option Fault
first_refused over stock entries = first_in (entry_fault over stock) [] entries

-- Resources.

abbrev pub with_bytes : Resource → List ℕ → Resource
with_bytes r bytes = record { kind = r.kind; id = r.id; name = r.name; attr = r.attr; bytes = bytes }

-- a resource whose bytes tell a row, and its entries, of which there is a first one: the answer is the resource with bytes that
-- tell the row with the texts in place, or 464 where no bytes do
abbrev pub IsChangedBy : (Tell : List ℕ → List Tree → Type 0) → Resource → List Tree → List Entry → Entry → Result Resource Fault → Type 0
IsChangedBy Tell r row entries first answer =
    (new : List Tree) × HasTexts (placed entries (leaves row)) row new
    × (found : Option (List ℕ)) × Decided (λ bytes. Tell bytes new) found
    × (answer ≡ ok_or (option_map (with_bytes r) found) (fault_of 464 first))

-- a resource without an entry, or without a tree, stays
abbrev pub IsPutBy : (Tell : List ℕ → List Tree → Type 0) → Resource → Option (List Tree) → List Entry → Result Resource Fault → Type 0
IsPutBy Tell r tree [] answer = answer ≡ Ok r
IsPutBy Tell r None (first ∷ others) answer = answer ≡ Ok r
IsPutBy Tell r (Some row) (first ∷ others) answer = IsChangedBy Tell r row (first ∷ others) first answer

-- bytes tell a row where the resource with these bytes has that row as its tree
abbrev pub IsChanged : List Declaration → Moment → Resource → List Tree → List Entry → Entry → Result Resource Fault → Type 0
IsChanged types moment r row entries first answer = IsChangedBy (λ bytes new. HasTree types moment (with_bytes r bytes) new) r row entries first answer

abbrev pub IsPut : List Declaration → Moment → Resource → Option (List Tree) → List Entry → Result Resource Fault → Type 0
IsPut types moment r tree entries answer = IsPutBy (λ bytes new. HasTree types moment (with_bytes r bytes) new) r tree entries answer

abbrev pub IsRestrung : List Declaration → Moment → List Entry → Stocked → Result Resource Fault → Type 0
IsRestrung types moment entries s answer = IsPut types moment s.resource s.tree (filter (is_entry_for s.resource) entries) answer

-- the first fault of an entry, or else each resource with the texts in place
abbrev pub IsAppliedTo : List Declaration → Moment → List Stocked → List Entry → Option Fault → Result (List Resource) Fault → Type 0
IsAppliedTo types moment stock entries (Some fault) answer = answer ≡ Err fault
IsAppliedTo types moment stock entries None answer = EachInOrder (IsRestrung types moment entries) stock answer

-- what is answered where these entries are applied to the list: the first fault of an entry, or else the list with the texts in place,
-- or the first resource that can't have them
pub record Applied (types : List Declaration) (moment : Moment) (over : Bool) (list : List Resource) (entries : List Entry)
    (answer : Result (List Resource) Fault) : Type 0 where
  pub stock : List Stocked
  pub stocked : AreStocked types moment list stock
  pub is : IsAppliedTo types moment stock entries (first_refused over stock entries) answer

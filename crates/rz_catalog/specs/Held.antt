-- What the code holds of resources and entries while it checks these: where the first one with each key stands, how many
-- leaves each resource has, and whether it is protected.
use Rattle.std.specs.Prelude.{◌≡◌, ℕ, ℤ, ◌==◌, ◌&&◌, Bool, List, length, map, Option}
use Rattle.std.specs.HashMap.{get, HashMap}
use Rattle.std.specs.Int.{cast_unsigned, w16}
use Rattle.std.specs.List.{position_from}
use Rattle.std.specs.declared.result.Result.{Result}
use Rattle.rz_core.specs.Resources.{is_protected}
use Rattle.rz_core.specs.declared.facts.Facts.{Facts}
use Rattle.rz_core.specs.declared.fault.Fault.{Fault}
use Rattle.rz_core.specs.declared.resource.OsType.{OsType}
use Rattle.rz_core.specs.declared.resource.Resource.{Resource}
use Rattle.rz_catalog_text.specs.declared.entry.Entry.{Entry}
use Rattle.rz_types.specs.Field.{PlainBody}
use Rattle.rz_types_fields.specs.declared.tree.Tree.{Tree}
use Rattle.rz_unlay.specs.Reading.{IsTree}
use Rattle.rz_catalog.specs.Apply.{IsChangedBy, IsPutBy}
use Rattle.rz_catalog.specs.Stock.{texts_of, Stocked}
use Rattle.rz_catalog.specs.declared.stock.Held.{Held}
use Rattle.rz_catalog.specs.declared.stock.Stock.{Stock}

-- Keys: that of a resource is its type and the 16 bits of its id, and that of a leaf has its number too.

abbrev pub key_eq : ℕ × ℕ → ℕ × ℕ → Bool
key_eq one other = (one.0 == other.0) && (one.1 == other.1)

abbrev pub leaf_eq : ℕ × ℕ × ℕ → ℕ × ℕ × ℕ → Bool
leaf_eq one other = ((one.0 == other.0) && (one.1 == other.1)) && (one.2 == other.2)

abbrev pub key_of : OsType → ℤ → ℕ × ℕ
key_of kind id = (kind.code, cast_unsigned w16 id)

abbrev pub resource_key : Resource → ℕ × ℕ
resource_key r = key_of r.kind r.id

abbrev pub entry_key : Entry → ℕ × ℕ
entry_key e = key_of e.kind e.id

abbrev pub leaf_key : Entry → ℕ × ℕ × ℕ
leaf_key e = (e.kind.code, cast_unsigned w16 e.id, e.leaf)

-- the map has for each key the position of the first one in the list
abbrev pub AreFirst : {K S : Type 0} → (K → K → Bool) → List K → HashMap K ℕ S → Type 0
AreFirst eq keys map = (k : _) → get eq map k ≡ position_from (eq k) 0 keys

-- What is held of a stock.

abbrev pub held_of : Stocked → Held
held_of s = record { leaves = length (texts_of s); protected = is_protected s.resource }

pub record IsHeld (stock : List Stocked) (held : Stock) : Type 0 where
  pub places : AreFirst key_eq (map (λ s. resource_key s.resource) stock) held.places
  pub each : held.each ≡ map held_of stock

-- What is put into a resource under a template, where so much is known of it.

abbrev pub IsChangedUnder : Option PlainBody → Facts → Resource → List Tree → List Entry → Entry → Result Resource Fault → Type 0
IsChangedUnder fields known r row entries first answer = IsChangedBy (λ bytes new. (body : PlainBody) × IsTree fields known bytes body new) r row entries first answer

abbrev pub IsPutUnder : Option PlainBody → Facts → Resource → Option (List Tree) → List Entry → Result Resource Fault → Type 0
IsPutUnder fields known r tree entries answer = IsPutBy (λ bytes new. (body : PlainBody) × IsTree fields known bytes body new) r tree entries answer

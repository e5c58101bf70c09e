-- Groups of declarations: where two are the same, what their tests tell of ids, and what a map has by them.
use Rattle.std.proofs.Common.{◌≡◌, ℕ, ℤ, ◌==◌, ◌&&◌, Bool, true, false, cond, if◌then◌else◌, List, [], ◌∷◌, ◌++◌, Option, Some, None, Vec, refl, sym, ap, ◌∙◌, append-nil}
use Rattle.std.proofs.lemmas.Bool.{eqb-true}
use Rattle.std.proofs.lemmas.Bool.Decides.{Decides-int_eq}
use Rattle.std.specs.HashMap.{get, HashMap}
use Rattle.std.specs.List.{remove}
use Rattle.std.specs.Option.{option_eq, option_map_or}
use Rattle.std.specs.Ordering.{int_eq}
use Rattle.rz_core.proofs.Tests.{both}
use Rattle.rz_core.specs.declared.resource.OsType.{OsType}
use Rattle.rz_types_table.specs.Listed.{declaration_of, own_group}
use Rattle.rz_types_table.specs.Positions.{group_of, held, id_of, same_group}
use Rattle.rz_types_table.specs.Table.{is_any, is_for, is_id, is_range_of, same_scope, stands_at}
use Rattle.rz_types_table.specs.declared.table.Declared.{Declared}
use Rattle.rz_types_table.specs.declared.table.Scope.{Scope}
use Rattle.rz_types_table.specs.declared.table.Scope.TheVariants.{Any, Id, Range}

same_id : (one other : Option ℤ) → option_eq int_eq one other ≡ true → one ≡ other
same_id None None same = refl
same_id None (Some b) same = cc
same_id (Some a) None same = cc
same_id (Some a) (Some b) same = ap (λ (z : ℤ). Some z) ((Decides-int_eq a b).0 same)

-- groups that pass as the same are the same
pub group_is : (one other : ℕ × Option ℤ) → same_group one other ≡ true → one ≡ other
group_is one other same =
    let parts = both (one.0 == other.0) (option_eq int_eq one.1 other.1) same in
    λ i. (eqb-true one.0 other.0 parts.0 i, same_id one.1 other.1 parts.1 i)

-- Tests that pass in one group alone.

never : (code test : Bool) → (code && true) ≡ false → (code && test) ≡ false
never true test apart = cc
never false test apart = refl

id_apart : (code : Bool) (scope : Scope) (id : ℤ) → (code && option_eq int_eq (id_of scope) (Some id)) ≡ false → (code && is_id id scope) ≡ false
id_apart code (Id own) id apart = apart
id_apart code (Range first last) id apart = apart
id_apart code Any id apart = apart

range_apart : (code : Bool) (scope : Scope) (id : ℤ) → (code && option_eq int_eq (id_of scope) None) ≡ false → (code && is_range_of id scope) ≡ false
range_apart code (Id own) id apart = apart
range_apart code (Range first last) id apart = never code (is_range_of id (Range first last)) apart
range_apart code Any id apart = never code false apart

any_apart : (code : Bool) (scope : Scope) → (code && option_eq int_eq (id_of scope) None) ≡ false → (code && is_any scope) ≡ false
any_apart code (Id own) apart = apart
any_apart code (Range first last) apart = never code false apart
any_apart code Any apart = never code true apart

scope_apart : (code : Bool) (own scope : Scope) → (code && option_eq int_eq (id_of own) (id_of scope)) ≡ false → (code && same_scope own scope) ≡ false
scope_apart code (Id own) (Id other) apart = apart
scope_apart code (Id own) (Range from to) apart = apart
scope_apart code (Id own) Any apart = apart
scope_apart code (Range first last) (Id other) apart = apart
scope_apart code (Range first last) (Range from to) apart = never code (same_scope (Range first last) (Range from to)) apart
scope_apart code (Range first last) Any apart = never code false apart
scope_apart code Any (Id other) apart = apart
scope_apart code Any (Range from to) apart = never code false apart
scope_apart code Any Any apart = never code true apart

-- the declarations for an id are in its group
pub not_for_id : (kind : OsType) (id : ℤ) (x : Declared) → same_group (own_group x) (kind.code, Some id) ≡ false → is_for kind (is_id id) (declaration_of x) ≡ false
not_for_id kind id x apart = id_apart (x.kind.code == kind.code) x.scope id apart

-- and those for ranges and for any id in that of the others
pub not_for_range : (kind : OsType) (id : ℤ) (x : Declared) → same_group (own_group x) (kind.code, None) ≡ false → is_for kind (is_range_of id) (declaration_of x) ≡ false
not_for_range kind id x apart = range_apart (x.kind.code == kind.code) x.scope id apart

pub not_for_any : (kind : OsType) (x : Declared) → same_group (own_group x) (kind.code, None) ≡ false → is_for kind is_any (declaration_of x) ≡ false
not_for_any kind x apart = any_apart (x.kind.code == kind.code) x.scope apart

-- the declarations for a scope are in its group
pub not_there : (kind : OsType) (scope : Scope) (x : Declared) → same_group (own_group x) (group_of kind scope) ≡ false → stands_at kind scope (declaration_of x) ≡ false
not_there kind scope x apart = scope_apart (x.kind.code == kind.code) x.scope scope apart

-- What a map has by groups after a value was put at one.

more_if : (b : Bool) (list : List ℕ) (position : ℕ) → (if b then list ++ position ∷ [] else list) ≡ list ++ (if b then position ∷ [] else [])
more_if true list position = refl
more_if false list position = sym (append-nil list)

module _ {A S : Type 0} (before : HashMap (ℕ × Option ℤ) (Vec ℕ A) S) (group : ℕ × Option ℤ) (own : Vec ℕ A) (other : ℕ × Option ℤ) where
  abbrev items_of : Option (Vec ℕ A) → List ℕ
  items_of found = option_map_or (λ (own : Vec ℕ A). own.items) found []

  put_by : (change : List ℕ → List ℕ) → own.items ≡ change (held group before) → (b : Bool) → same_group group other ≡ b
      → items_of (cond b (Some own) (get same_group before other)) ≡ (if b then change (held other before) else held other before)
  put_by change is true same = is ∙ ap (λ (g : ℕ × Option ℤ). change (held g before)) (group_is group other same)
  put_by change is false same = refl

  put_at : (found : Option (Vec ℕ A)) (change : List ℕ → List ℕ) → found ≡ cond (same_group group other) (Some own) (get same_group before other)
      → own.items ≡ change (held group before) → items_of found ≡ (if same_group group other then change (held other before) else held other before)
  put_at found change updates is = ap items_of updates ∙ put_by change is (same_group group other) refl

  -- one position more
  pub held_more : (found : Option (Vec ℕ A)) (position : ℕ) → found ≡ cond (same_group group other) (Some own) (get same_group before other)
      → own.items ≡ held group before ++ position ∷ [] → items_of found ≡ held other before ++ (if same_group group other then position ∷ [] else [])
  held_more found position updates is =
      put_at found (λ (l : List ℕ). l ++ position ∷ []) updates is ∙ more_if (same_group group other) (held other before) position

  -- one position less
  pub held_less : (found : Option (Vec ℕ A)) (index : ℕ) → found ≡ cond (same_group group other) (Some own) (get same_group before other)
      → own.items ≡ remove (held group before) index → items_of found ≡ (if same_group group other then remove (held other before) index else held other before)
  held_less found index updates is = put_at found (λ (l : List ℕ). remove l index) updates is

  -- as many
  pub held_same : (found : Option (Vec ℕ A)) → found ≡ cond (same_group group other) (Some own) (get same_group before other)
      → own.items ≡ held group before → items_of found ≡ held other before
  held_same found updates is = put_at found (λ (l : List ℕ). l) updates is ∙ either (same_group group other)
    where
      either : (b : Bool) → (if b then held other before else held other before) ≡ held other before
      either true = refl
      either false = refl

-- Declarations of one type and scope, and the ids that scopes hold.
use Rattle.std.proofs.Common.{◌≡◌, ℕ, ℤ, Bool, true, false, ◌==◌, ◌&&◌, ◌||◌, if◌then◌else◌, List, [], ◌∷◌, ◌++◌, Option, Some, None, refl, sym, ap, ◌∙◌}
use Rattle.std.specs.List.{list_any}
use Rattle.std.specs.Prelude.{nat_lt}
use Rattle.std.specs.Ordering.{int_eq}
use Rattle.std.proofs.lemmas.Bool.{eq-eqb, eqb-true}
use Rattle.std.proofs.lemmas.Bool.Decides.{Decides-int_eq}
use Rattle.std.proofs.lemmas.List.Folds.{list_any-append}
use Rattle.rz_core.proofs.Tests.{both, and_so}
use Rattle.rz_core.specs.Lists.{or_else}
use Rattle.rz_core.specs.declared.resource.OsType.{OsType}
use Rattle.rz_types_table.specs.Scopes.{breadth, concerns, holds, is_narrower_for, PlacesDiffer}
use Rattle.rz_types_table.specs.Table.{declared_behind, found, has_place, is_any, is_for, is_id, is_range_of, last_such, same_scope, stands_at, without, Declaration}
use Rattle.rz_types_table.specs.declared.table.Scope.{Scope}
use Rattle.rz_types_table.specs.declared.table.Scope.TheVariants.{Any, Id, Range}
use Rattle.rz_types_table.proofs.Found.{last_such-push, last_such-without, last_such_none, none_first, none_so, none_without}

pub same_scope_is : (a b : Scope) → same_scope a b ≡ true → a ≡ b
same_scope_is (Id a) (Id b) same = ap Id ((Decides-int_eq a b).0 same)
same_scope_is (Range a b) (Range c d) same =
    let parts = both (int_eq a c) (int_eq b d) same in
    λ i. Range ((Decides-int_eq a c).0 parts.0 i) ((Decides-int_eq b d).0 parts.1 i)
same_scope_is Any Any same = refl
same_scope_is (Id a) (Range c d) same = cc
same_scope_is (Id a) Any same = cc
same_scope_is (Range a b) (Id c) same = cc
same_scope_is (Range a b) Any same = cc
same_scope_is Any (Id c) same = cc
same_scope_is Any (Range c d) same = cc

pub same_scope_itself : (a : Scope) → same_scope a a ≡ true
same_scope_itself (Id a) = (Decides-int_eq a a).1 refl
same_scope_itself (Range a b) = λ i. (Decides-int_eq a a).1 refl i && (Decides-int_eq b b).1 refl i
same_scope_itself Any = refl

-- what stands at a place is of its type and scope
pub stands_there : (kind : OsType) (scope : Scope) (x : Declaration) → stands_at kind scope x ≡ true → (x.kind.code ≡ kind.code) × (x.scope ≡ scope)
stands_there kind scope x stands =
    let parts = both (x.kind.code == kind.code) (same_scope x.scope scope) stands in (eqb-true x.kind.code kind.code parts.0, same_scope_is x.scope scope parts.1)

pub stands_so : (kind : OsType) (scope : Scope) (x : Declaration) → x.kind.code ≡ kind.code → x.scope ≡ scope → stands_at kind scope x ≡ true
stands_so kind scope x code same =
    λ i. eq-eqb x.kind.code kind.code code i && (ap (λ (s : Scope). same_scope s scope) same ∙ same_scope_itself scope) i

-- Other ids.

-- what stands at the place of a declaration is for the same ids
same_for : (kind : OsType) (test : Scope → Bool) (one x : Declaration) → is_for kind test one ≡ false → stands_at one.kind one.scope x ≡ true → is_for kind test x ≡ false
same_for kind test one x fails stands =
    let there = stands_there one.kind one.scope x stands in
    (λ i. (there.0 i == kind.code) && test (there.1 i)) ∙ fails

module _ (kind : OsType) (test : Scope → Bool) (table : List Declaration) (one : Declaration) where
  -- a declaration that isn't for such ids changes nothing
  pub last_as_before : is_for kind test one ≡ false → last_such (is_for kind test) (declared_behind table one) ≡ last_such (is_for kind test) table
  last_as_before fails =
      last_such-push (is_for kind test) (without (stands_at one.kind one.scope) table) one
      ∙ ap (λ b. if b then Some one else last_such (is_for kind test) (without (stands_at one.kind one.scope) table)) fails
      ∙ last_such-without (is_for kind test) (stands_at one.kind one.scope) (λ x stands. same_for kind test one x fails stands) table

  -- and one that is for them is the last
  pub last_is_it : is_for kind test one ≡ true → last_such (is_for kind test) (declared_behind table one) ≡ Some one
  last_is_it passes =
      last_such-push (is_for kind test) (without (stands_at one.kind one.scope) table) one
      ∙ ap (λ b. if b then Some one else last_such (is_for kind test) (without (stands_at one.kind one.scope) table)) passes

no_part : (k a b c : Bool) → (k && (a || (b || c))) ≡ false → ((k && a) ≡ false) × ((k && b) ≡ false) × ((k && c) ≡ false)
no_part false a b c none = (refl, refl, refl)
no_part true false false false none = (refl, refl, refl)
no_part true true b c none = cc
no_part true false true c none = cc
no_part true false false true none = cc

pub others : (table : List Declaration) (one : Declaration) (kind : OsType) (id : ℤ) → concerns kind id one ≡ false → found kind id (declared_behind table one) ≡ found kind id table
others table one kind id apart =
    let parts = no_part (one.kind.code == kind.code) (is_id id one.scope) (is_range_of id one.scope) (is_any one.scope) apart in
    λ i. or_else (last_as_before kind (is_id id) table one parts.0 i)
    (or_else (last_as_before kind (is_range_of id) table one parts.1 i) (last_as_before kind is_any table one parts.2 i))

-- The declaration that was made last.

head_part : (k a b : Bool) → (k && a) ≡ true → (k && (a || b)) ≡ true
head_part true true b are = refl
head_part true false b are = cc
head_part false a b are = cc

mid_part : (k a b c : Bool) → (k && b) ≡ true → (k && (a || (b || c))) ≡ true
mid_part true true b c are = refl
mid_part true false true c are = refl
mid_part true false false c are = cc
mid_part false a b c are = cc

-- a very id is narrower than what is broader
very_id : (id : ℤ) (scope : Scope) (b : ℕ) → nat_lt 0 b ≡ true → is_id id scope ≡ true → nat_lt (breadth scope) b ≡ true
very_id id (Id own) b broad is = broad
very_id id (Range first last) b broad is = cc
very_id id Any b broad is = cc

some_range : (id : ℤ) (scope : Scope) → is_range_of id scope ≡ true → nat_lt (breadth scope) 2 ≡ true
some_range id (Id own) is = cc
some_range id (Range first last) is = refl
some_range id Any is = cc

module _ (table : List Declaration) (one : Declaration) (id : ℤ) (none : list_any (is_narrower_for one id) table ≡ false) where
  no_id : nat_lt 0 (breadth one.scope) ≡ true → list_any (is_for one.kind (is_id id)) table ≡ false
  no_id broad = none_so (is_for one.kind (is_id id)) (is_narrower_for one id)
      (λ x is.
      let parts = both (x.kind.code == one.kind.code) (is_id id x.scope) is in
      and_so (concerns one.kind id x) (nat_lt (breadth x.scope) (breadth one.scope))
      (head_part (x.kind.code == one.kind.code) (is_id id x.scope) (is_range_of id x.scope || is_any x.scope) is)
      (very_id id x.scope (breadth one.scope) broad parts.1))
      table none

  no_range : breadth one.scope ≡ 2 → list_any (is_for one.kind (is_range_of id)) table ≡ false
  no_range broad = none_so (is_for one.kind (is_range_of id)) (is_narrower_for one id)
      (λ x is.
      let parts = both (x.kind.code == one.kind.code) (is_range_of id x.scope) is in
      and_so (concerns one.kind id x) (nat_lt (breadth x.scope) (breadth one.scope))
      (mid_part (x.kind.code == one.kind.code) (is_id id x.scope) (is_range_of id x.scope) (is_any x.scope) is)
      (ap (λ m. nat_lt (breadth x.scope) m) broad ∙ some_range id x.scope parts.1))
      table none

  -- where none is for such ids
  none_last : (test : Scope → Bool) → test one.scope ≡ false → list_any (is_for one.kind test) table ≡ false → last_such (is_for one.kind test) (declared_behind table one) ≡ None
  none_last test fails empty =
      last_as_before one.kind test table one (ap (λ b. (one.kind.code == one.kind.code) && b) fails ∙ nothing (one.kind.code == one.kind.code))
      ∙ last_such_none (is_for one.kind test) table empty
    where
      nothing : (b : Bool) → (b && false) ≡ false
      nothing true = refl
      nothing false = refl

  it_last : (test : Scope → Bool) → test one.scope ≡ true → last_such (is_for one.kind test) (declared_behind table one) ≡ Some one
  it_last test passes = last_is_it one.kind test table one (and_so (one.kind.code == one.kind.code) (test one.scope) (eq-eqb one.kind.code one.kind.code refl) passes)

  by_scope : (scope : Scope) → one.scope ≡ scope → holds id scope ≡ true → found one.kind id (declared_behind table one) ≡ Some one
  by_scope (Id own) is held =
      ap (λ (o : Option Declaration). or_else o (or_else (last_such (is_for one.kind (is_range_of id)) (declared_behind table one)) (last_such (is_for one.kind is_any) (declared_behind table one))))
      (it_last (is_id id) (ap (is_id id) is ∙ same_or held))
    where
      same_or : {b : Bool} → (b || (false || false)) ≡ true → b ≡ true
      same_or {b = true} are = refl
      same_or {b = false} are = are
  by_scope (Range first last) is held =
      (λ i. or_else (none_last (is_id id) (ap (is_id id) is) (no_id (ap (λ (s : Scope). nat_lt 0 (breadth s)) is)) i)
      (or_else (it_last (is_range_of id) (ap (is_range_of id) is ∙ same_or held) i) (last_such (is_for one.kind is_any) (declared_behind table one))))
    where
      same_or : {b : Bool} → (false || (b || false)) ≡ true → b ≡ true
      same_or {b = true} are = refl
      same_or {b = false} are = are
  by_scope Any is held =
      λ i. or_else (none_last (is_id id) (ap (is_id id) is) (no_id (ap (λ (s : Scope). nat_lt 0 (breadth s)) is)) i)
      (or_else (none_last (is_range_of id) (ap (is_range_of id) is) (no_range (ap breadth is)) i) (it_last is_any (ap is_any is) i))

  pub last_found : holds id one.scope ≡ true → found one.kind id (declared_behind table one) ≡ Some one
  last_found held = by_scope one.scope refl held

-- Places.

-- what stands at a place stands there for every declaration of that place
stands_alike : (one x y : Declaration) → stands_at one.kind one.scope x ≡ true → stands_at one.kind one.scope y ≡ stands_at x.kind x.scope y
stands_alike one x y stands =
    let there = stands_there one.kind one.scope x stands in
    λ i. (y.kind.code == sym there.0 i) && same_scope y.scope (sym there.1 i)

alike_all : (one x : Declaration) (table : List Declaration) → stands_at one.kind one.scope x ≡ true → has_place one.kind one.scope table ≡ has_place x.kind x.scope table
alike_all one x [] stands = refl
alike_all one x (y ∷ table) stands = λ i. stands_alike one x y stands i || alike_all one x table stands i

same_bool : (a b : Bool) → (a ≡ true → b ≡ true) → (b ≡ true → a ≡ true) → a ≡ b
same_bool true b so back = sym (so refl)
same_bool false true so back = back refl
same_bool false false so back = refl

turned : (one x : Declaration) → stands_at x.kind x.scope one ≡ true → stands_at one.kind one.scope x ≡ true
turned one x stands = let there = stands_there x.kind x.scope one stands in stands_so one.kind one.scope x (sym there.0) (sym there.1)

stands_turned : (one x : Declaration) → stands_at x.kind x.scope one ≡ stands_at one.kind one.scope x
stands_turned one x = same_bool (stands_at x.kind x.scope one) (stands_at one.kind one.scope x) (turned one x) (turned x one)

-- of a list in which none stands twice at a place, taking one out leaves none there
left_by : (one x : Declaration) (table : List Declaration) → has_place x.kind x.scope table ≡ false
    → has_place one.kind one.scope (without (stands_at one.kind one.scope) table) ≡ false
    → (b : Bool) → stands_at one.kind one.scope x ≡ b → has_place one.kind one.scope (if b then table else x ∷ without (stands_at one.kind one.scope) table) ≡ false
left_by one x table none left true is = alike_all one x table is ∙ none
left_by one x table none left false is = λ i. is i || left i

none_left : (one : Declaration) (table : List Declaration) → PlacesDiffer table → has_place one.kind one.scope (without (stands_at one.kind one.scope) table) ≡ false
none_left one [] differ = refl
none_left one (x ∷ table) differ = left_by one x table differ.0 (none_left one table differ.1) (stands_at one.kind one.scope x) refl

differ_by : (one x : Declaration) (table : List Declaration) → has_place x.kind x.scope table ≡ false → PlacesDiffer table
    → PlacesDiffer (without (stands_at one.kind one.scope) table)
    → (b : Bool) → PlacesDiffer (if b then table else x ∷ without (stands_at one.kind one.scope) table)
differ_by one x table none differ left true = differ
differ_by one x table none differ left false = (none_without (stands_at x.kind x.scope) (stands_at one.kind one.scope) table none, left)

differ_without : (one : Declaration) (table : List Declaration) → PlacesDiffer table → PlacesDiffer (without (stands_at one.kind one.scope) table)
differ_without one [] differ = tt
differ_without one (x ∷ table) differ = differ_by one x table differ.0 differ.1 (differ_without one table differ.1) (stands_at one.kind one.scope x)

differ_push : (one : Declaration) (table : List Declaration) → PlacesDiffer table → has_place one.kind one.scope table ≡ false → PlacesDiffer (table ++ one ∷ [])
differ_push one [] differ none = (refl, tt)
differ_push one (x ∷ table) differ none =
    let parts = none_first (stands_at one.kind one.scope) x table none in (
      list_any-append (stands_at x.kind x.scope) table (one ∷ [])
          ∙ (λ i. differ.0 i || ((stands_turned one x ∙ parts.0) i || false)),
      differ_push one table differ.1 parts.1,
    )

pub stay_different : (table : List Declaration) (one : Declaration) → PlacesDiffer table → PlacesDiffer (declared_behind table one)
stay_different table one differ =
    differ_push one (without (stands_at one.kind one.scope) table) (differ_without one table differ) (none_left one table differ)

-- The names of an expression are solved to the values that they have.
use Rattle.std.proofs.Common.{◌≡◌, ◌⊎◌, inl, inr, ℤ, Bool, true, false, ◌||◌, [], ◌∷◌, Option, Some, None, refl, sym, ap, ◌∙◌, subst}
use Rattle.std.specs.Prelude.{if◌then◌else◌, option_and_then}
use Rattle.std.specs.List.{list_any}
use Rattle.rz_expr.specs.Environment.{count_key, place_key, Environment, IsPartOf, Key}
use Rattle.rz_expr.specs.Term.{BitsAt, Constant, FactOf, Indexed, Named, OfOne, OfTwo, RowNumber, RowsOf, Term}
use Rattle.rz_unlay_pieces.specs.Pieces.{also, solve_all, solve_key}
use Rattle.rz_types.specs.Readable.{all_known}
use Rattle.rz_types_fields.specs.Solve.{has_key, is_same_key}
use Rattle.rz_types_fields.specs.Passed.{Names}
use Rattle.rz_types_fields.proofs.KeysIn.{has_one, has_two}
use Rattle.rz_types_fields.proofs.SameNames.{key_is, key_itself}
use Rattle.rz_unlay.proofs.Asked.{apart_from_rows, asked_in, of_rows, plain_asked}
use Rattle.rz_unlay.proofs.ReadsTests.{if_false, some_same}
use Rattle.rz_unlay.proofs.Sees.{its_known, rows_kept, Covers, IsKnownOf, KeepsRows}

-- One more name.

pub same_part : (names : Environment) → IsPartOf names names
same_part names = record { give = λ key value is. is }

pub part_of_part : (a b c : Environment) → IsPartOf a b → IsPartOf b c → IsPartOf a c
part_of_part a b c one other = record { give = λ key value is. other.give key value (one.give key value is) }

pub by_key : (test : Bool) (value : ℤ) (other : Option ℤ) (P : ℤ → Type 0) → (test ≡ true → P value) → ((x : ℤ) → other ≡ Some x → P x) → (x : ℤ)
    → (if test then Some value else other) ≡ Some x → P x
by_key true value other P here there x is = subst P (some_same value x is) (here refl)
by_key false value other P here there x is = there x is

pub also_keeps : (key : Key) (value : ℤ) (names : Environment) → names.give key ≡ None → IsPartOf names (also key value names)
also_keeps key value names none = record { give = λ other x is. go other x is (is_same_key key other) refl }
  where
    go : (other : Key) (x : ℤ) → names.give other ≡ Some x → (test : Bool) → is_same_key key other ≡ test → (if test then Some value else names.give other) ≡ Some x
    go other x is true same = let absent = sym (ap names.give (key_is key other same)) ∙ none in absurd (let wrong = sym is ∙ absent in cc)
    go other x is false same = is

pub also_part : (key : Key) (value : ℤ) (names env : Environment) → IsPartOf names env → env.give key ≡ Some value → IsPartOf (also key value names) env
also_part key value names env part is = record {
  give = λ other x found. by_key (is_same_key key other) value (names.give other) (λ x. env.give other ≡ Some x)
      (λ same. sym (ap env.give (key_is key other same)) ∙ is) (λ x there. part.give other x there) x found;
}

pub also_has : (key : Key) (value : ℤ) (names : Environment) → (also key value names).give key ≡ Some value
also_has key value names = ap (λ (test : Bool). if test then Some value else names.give key) (key_itself key)

-- of rows as much is known with one more name that is none of theirs
pub also_rows_kept : (key : Key) (value : ℤ) (names : Environment) → of_rows key ≡ false → KeepsRows names (also key value names)
also_rows_kept key value names plain = record { give = λ other of. if_false (is_same_key key other) (Some value) (names.give other) (apart_from_rows key other plain of) }

pub also_known : (key : Key) (value : ℤ) (names env : Environment) → of_rows key ≡ false → IsKnownOf names env → env.give key ≡ Some value → IsKnownOf (also key value names) env
also_known key value names env plain stands is = rows_kept names (also key value names) env stands (also_rows_kept key value names plain) (also_part key value names env stands.part is)

-- All names of an expression.

or_true : (a b : Bool) → (a || b) ≡ true → (a ≡ true) ⊎ (b ≡ true)
or_true true b is = inl refl
or_true false b is = inr is

-- names with those that are near: as many as before, no fewer where there are more, and a part of the finished names
pub record Widens (env : Environment) (near : Environment → Environment) : Type 0 where
  pub more : (names : Environment) → IsPartOf names (near names)
  pub wider : (names others : Environment) → IsPartOf names others → (key : Key) (value : ℤ) → (near names).give key ≡ Some value → (v : ℤ) × ((near others).give key ≡ Some v)
  pub part : (names : Environment) → IsKnownOf names env → IsKnownOf (near names) env

module _ (known : Names) (env : Environment) (near : Environment → Environment) (solved : Key → Environment → Option ℤ) where
  -- a name that is known, or that has a value and is solved to it by whatever is known
  abbrev pub IsTold : Key → Type 0
  IsTold key =
      (known key ≡ true)
      ⊎ ((value : ℤ) × (env.give key ≡ Some value) × ((names : Environment) → Covers known (near names) → IsKnownOf names env → solved key names ≡ Some value))

module _ (met known : Names) (env : Environment) (near : Environment → Environment) (solved : Key → Environment → Option ℤ) where
  -- so is each name of an expression; those at which bits are asked for are known
  abbrev pub AreTold : Term → Type 0
  AreTold (Constant number) = Unit {0}
  AreTold (Named name) = IsTold known env near solved (place_key name)
  AreTold (Indexed name index) = AreTold index
  AreTold (RowNumber name) = Unit {0}
  AreTold (RowsOf name) = IsTold known env near solved (count_key name)
  AreTold (BitsAt name start width) = all_known met known (BitsAt name start width) ≡ true
  AreTold (FactOf which) = Unit {0}
  AreTold (OfOne op operand) = AreTold operand
  AreTold (OfTwo op left right) = AreTold left × AreTold right

-- what is known then: as before, a part of the finished names, with a value for each of these names
pub record Tells (env : Environment) (near : Environment → Environment) (Has : Key → Type 0) (names : Environment) (found : Option Environment) : Type 0 where
  pub more : Environment
  pub is : found ≡ Some more
  pub kept : IsPartOf names more
  pub part : IsKnownOf more env
  pub has : (key : Key) → Has key → (value : ℤ) × ((near more).give key ≡ Some value)

module _ (known : Names) (env : Environment) (near : Environment → Environment) (widens : Widens env near) (solved : Key → Environment → Option ℤ) where
  less_none : (key : Key) (names : Environment) → (near names).give key ≡ None → names.give key ≡ None
  less_none key names absent = by (names.give key) refl
    where
      by : (o : Option ℤ) → names.give key ≡ o → o ≡ None
      by None so = refl
      by (Some value) so = absurd (let there = (widens.more names).give key value so in let wrong = sym there ∙ absent in cc)

  key_told : (key : Key) (names : Environment) → of_rows key ≡ false → Covers known (near names) → IsKnownOf names env → IsTold known env near solved key
      → Tells env near (λ other. is_same_key other key ≡ true) names (solve_key solved key ((near names).give key) names)
  key_told key names plain covers part told = by ((near names).give key) refl told
    where
      at_key : (more : Environment) (value : ℤ) → (near more).give key ≡ Some value → (other : Key) → is_same_key other key ≡ true → (v : ℤ) × ((near more).give other ≡ Some v)
      at_key more value has other same = (value, ap (near more).give (key_is other key same) ∙ has)

      by : (o : Option ℤ) → (near names).give key ≡ o → IsTold known env near solved key → Tells env near (λ other. is_same_key other key ≡ true) names (solve_key solved key o names)
      by (Some value) is told = record { more = names; is = refl; kept = same_part names; part = part; has = at_key names value is }
      by None is (inl known_key) = let it = covers key (plain_asked key plain) known_key in absurd (let wrong = sym it.1 ∙ is in cc)
      by None is (inr (value, has, solves)) = record {
        more = also key value names;
        is = ap (option_and_then (λ value. Some (also key value names))) (solves names covers part);
        kept = also_keeps key value names (less_none key names is);
        part = also_known key value names env plain part has;
        has = at_key (also key value names) value ((widens.more (also key value names)).give key value (also_has key value names));
      }

  -- one set of names, and another after it
  then_told : (Has Others : Key → Type 0) (names : Environment) (found : Option Environment) (next : Environment → Option Environment)
      → (one : Tells env near Has names found) → Tells env near Others one.more (next one.more) → Tells env near (λ key. Has key ⊎ Others key) names (option_and_then next found)
  then_told Has Others names found next one other = record {
    more = other.more;
    is = ap (option_and_then next) one.is ∙ other.is;
    kept = part_of_part names one.more other.more one.kept other.kept;
    part = other.part;
    has = λ key has. both key has;
  }
    where
      both : (key : Key) → Has key ⊎ Others key → (value : ℤ) × ((near other.more).give key ≡ Some value)
      both key (inl has) = let it = one.has key has in widens.wider one.more other.more other.kept key it.0 it.1
      both key (inr has) = other.has key has

  other_names : (Has Others : Key → Type 0) (names : Environment) (found : Option Environment) → ((key : Key) → Others key → Has key) → Tells env near Has names found → Tells env near Others names found
  other_names Has Others names found leads it = record { more = it.more; is = it.is; kept = it.kept; part = it.part; has = λ key has. it.has key (leads key has) }

module _ (met known : Names) (leads : (key : Key) → met key ≡ true → known key ≡ true) (env : Environment) (near : Environment → Environment) (widens : Widens env near) (solved : Key → Environment → Option ℤ) where
  covers_more : (names more : Environment) → Covers known (near names) → IsPartOf names more → Covers known (near more)
  covers_more names more covers kept key asked is = let it = covers key asked is in widens.wider names more kept key it.0 it.1

  one_told : (own : Key) (names : Environment) → of_rows own ≡ false → Covers known (near names) → IsKnownOf names env → IsTold known env near solved own
      → Tells env near (λ key. list_any (is_same_key key) (own ∷ []) ≡ true) names (solve_key solved own ((near names).give own) names)
  one_told own names plain covers part told =
      other_names known env near widens solved (λ key. is_same_key key own ≡ true) (λ key. list_any (is_same_key key) (own ∷ []) ≡ true) names _ (λ key has. sym (has_one key own) ∙ has)
      (key_told known env near widens solved own names plain covers part told)

  pub all_told : (term : Term) (names : Environment) → Covers known (near names) → IsKnownOf names env → AreTold met known env near solved term
      → Tells env near (λ key. has_key key term ≡ true) names (solve_all near solved term names)
  all_told (Constant number) names covers part told = record { more = names; is = refl; kept = same_part names; part = part; has = λ key has. absurd cc }
  all_told (Named name) names covers part told = one_told (place_key name) names refl covers part told
  all_told (Indexed name index) names covers part told = all_told index names covers part told
  all_told (RowNumber name) names covers part told = record { more = names; is = refl; kept = same_part names; part = part; has = λ key has. absurd cc }
  all_told (RowsOf name) names covers part told = one_told (count_key name) names refl covers part told
  all_told (BitsAt name start width) names covers part told = record {
    more = names;
    is = refl;
    kept = same_part names;
    part = part;
    has = λ key has. covers key (asked_in key (BitsAt name start width) has) (its_known met known leads key (BitsAt name start width) told has);
  }
  all_told (FactOf which) names covers part told = record { more = names; is = refl; kept = same_part names; part = part; has = λ key has. absurd cc }
  all_told (OfOne op operand) names covers part told = all_told operand names covers part told
  all_told (OfTwo op left right) names covers part told =
      let one = all_told left names covers part told.0 in
      let two = all_told right one.more (covers_more names one.more covers one.kept) one.part told.1 in
      other_names known env near widens solved _ _ names _ (λ key has. or_true (has_key key left) (has_key key right) (sym (has_two key op left right) ∙ has))
      (then_told known env near widens solved _ _ names _ (solve_all near solved right) one two)

-- What a pick chooses is of its type, and a pick for one resource chooses one alone.
use Rattle.std.proofs.Common.{◌≡◌, ℕ, ℤ, int_le, ◌==◌, ◌&&◌, ◌||◌, Bool, true, false, not, if◌then◌else◌, IsTrue, is_some, List, [], ◌∷◌, Option, Some, None, refl, sym, ap, subst, ◌∙◌}
use Rattle.std.proofs.lemmas.Bool.{eq-eqb, eqb-true}
use Rattle.std.specs.Int.{cast_unsigned, w16}
use Rattle.std.specs.List.{list_any}
use Rattle.std.specs.Option.{unwrap_or}
use Rattle.std.specs.Str.{bytes_eq}
use Rattle.rz_core.proofs.Tests.{and_so, both}
use Rattle.rz_core.specs.Resources.{id_bits, same_key}
use Rattle.rz_core.specs.declared.resource.OsType.{OsType}
use Rattle.rz_core.specs.declared.resource.Resource.{Resource}
use Rattle.rz_set.specs.After.{under_head}
use Rattle.rz_set.specs.Change.{MayHaveId}
use Rattle.rz_set.specs.Choice.{chooses, found_name, has_name, is_for_one, is_of, is_that, missing}
use Rattle.rz_set.specs.Fates.{IsForOne, StayApart}
use Rattle.rz_set.specs.Wanted.{is_wanted, is_within}
use Rattle.rz_set.specs.declared.pick.Head.{Head}
use Rattle.rz_set.specs.declared.pick.Pick.{Pick}
use Rattle.rz_set.specs.declared.pick.Pick.TheVariants.{All, Id, Range, Name}
use Rattle.rz_set.specs.declared.pick.SetFault.TheVariants.{NoSuchResource}
use Rattle.rz_set.specs.declared.wanted.Ids.{Ids}
use Rattle.rz_set.specs.declared.wanted.Ids.TheVariants as ids
use Rattle.rz_set.specs.declared.wanted.Wanted.{Wanted}
use Rattle.rz_set.proofs.Puts.{same_code, same_id}

-- The type.

pub wanted_kind : (wanted : Wanted) (r : Resource) → is_wanted wanted r ≡ true → (wanted.kind.code == r.kind.code) ≡ true
wanted_kind wanted r is = by wanted.ids is
  where
    by : (given : Ids) → is_within wanted.kind given r ≡ true → is_of wanted.kind r ≡ true
    by ids.All is = is
    by (ids.One id) is = (both (is_of wanted.kind r) (cast_unsigned w16 id == id_bits r) is).0
    by (ids.Range first last) is = (both (is_of wanted.kind r) (int_le first r.id && int_le r.id last) is).0

module _ (kind : OsType) where
  named_kind : (name : List ℕ) (list : List Resource) (one : Resource) → found_name kind name list ≡ Some one → kind.code ≡ one.kind.code
  named_kind name [] one is = cc
  named_kind name (x ∷ xs) one is = by (named_kind name xs one) (has_name kind name x) refl is
    where
      by : (found_name kind name xs ≡ Some one → kind.code ≡ one.kind.code) → (b : Bool) → has_name kind name x ≡ b
          → (if b then Some x else found_name kind name xs) ≡ Some one → kind.code ≡ one.kind.code
      by later true has is =
          let same : x ≡ one = cc in
          eqb-true kind.code x.kind.code (both (is_of kind x) (bytes_eq name x.name) has).0 ∙ ap (λ r. r.kind.code) same
      by later false has is = later is

  that_kind : (name : List ℕ) (list : List Resource) (r : Resource) (o : Option Resource) → found_name kind name list ≡ o → is_that o r ≡ true → kind.code ≡ r.kind.code
  that_kind name list r None found is = cc
  that_kind name list r (Some one) found is = named_kind name list one found ∙ same_code one r is

  chosen_kind : (pick : Pick) (list : List Resource) (r : Resource) → chooses kind pick list r ≡ true → kind.code ≡ r.kind.code
  chosen_kind All list r is = eqb-true kind.code r.kind.code is
  chosen_kind (Id id) list r is = eqb-true kind.code r.kind.code (both (kind.code == r.kind.code) (cast_unsigned w16 id == id_bits r) is).0
  chosen_kind (Range first last) list r is = eqb-true kind.code r.kind.code (both (is_of kind r) (int_le first r.id && int_le r.id last) is).0
  chosen_kind (Name name) list r is = that_kind name list r (found_name kind name list) refl is

-- One alone.

pub keys_meet : (a b : Resource) → a.kind.code ≡ b.kind.code → id_bits a ≡ id_bits b → same_key a b ≡ true
keys_meet a b kinds bits = and_so (a.kind.code == b.kind.code) (id_bits a == id_bits b) (eq-eqb a.kind.code b.kind.code kinds) (eq-eqb (id_bits a) (id_bits b) bits)

one_that : (o : Option Resource) (a b : Resource) → is_that o a ≡ true → is_that o b ≡ true → same_key a b ≡ true
one_that None a b one two = cc
one_that (Some r) a b one two = keys_meet a b (sym (same_code r a one) ∙ same_code r b two) (sym (same_id r a one) ∙ same_id r b two)

one_with : (kind : OsType) (id : ℤ) (list : List Resource) (a b : Resource) → chooses kind (Id id) list a ≡ true → chooses kind (Id id) list b ≡ true → same_key a b ≡ true
one_with kind id list a b one two =
    let first = both (kind.code == a.kind.code) (cast_unsigned w16 id == id_bits a) one in
    let second = both (kind.code == b.kind.code) (cast_unsigned w16 id == id_bits b) two in
    keys_meet a b
    (sym (eqb-true kind.code a.kind.code first.0) ∙ eqb-true kind.code b.kind.code second.0)
    (sym (eqb-true (cast_unsigned w16 id) (id_bits a) first.1) ∙ eqb-true (cast_unsigned w16 id) (id_bits b) second.1)

for_one : (b : Bool) (o : Option ℤ) (id : ℤ) → IsTrue (b || not (is_some o)) → o ≡ Some id → b ≡ true
for_one true o id may is = refl
for_one false o id may is = let none : IsTrue (not (is_some (Some id))) = subst (λ (o : Option ℤ). IsTrue (not (is_some o))) is may in cc

module _ (kind : OsType) (pick : Pick) (head : Head) (list : List Resource) (may : MayHaveId pick head) where
  one_alone : is_for_one pick ≡ true → (a b : Resource) → chooses kind pick list a ≡ true → chooses kind pick list b ≡ true → same_key a b ≡ true
  one_alone = by pick
    where
      by : (p : Pick) → is_for_one p ≡ true → (a b : Resource) → chooses kind p list a ≡ true → chooses kind p list b ≡ true → same_key a b ≡ true
      by All is a b one two = cc
      by (Id id) is a b one two = one_with kind id list a b one two
      by (Range first last) is a b one two = cc
      by (Name name) is a b one two = one_that (found_name kind name list) a b one two

  pub stay_apart : StayApart (chooses kind pick list) head
  stay_apart a b one two same = by head.id refl
    where
      by : (o : Option ℤ) → head.id ≡ o → same_key a b ≡ true
      by None is =
          let bits : (cast_unsigned w16 (unwrap_or head.id a.id) == cast_unsigned w16 (unwrap_or head.id b.id)) ≡ true =
          (both (head.kind.code == head.kind.code) (cast_unsigned w16 (unwrap_or head.id a.id) == cast_unsigned w16 (unwrap_or head.id b.id)) same).1 in
          keys_meet a b
          (sym (chosen_kind kind pick list a one) ∙ chosen_kind kind pick list b two)
          (eqb-true (id_bits a) (id_bits b) (subst (λ (o : Option ℤ). (cast_unsigned w16 (unwrap_or o a.id) == cast_unsigned w16 (unwrap_or o b.id)) ≡ true) is bits))
      by (Some id) is = one_alone (for_one (is_for_one pick) head.id id may is) a b one two

  pub stay_free : (a b : Resource) → chooses kind pick list a ≡ true → chooses kind pick list b ≡ true → same_key (under_head head a) b ≡ true → same_key a b ≡ true
  stay_free a b one two same = by head.id refl
    where
      by : (o : Option ℤ) → head.id ≡ o → same_key a b ≡ true
      by None is =
          let bits : (cast_unsigned w16 (unwrap_or head.id a.id) == id_bits b) ≡ true =
          (both (head.kind.code == b.kind.code) (cast_unsigned w16 (unwrap_or head.id a.id) == id_bits b) same).1 in
          keys_meet a b
          (sym (chosen_kind kind pick list a one) ∙ chosen_kind kind pick list b two)
          (eqb-true (id_bits a) (id_bits b) (subst (λ (o : Option ℤ). (cast_unsigned w16 (unwrap_or o a.id) == id_bits b) ≡ true) is bits))
      by (Some id) is = one_alone (for_one (is_for_one pick) head.id id may is) a b one two

  there : (b any : Bool) → b ≡ true → (if b && not any then Some (NoSuchResource kind) else None) ≡ None → any ≡ true
  there true true one none = refl
  there true false one none = cc
  there false any one none = cc

  pub is_for_one_there : missing kind pick list ≡ None → IsForOne (chooses kind pick list) list head.id
  is_for_one_there none = by head.id refl
    where
      by : (o : Option ℤ) → head.id ≡ o → IsForOne (chooses kind pick list) list o
      by None is = tt
      by (Some id) is = there (is_for_one pick) (list_any (chooses kind pick list) list) (for_one (is_for_one pick) head.id id may is) none

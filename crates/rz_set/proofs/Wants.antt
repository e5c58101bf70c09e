-- What a pick is for, from the resource that it finds by id or name.
use Rattle.std.proofs.Common.{◌≡◌, ℤ, true, List, Option, Some, None, refl, sym, ap, ◌∙◌}
use Rattle.std.specs.Option.{option_map}
use Rattle.rz_core.specs.declared.resource.OsType.{OsType}
use Rattle.rz_core.specs.declared.resource.Resource.{Resource}
use Rattle.rz_set.specs.Choice.{chooses, is_for_one, is_that, key_pair, missing, picked}
use Rattle.rz_set.specs.Wanted.{is_wanted}
use Rattle.rz_set.specs.declared.pick.Pick.{Pick}
use Rattle.rz_set.specs.declared.pick.Pick.TheVariants.{All, Id, Range, Name}
use Rattle.rz_set.specs.declared.pick.SetFault.TheVariants.{NoSuchResource}
use Rattle.rz_set.specs.declared.wanted.Ids.TheVariants.{One}
use Rattle.rz_set.proofs.Choices.{missing_id, missing_name, there_id, there_name}
use Rattle.rz_set.proofs.Finds.{id_chooses}

module _ (kind : OsType) (list : List Resource) where
  one_chooses : (pick : Pick) (one : Resource) → Some one ≡ picked kind pick list → is_that (Some one) ≡ chooses kind pick list
  one_chooses All one is = absurd cc
  one_chooses (Id id) one is = id_chooses kind id list one (sym is)
  one_chooses (Range first last) one is = absurd cc
  one_chooses (Name name) one is = ap is_that is

  -- the one that is found, by its type and id, is the one that is chosen
  pub pair_wanted : (pick : Pick) (pair : OsType × ℤ) → option_map key_pair (picked kind pick list) ≡ Some pair
      → is_wanted (record { kind = pair.0; ids = One pair.1 }) ≡ chooses kind pick list
  pair_wanted pick pair = by (picked kind pick list) refl
    where
      by : (o : Option Resource) → picked kind pick list ≡ o → option_map key_pair o ≡ Some pair
          → is_wanted (record { kind = pair.0; ids = One pair.1 }) ≡ chooses kind pick list
      by None is pairs = cc
      by (Some one) is pairs =
          let same : key_pair one ≡ pair = cc in
          ap (λ (p : OsType × ℤ). is_wanted (record { kind = p.0; ids = One p.1 })) (sym same) ∙ one_chooses pick one (sym is)

  one_there : (pick : Pick) (one : Resource) → Some one ≡ picked kind pick list → missing kind pick list ≡ None
  one_there All one is = absurd cc
  one_there (Id id) one is = there_id kind id list one (sym is)
  one_there (Range first last) one is = absurd cc
  one_there (Name name) one is = there_name kind name list one (sym is)

  pub pair_there : (pick : Pick) (pair : OsType × ℤ) → option_map key_pair (picked kind pick list) ≡ Some pair → missing kind pick list ≡ None
  pair_there pick pair = by (picked kind pick list) refl
    where
      by : (o : Option Resource) → picked kind pick list ≡ o → option_map key_pair o ≡ Some pair → missing kind pick list ≡ None
      by None is pairs = cc
      by (Some one) is pairs = one_there pick one (sym is)

  none_there : (pick : Pick) → is_for_one pick ≡ true → None ≡ picked kind pick list → missing kind pick list ≡ Some (NoSuchResource kind)
  none_there All one is = absurd cc
  none_there (Id id) one is = missing_id kind id list (sym is)
  none_there (Range first last) one is = absurd cc
  none_there (Name name) one is = missing_name kind name list (sym is)

  pub no_pair_there : (pick : Pick) → is_for_one pick ≡ true → option_map key_pair (picked kind pick list) ≡ None
      → missing kind pick list ≡ Some (NoSuchResource kind)
  no_pair_there pick one = by (picked kind pick list) refl
    where
      by : (o : Option Resource) → picked kind pick list ≡ o → option_map key_pair o ≡ None → missing kind pick list ≡ Some (NoSuchResource kind)
      by None is pairs = none_there pick one (sym is)
      by (Some one) is pairs = cc

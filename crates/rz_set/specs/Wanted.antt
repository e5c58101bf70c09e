-- How the code holds a pick: by the types and ids that it is for.
use Rattle.std.specs.Prelude.{int_le, ◌&&◌, Bool, true, not}
use Rattle.rz_core.specs.declared.resource.OsType.{OsType}
use Rattle.rz_core.specs.declared.resource.Resource.{Resource}
use Rattle.rz_set.specs.Choice.{is_of}
use Rattle.rz_set.specs.ResSet.{has_key}
use Rattle.rz_set.specs.declared.wanted.Ids.{Ids}
use Rattle.rz_set.specs.declared.wanted.Ids.TheVariants.{All, One, Range}
use Rattle.rz_set.specs.declared.wanted.Included.{Included}
use Rattle.rz_set.specs.declared.wanted.Included.TheVariants as everything
use Rattle.rz_set.specs.declared.wanted.Wanted.{Wanted}

-- a resource of this type has one of these ids
abbrev pub is_within : OsType → Ids → Resource → Bool
is_within kind All r = is_of kind r
is_within kind (One id) r = has_key kind id r
is_within kind (Range first last) r = is_of kind r && (int_le first r.id && int_le r.id last)

abbrev pub is_wanted : Wanted → Resource → Bool
is_wanted wanted r = is_within wanted.kind wanted.ids r

-- What is included: all, those of other types, or what is wanted.
abbrev pub is_included : Included → Resource → Bool
is_included everything.All r = true
is_included (everything.Except kind) r = not (is_of kind r)
is_included (everything.These wanted) r = is_wanted wanted r

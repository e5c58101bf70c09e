-- What the calls of a set leave of its list of resources, or why they are refused. (MPW Rez.)
use Rattle.std.specs.Prelude.{◌≡◌, ◌<◌, Bool, not, if◌then◌else◌, List, [], ◌∷◌, filter, length, map, Option, Some, None, Ok, Err}
use Rattle.std.specs.List.{flat_map}
use Rattle.std.specs.Option.{unwrap_or}
use Rattle.std.specs.declared.result.Result.{Result}
use Rattle.rz_core.specs.Lists.{or_else, unless_fault}
use Rattle.rz_core.specs.Resources.{is_protected, put, put_all}
use Rattle.rz_core.specs.declared.resource.OsType.{OsType}
use Rattle.rz_core.specs.declared.resource.Resource.{Resource}
use Rattle.rz_core.specs.declared.stop.Stop.{Stop}
use Rattle.rz_core.specs.declared.stop.Stop.TheVariants.{Refused, NoMemory}
use Rattle.rz_set.specs.Choice.{chooses, chosen, included, missing, missing_choice}
use Rattle.rz_set.specs.ResSet.{found}
use Rattle.rz_set.specs.declared.pick.Choice.{Choice}
use Rattle.rz_set.specs.declared.pick.Head.{Head}
use Rattle.rz_set.specs.declared.pick.Pick.{Pick}
use Rattle.rz_set.specs.declared.pick.SetFault.{SetFault}
use Rattle.rz_set.specs.declared.pick.SetFault.TheVariants.{Protected}

-- the call left this list, or it refused and left the list as it was; where memory was refused it left the list too
abbrev pub Leaves : List Resource → Result (List Resource) SetFault → Result (Unit {0}) (Stop SetFault) → List Resource → Type 0
Leaves old answer (Ok nothing) new = answer ≡ Ok new
Leaves old answer (Err (Refused fault)) new = (answer ≡ Err fault) × (new ≡ old)
Leaves old answer (Err NoMemory) new = new ≡ old

-- Protected resources.

-- the first of these that is protected
abbrev pub first_protected : List Resource → Option SetFault
first_protected [] = None
first_protected (r ∷ rs) = if is_protected r then Some (Protected r.kind r.id) else first_protected rs

-- the same, unless protected resources may be touched too
abbrev pub forbidden : Bool → List Resource → Option SetFault
forbidden over touched = if over then None else first_protected touched

-- Putting one resource.

-- the one, if it is there
abbrev pub as_list : Option Resource → List Resource
as_list None = []
as_list (Some r) = r ∷ []

-- the resource whose place another one takes, if there is one
abbrev pub replaced : List Resource → Resource → List Resource
replaced list r = as_list (found r.kind r.id list)

-- a resource is put in the place of the one with its type and id, or at the end
abbrev pub after_put : Bool → Resource → List Resource → Result (List Resource) SetFault
after_put over r list = unless_fault (forbidden over (replaced list r)) (put list r)

-- several are put in order, if none of them replaces a protected one of the list
abbrev pub after_put_each : Bool → List Resource → List Resource → Result (List Resource) SetFault
after_put_each over news list = unless_fault (forbidden over (flat_map (replaced list) news)) (put_all list news)

-- Taking out.

-- the chosen ones are taken out
abbrev pub after_remove : OsType → Pick → Bool → List Resource → Result (List Resource) SetFault
after_remove kind pick over list =
    unless_fault (or_else (missing kind pick list) (forbidden over (chosen kind pick list)))
    (filter (λ r. not (chooses kind pick list r)) list)

-- Including.

-- a resource with the type, id, name and attributes of a head, as far as the head has them
abbrev pub under_head : Head → Resource → Resource
under_head head r = record r {
  kind = head.kind;
  id = unwrap_or head.id r.id;
  name = unwrap_or head.name r.name;
  attr = unwrap_or head.attr r.attr;
}

-- the same, if there is a head
abbrev pub under : Option Head → Resource → Resource
under None r = r
under (Some head) r = under_head head r

-- its name, if it has one, has at most 255 bytes
abbrev pub HasShortName : Option Head → Type 0
HasShortName None = Unit {0}
HasShortName (Some head) = length (unwrap_or head.name []) < 256

-- the resources that are put, in order
abbrev pub to_put : Choice → Option Head → List Resource → List Resource
to_put choice head source = map (under head) (included choice source)

-- the chosen resources of another list are put under a head, in order
abbrev pub after_include : List Resource → Choice → Option Head → Bool → List Resource → Result (List Resource) SetFault
after_include source choice head over list =
    let news = to_put choice head source in
    unless_fault (or_else (missing_choice choice source) (forbidden over (flat_map (replaced list) news)))
    (put_all list news)

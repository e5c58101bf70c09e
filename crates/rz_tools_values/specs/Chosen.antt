-- The one resource that an id or a name is for. (MPW Rez.)
use Rattle.std.specs.Prelude.{ℤ, List, Option, Some, None, Ok, Err}
use Rattle.std.specs.declared.result.Result.{Result}
use Rattle.rz_core.specs.Stop.{◌>>=◌}
use Rattle.rz_core.specs.declared.facts.Facts.{Facts}
use Rattle.rz_core.specs.declared.fault.Fault.{Fault}
use Rattle.rz_core.specs.declared.fault.Kept.{Kept}
use Rattle.rz_core.specs.declared.fault.Mark.{Mark}
use Rattle.rz_core.specs.declared.resource.OsType.{OsType}
use Rattle.rz_core.specs.declared.resource.Resource.{Resource}
use Rattle.rz_expr.specs.Term.{Term}
use Rattle.rz_types_fields.specs.Value.{number_of}
use Rattle.rz_set.specs.Choice.{found_name}
use Rattle.rz_set.specs.ResSet.{found}
use Rattle.rz_set.specs.declared.pick.Pick.{Pick}
use Rattle.rz_set.specs.declared.pick.Pick.TheVariants.{Id, Name}
use Rattle.rz_tools_values.specs.Head.{id_of}
use Rattle.rz_core.specs.declared.fault.Kept.TheVariants as kept

-- an id of a pick: 211 and 215, and 204 outside -32768 to 32767
abbrev pub id_said : Mark → Facts → Term → Result ℤ Fault
id_said mark known term = number_of mark known term >>= id_of mark

-- what a pick looks for, as a fault keeps it: the type and the id, or the name
abbrev pub sought_by : OsType → Pick → Kept
sought_by kind (Id id) = kept.Key kind id
sought_by kind (Name name) = kept.Name name
sought_by kind other = kept.Nothing

-- 218
abbrev pub no_resource : Mark → OsType → Pick → Fault
no_resource mark kind pick = record { number = 218; mark = Some mark; kept = sought_by kind pick }

-- the one resource that is looked for: 218 where there is none
abbrev pub the_one : Mark → OsType → Pick → Option Resource → Result (Option Resource) Fault
the_one mark kind pick None = Err (no_resource mark kind pick)
the_one mark kind pick (Some r) = Ok (Some r)

-- the resource of a list that a pick by id or name is for; other picks are for no one resource
abbrev pub chosen_one : Mark → OsType → Pick → List Resource → Result (Option Resource) Fault
chosen_one mark kind (Id id) list = the_one mark kind (Id id) (found kind id list)
chosen_one mark kind (Name name) list = the_one mark kind (Name name) (found_name kind name list)
chosen_one mark kind other list = Ok None

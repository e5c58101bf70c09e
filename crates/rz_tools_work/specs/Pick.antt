-- Which resources a statement is for, and what the chosen one becomes: the values of picks and heads, from left to right,
-- or the first fault. (MPW Rez.)
use Rattle.std.specs.Prelude.{ℕ, List, [], ◌∷◌, Option, Some, None, Ok}
use Rattle.std.specs.declared.result.Result.{Result}
use Rattle.rz_core.specs.Stop.{◌>>=◌}
use Rattle.rz_core.specs.declared.facts.Facts.{Facts}
use Rattle.rz_core.specs.declared.fault.Fault.{Fault}
use Rattle.rz_core.specs.declared.fault.Mark.{Mark}
use Rattle.rz_core.specs.declared.resource.OsType.{OsType}
use Rattle.rz_core.specs.declared.resource.Resource.{Resource}
use Rattle.rz_stmt_data.specs.Head.{Attribute, Head}
use Rattle.rz_expr.specs.Term.{Term}
use Rattle.rz_types_fields.specs.Text.{bytes_of, PlainPart}
use Rattle.rz_set.specs.declared.pick.Pick.{Pick}
use Rattle.rz_set.specs.declared.pick.Pick.TheVariants.{All, Id, Range, Name}
use Rattle.rz_tools_values.specs.Head.{bits_behind_all, name_of}
use Rattle.rz_tools_values.specs.declared.setting.Setting.{Setting}
use Rattle.rz_stmt_lists.specs.Pick as said
use Rattle.rz_set.specs.declared.pick.Head as set
use Rattle.rz_tools_values.specs.Chosen.{id_said}

-- Picks.

-- the first id and then the last
abbrev pub range_said : Mark → Facts → Term → Term → Result Pick Fault
range_said mark known first last = id_said mark known first >>= λ first. id_said mark known last >>= λ last. Ok (Range first last)

-- the values of a pick
abbrev pub picked : Mark → Facts → said.Pick → Result Pick Fault
picked mark known said.All = Ok All
picked mark known (said.Id id) = id_said mark known id >>= λ id. Ok (Id id)
picked mark known (said.Range first last) = range_said mark known first last
picked mark known (said.Name parts) = bytes_of mark known parts >>= λ name. Ok (Name name)

-- Heads of chosen resources.

-- what is known of the chosen resource while its new head is computed
abbrev pub chosen_facts : Setting → Resource → Facts
chosen_facts setting r = record { kind = r.kind; id = r.id; name = r.name; attr = r.attr; moment = setting.moment }

-- a name or attributes that are left out stay as they are
abbrev pub new_name : Mark → Facts → Option (List PlainPart) → Result (Option (List ℕ)) Fault
new_name mark known None = Ok None
new_name mark known (Some parts) = name_of mark known (Some parts) >>= λ name. Ok (Some name)

-- attributes that are given begin from 0
abbrev pub new_attributes : Mark → Facts → List Attribute → Result (Option ℕ) Fault
new_attributes mark known [] = Ok None
new_attributes mark known (attribute ∷ attributes) = bits_behind_all mark known 0 (attribute ∷ attributes) >>= λ byte. Ok (Some byte)

-- the values of a head for the one chosen resource
abbrev pub head_said : Mark → Facts → OsType → Head → Result set.Head Fault
head_said mark known kind head =
    id_said mark known head.id >>= λ id. new_name mark known head.name >>= λ name. new_attributes mark known head.attributes
    >>= λ attr. Ok (record { kind = kind; id = Some id; name = name; attr = attr })

-- of a new type, and all else as it is
abbrev pub as_type : OsType → set.Head
as_type kind = record { kind = kind; id = None; name = None; attr = None }

-- what the chosen resources become: of a new type, and where one is chosen and a head is there, as that says
abbrev pub new_head : Setting → Mark → OsType → Option Resource → Option Head → Result set.Head Fault
new_head setting mark kind None head = Ok (as_type kind)
new_head setting mark kind (Some r) None = Ok (as_type kind)
new_head setting mark kind (Some r) (Some head) = head_said mark (chosen_facts setting r) kind head

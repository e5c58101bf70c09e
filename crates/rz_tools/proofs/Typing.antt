-- What the type files mean, after the types that the file of templates declares.
use Rattle.std.proofs.Common.{inl, inr, List, [], Ok}
use Rattle.rz_core.proofs.Once.{ok_or_err}
use Rattle.rz_core.specs.declared.moment.Moment.{Moment}
use Rattle.rz_folder.specs.Folder.{Files}
use Rattle.rz_tools.specs.Sources.{AreCompiled, Compiled}
use Rattle.rz_tools.specs.Types.{types_around, TypesAre, TypesAsked}
use Rattle.rz_tools_output.specs.Templates.{TypesOf}
use Rattle.rz_tools_work.specs.Work.{begun}
use Rattle.rz_types_table.specs.Table.{Declaration}

-- they are compiled after these types
pub record AreBehind (moment : Moment) (asked : TypesAsked) (files : Files) (made : Compiled) : Type 0 where
  pub types : List Declaration
  pub declared : TypesOf asked.tmpl files (Ok types)
  pub compiled : AreCompiled (types_around moment asked files) (begun types []) asked.files asked.paths asked.defs (Ok made)

pub types_behind : (moment : Moment) (asked : TypesAsked) (files : Files) (made : Compiled) → TypesAre moment asked files (Ok made) → AreBehind moment asked files made
types_behind moment asked files made (inl (program, goes, inl (types, declared, work))) = record { types = types; declared = declared; compiled = inl (program, goes, work) }
types_behind moment asked files made (inl (program, goes, inr (failing, stopped, is))) = absurd (ok_or_err made failing is)
types_behind moment asked files made (inr (failing, stopped, is)) = absurd (ok_or_err made failing is)

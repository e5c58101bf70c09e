-- What the statements so far have made, and what each does to it. (MPW Rez.)
use Rattle.std.specs.Prelude.{◌&&◌, not, if◌then◌else◌, List, [], ◌∷◌, ◌++◌, Ok, Err}
use Rattle.std.specs.declared.result.Result.{Result}
use Rattle.rz_core.specs.Stop.{◌>>=◌}
use Rattle.rz_core.specs.declared.fault.Fault.{Fault}
use Rattle.rz_core.specs.declared.fault.Mark.{Mark}
use Rattle.rz_core.specs.declared.resource.OsType.{OsType}
use Rattle.rz_core.specs.declared.resource.Resource.{Resource}
use Rattle.rz_types.specs.Field.{PlainBody}
use Rattle.rz_types_table.specs.Table.{declared_behind, has_place, Declaration}
use Rattle.rz_types_table.specs.declared.table.Scope.{Scope}
use Rattle.rz_tools_work.specs.Declare.{redeclared, scope_of, template_of}
use Rattle.rz_tools_values.specs.declared.setting.Setting.{Setting}
use Rattle.rz_stmt_type.specs.Constants as declare

-- What was made so far: the declarations of types, the resources, and what is to be warned of.
pub record Work : Type 0 where
  pub types : List Declaration
  pub list : List Resource
  pub warnings : List Fault

-- before the first statement there are types and resources to begin with, and nothing else
abbrev pub begun : List Declaration → List Resource → Work
begun types list = record { types = types; list = list; warnings = [] }

-- with a resource list
abbrev pub with_list : Work → Result (List Resource) Fault → Result Work Fault
with_list work (Ok list) = Ok (record work { list = list })
with_list work (Err fault) = Err fault

-- the warnings after a declaration on this line: it is warned of where one of the type and scope is there, unless
-- types may be declared again
abbrev pub warned : Setting → Mark → Work → OsType → Scope → List Fault
warned setting mark work kind scope =
    if has_place kind scope work.types && not setting.redeclare then work.warnings ++ redeclared mark kind scope ∷ [] else work.warnings

-- with a declaration
abbrev pub with_type : Setting → Mark → Work → OsType → Scope → PlainBody → Work
with_type setting mark work kind scope template = record {
  types = declared_behind work.types (record { kind = kind; scope = scope; template = template });
  list = work.list;
  warnings = warned setting mark work kind scope;
}

abbrev pub declared : Setting → Mark → Work → declare.Declare → Result Work Fault
declared setting mark work one =
    scope_of mark one.bounds >>= (λ scope. template_of mark work.types one.made >>= (λ template. Ok (with_type setting mark work (record { code = one.kind }) scope template)))

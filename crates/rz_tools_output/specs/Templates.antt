-- The types that the 'TMPL' resources of a file declare. (ResEdit Reference, 'TMPL' resources.)
use Rattle.std.specs.Prelude.{◌≡◌, ℕ, pos, ◌^◌, ◌==◌, ◌&&◌, nat_lt, true, if◌then◌else◌, List, [], ◌∷◌, length, Option, Some, None, Ok, Err}
use Rattle.std.specs.FinMap as finite
use Rattle.std.specs.List.{AllByRecursion}
use Rattle.std.specs.declared.result.Result.{Result}
use Rattle.rz_core.specs.Answers.{Then}
use Rattle.rz_core.specs.Resources.{kind_of}
use Rattle.rz_core.specs.declared.fault.Fault.{Fault}
use Rattle.rz_core.specs.declared.fault.Kept.TheVariants.{Pair}
use Rattle.rz_core.specs.declared.resource.OsType.{OsType}
use Rattle.rz_core.specs.declared.resource.Resource.{Resource}
use Rattle.rz_bridge_files.specs.Contents.{fork_in}
use Rattle.rz_folder.specs.Folder.{Files}
use Rattle.rz_folder.specs.Names.{missing_file}
use Rattle.rz_fork.specs.Contents.{Fork}
use Rattle.rz_tmpl.specs.Template.{HasBody}
use Rattle.rz_tmpl.specs.declared.fault.TmplFault.{TmplFault}
use Rattle.rz_types.specs.Rules.{keeps_rules}
use Rattle.rz_types_fields.specs.Field.{PlainBody}
use Rattle.rz_types_fields.specs.Shape.{is_well_shaped}
use Rattle.rz_types_table.specs.Table.{declared_behind, Declaration}
use Rattle.rz_types_table.specs.declared.table.Scope.TheVariants.{Any}

-- Resources.

-- the type of templates, `TMPL`
abbrev pub template_code : ℕ
template_code = 1414352972

-- the type that a resource declares: that of its name, if it is a template and the name has four bytes; no file holds
-- 2^64 bytes
abbrev pub declares : Resource → Option OsType
declares r = if (r.kind.code == template_code) && nat_lt (length r.bytes) (2 ^ 64) then kind_of r.name else None

-- the fault of an entry, with the id of its resource
abbrev pub entry_fault : Resource → TmplFault → Fault
entry_fault r fault = record { number = fault.number; mark = None; kept = Pair r.id (pos fault.offset) }

-- the declarations after these fields of a type, which are for any id; a template with an entry of an unknown code
-- (452) declares nothing, and any other fault is told
abbrev pub declared_with : List Declaration → Resource → OsType → Result PlainBody TmplFault → Result (List Declaration) Fault
declared_with types r kind (Ok body) = Ok (declared_behind types (record { kind = kind; scope = Any; template = body }))
declared_with types r kind (Err fault) = if fault.number == 452 then Ok types else Err (entry_fault r fault)

-- those after a resource that declares this type, or none
abbrev pub IsDeclared : List Declaration → Resource → Option OsType → Result (List Declaration) Fault → Type 0
IsDeclared types r None answer = answer ≡ Ok types
IsDeclared types r (Some kind) answer = (body : Result PlainBody TmplFault) × HasBody r.bytes body × (answer ≡ declared_with types r kind body)

-- those after all resources of a list, in order, or the first fault
abbrev pub AreDeclared : List Declaration → List Resource → Result (List Declaration) Fault → Type 0
AreDeclared types [] answer = answer ≡ Ok types
AreDeclared types (r ∷ list) answer = Then (IsDeclared types r (declares r)) (λ next. AreDeclared next list) answer

-- Files.

-- the types that the resources of a fork declare, or the fault of its file
abbrev pub TypesIn : Result Fork Fault → Result (List Declaration) Fault → Type 0
TypesIn (Ok fork) answer = AreDeclared [] fork.list answer
TypesIn (Err fault) answer = answer ≡ Err fault

-- those of the file that its name holds, in the form that it has; 101 where there is none
abbrev pub TypesAt : List ℕ → Option (List ℕ) → Result (List Declaration) Fault → Type 0
TypesAt name None answer = answer ≡ Err (missing_file None name)
TypesAt name (Some bytes) answer = TypesIn (fork_in None None bytes) answer

-- those of the file that is named, if one is
abbrev pub TypesOf : Option (List ℕ) → Files → Result (List Declaration) Fault → Type 0
TypesOf None files answer = answer ≡ Ok []
TypesOf (Some name) files answer = TypesAt name (finite.get files name) answer

-- What is declared.

-- fields that are well shaped and keep the rules
pub record IsTemplate (body : PlainBody) : Type 0 where
  pub shaped : is_well_shaped body ≡ true
  pub kept : keeps_rules body ≡ true

-- so are those of each declaration
abbrev pub AreTemplates : List Declaration → Type 0
AreTemplates types = AllByRecursion (λ one. IsTemplate one.template) types

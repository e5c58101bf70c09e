-- What the resources of a fork declare, one after another.
use Rattle.std.proofs.Common.{◌≡◌, Bool, true, false, if◌then◌else◌, List, [], Option, Some, Ok, Err, sym, ap, subst, ◌∙◌}
use Rattle.std.specs.Prelude.{◌==◌}
use Rattle.std.specs.declared.result.Result.{Result}
use Rattle.rz_core.proofs.Once.{err}
use Rattle.rz_core.specs.declared.fault.Fault.{Fault}
use Rattle.rz_core.specs.declared.resource.OsType.{OsType}
use Rattle.rz_core.specs.declared.resource.Resource.{Resource}
use Rattle.rz_tmpl.specs.Template.{HasBody}
use Rattle.rz_tmpl.specs.declared.fault.TmplFault.{TmplFault}
use Rattle.rz_types_fields.specs.Field.{PlainBody}
use Rattle.rz_types_table.specs.Table.{Declaration}
use Rattle.rz_tools_output.specs.Templates.{declared_with, declares, entry_fault, AreDeclared, IsDeclared}

-- what the resources that are left declare after these declarations, all of the list declare
abbrev pub GoesOn : List Declaration → List Resource → List Resource → Type 0
GoesOn types left all = (answer : Result (List Declaration) Fault) → AreDeclared types left answer → AreDeclared [] all answer

-- One resource.

module _ (types : List Declaration) (r : Resource) (kind : OsType) (declared : declares r ≡ Some kind) where
  pub declared_so : (body : Result PlainBody TmplFault) (answer : Result (List Declaration) Fault) → HasBody r.bytes body → answer ≡ declared_with types r kind body
      → IsDeclared types r (declares r) answer
  declared_so body answer has is = subst (λ (o : Option OsType). IsDeclared types r o answer) (sym declared) (body, has, is)

  module _ (fault : TmplFault) (has : HasBody r.bytes (Err fault)) where
    by_number : (unknown : Bool) → (fault.number == 452) ≡ unknown → declared_with types r kind (Err fault) ≡ (if unknown then Ok types else Err (entry_fault r fault))
    by_number unknown is = ap (λ (t : Bool). if t then Ok types else Err (entry_fault r fault)) is

    pub passed_over : (fault.number == 452) ≡ true → IsDeclared types r (declares r) (Ok types)
    passed_over is = declared_so (Err fault) (Ok types) has (sym (by_number true is))

    pub told : (fault.number == 452) ≡ false → (one : Fault) → one ≡ entry_fault r fault → IsDeclared types r (declares r) (Err one)
    told is one same = declared_so (Err fault) (Err one) has (ap err same ∙ sym (by_number false is))

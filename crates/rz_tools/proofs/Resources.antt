-- The list after a `resource` statement.
use Rattle.std.proofs.Common.{◌≡◌, inl, inr, Bool, List, Result, Ok, Err, refl, sym, ap, subst, ◌∙◌}
use Rattle.std.specs.Prelude.{IfErr, IfOk}
use Rattle.rz_core.specs.Answers.{Then}
use Rattle.rz_core.proofs.Once.{once_is, once_then, Once}
use Rattle.rz_core.specs.Stop.{◌>>=◌, left, Yields}
use Rattle.rz_core.specs.declared.facts.Facts.{Facts}
use Rattle.rz_core.specs.declared.fault.Fault.{Fault}
use Rattle.rz_core.specs.declared.fault.Mark.{Mark}
use Rattle.rz_core.specs.declared.resource.Resource.{Resource}
use Rattle.rz_stmt_items.specs.Compile.{Compile}
use Rattle.rz_stmt_items.specs.Item.{PlainItem}
use Rattle.rz_layout.specs.Compiled.{IsCompiled}
use Rattle.rz_stmt_items.specs.Match.{IsMatch}
use Rattle.rz_core.specs.declared.stop.Halt.{Halt}
use Rattle.rz_tools_resource.specs.Resource.{IsResource}
use Rattle.rz_tools_values.specs.Around.{Around}
use Rattle.rz_tools_work.specs.Put.{list_with}
use Rattle.rz_tools.specs.Step.{IsListBehind}
use Rattle.rz_types_fields.specs.declared.tree.Tree.{Tree}
use Rattle.rz_types.specs.Field.{PlainBody}
use Rattle.rz_types_table.specs.Table.{Declaration}
use Rattle.rz_tools_resource.proofs.OneResource.{once_resource}
use Rattle.rz_core.specs.declared.stop.Halt.TheVariants.{NoMemory, ReadFault, Refused}

-- What is put, of what a call made.

module _ (mark : Mark) (over : Bool) (list : List Resource) (answers : Result Resource Fault → Type 0) where
  abbrev IsPut : Result (List Resource) Fault → Type 0
  IsPut = Then answers (λ resource answer. answer ≡ list_with mark over list resource)

  pub put_of : (made : Result Resource (Halt Fault)) (result : Result (Unit {0}) (Halt Fault)) (after : List Resource) → Yields made answers
      → IfOk made (λ resource. Yields (left after result) (λ answer. answer ≡ list_with mark over list resource))
      → IfErr made (λ halt. result ≡ Err halt) → Yields (left after result) IsPut
  put_of (Ok resource) (Ok nothing) after is done stops = inl (resource, is, done)
  put_of (Ok resource) (Err (Refused fault)) after is done stops = inl (resource, is, done)
  put_of (Ok resource) (Err ReadFault) after is done stops = tt
  put_of (Ok resource) (Err NoMemory) after is done stops = tt
  put_of (Err halt) result after is done stops = subst (λ (r : Result (Unit {0}) (Halt Fault)). Yields (left after r) IsPut) (sym stops) (by halt is)
    where
      by : (halt : Halt Fault) → Yields {X = Resource} (Err halt) answers → Yields (left after (Err halt)) IsPut
      by (Refused fault) is = inr (fault, is, refl)
      by ReadFault is = tt
      by NoMemory is = tt

-- and of one that gives a value or a fault
pub put_one : (mark : Mark) (over : Bool) (list : List Resource) (one : Result Resource Fault) (answer : Result (List Resource) Fault)
    → Then (λ made. made ≡ one) (λ resource answer. answer ≡ list_with mark over list resource) answer → answer ≡ one >>= list_with mark over list
put_one mark over list one answer (inl (resource, is, put)) = put ∙ ap (λ (r : Result Resource Fault). r >>= list_with mark over list) is
put_one mark over list one answer (inr (fault, is, stops)) = stops ∙ ap (λ (r : Result Resource Fault). r >>= list_with mark over list) is

-- There is one answer.

module _ (matching : (known : Facts) (place : Mark) (body : PlainBody) (items : List PlainItem) → Once (IsMatch known place body items))
    (spelling : (known : Facts) (body : PlainBody) (row : List Tree) → Once (IsCompiled known body row)) where
  pub once_list : (around : Around) (mark : Mark) (types : List Declaration) (list : List Resource) (one : Compile) → Once (IsListBehind around mark types list one)
  once_list around mark types list one =
      once_then (IsResource around mark types one) (λ resource answer. answer ≡ list_with mark around.setting.over list resource) (once_resource matching spelling around mark types one)
      (λ resource. once_is (list_with mark around.setting.over list resource))

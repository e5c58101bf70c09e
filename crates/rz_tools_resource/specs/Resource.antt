-- The resource of a `resource` statement: the values of its head, the type that is declared for it, what the files give that
-- its items name, the row that they fit, and the bytes that the row spells, or the first fault. (MPW Rez.)
use Rattle.std.specs.Prelude.{◌≡◌, ℕ, ◌==◌, ◌||◌, if◌then◌else◌, List, Some, option_map, Ok, Err}
use Rattle.std.specs.Option.{ok_or}
use Rattle.std.specs.declared.result.Result.{Result}
use Rattle.rz_core.specs.Answers.{Then}
use Rattle.rz_core.specs.declared.facts.Facts.{Facts}
use Rattle.rz_core.specs.declared.fault.Fault.{Fault}
use Rattle.rz_core.specs.declared.fault.Kept.{Kept}
use Rattle.rz_core.specs.declared.fault.Kept.TheVariants as kept
use Rattle.rz_core.specs.declared.fault.Mark.{Mark}
use Rattle.rz_core.specs.declared.resource.Resource.{Resource}
use Rattle.rz_folder.specs.Folder.{Files}
use Rattle.rz_stmt_items.specs.Compile.{Compile}
use Rattle.rz_stmt_items.specs.Item.{PlainItem}
use Rattle.rz_layout.specs.Compiled.{IsCompiled}
use Rattle.rz_stmt_items.specs.Match.{IsMatch}
use Rattle.rz_tools_resource.specs.Items.{items_read}
use Rattle.rz_tools_values.specs.Around.{Around}
use Rattle.rz_tools_values.specs.Contents.{with_bytes}
use Rattle.rz_tools_values.specs.Head.{facts_of}
use Rattle.rz_types_fields.specs.declared.tree.Tree.{Tree}
use Rattle.rz_types_fields.specs.Laid.{Refusal}
use Rattle.rz_types.specs.Field.{PlainBody}
use Rattle.rz_types_table.specs.Table.{found, Declaration}

-- 202 for a resource whose type and id no declaration is for
abbrev pub no_type : Mark → Facts → Fault
no_type mark known = record { number = 202; mark = Some mark; kept = kept.Key known.kind known.id }

-- the fields that are declared for a resource
abbrev pub fields_for : Mark → List Declaration → Facts → Result PlainBody Fault
fields_for mark types known = ok_or (option_map (λ one. one.template) (found known.kind known.id types)) (no_type mark known)

-- what a refused row keeps: of a zero divisor and of a bad format nothing
abbrev pub row_kept : Refusal → Kept
row_kept fault = if (fault.number == 211) || (fault.number == 222) then kept.Nothing else kept.Number fault.value

-- a refused row, on this line
abbrev pub row_fault : Mark → Refusal → Fault
row_fault mark fault = record { number = fault.number; mark = Some mark; kept = row_kept fault }

-- the bytes that a row spells, or its refusal on this line
abbrev pub IsSpelled : Mark → Facts → PlainBody → List Tree → Result (List ℕ) Fault → Type 0
IsSpelled mark known body row (Ok bytes) = IsCompiled known body row (Ok bytes)
IsSpelled mark known body row (Err fault) = (refused : Refusal) × IsCompiled known body row (Err refused) × (fault ≡ row_fault mark refused)

-- the bytes of items under these fields: those of the row that they fit
abbrev pub AreItemBytes : Mark → Facts → List PlainItem → PlainBody → Result (List ℕ) Fault → Type 0
AreItemBytes mark known items body = Then (IsMatch known mark body items) (IsSpelled mark known body)

module _ (paths : List (List ℕ)) (files : Files) (mark : Mark) where
  -- the same of items whose texts name files: what these give comes before
  abbrev pub AreReadBytes : Facts → List PlainItem → PlainBody → Result (List ℕ) Fault → Type 0
  AreReadBytes known items body =
      Then (λ answer. answer ≡ items_read paths files mark known items) (λ items. AreItemBytes mark known items body)

  -- and under the fields that are declared for the resource
  abbrev pub AreBytes : List Declaration → List PlainItem → Facts → Result (List ℕ) Fault → Type 0
  AreBytes types items known = Then (λ answer. answer ≡ fields_for mark types known) (AreReadBytes known items)

  -- the resource of which this is known
  abbrev pub IsMade : List Declaration → List PlainItem → Facts → Result Resource Fault → Type 0
  IsMade types items known = Then (AreBytes types items known) (λ bytes answer. answer ≡ Ok (with_bytes known bytes))

-- the resource of a statement on this line
abbrev pub IsResource : Around → Mark → List Declaration → Compile → Result Resource Fault → Type 0
IsResource around mark types one =
    Then (λ answer. answer ≡ facts_of around.setting mark one.kind one.head) (IsMade around.paths around.files mark types one.items)

-- A statement gives one resource at most, or one fault.
use Rattle.std.proofs.Common.{◌≡◌, ℕ, List, Ok, Err, sym, ap, ◌∙◌}
use Rattle.rz_core.proofs.Once.{ok_or_err, once_by, once_is, once_then, same_err, same_ok, Once}
use Rattle.rz_core.specs.declared.facts.Facts.{Facts}
use Rattle.rz_core.specs.declared.fault.Mark.{Mark}
use Rattle.rz_stmt_items.specs.Compile.{Compile}
use Rattle.rz_stmt_items.specs.Item.{PlainItem}
use Rattle.rz_layout.specs.Compiled.{IsCompiled}
use Rattle.rz_stmt_items.specs.Match.{IsMatch}
use Rattle.rz_tools_values.specs.Contents.{with_bytes}
use Rattle.rz_tools_values.specs.Head.{facts_of}
use Rattle.rz_tools_resource.specs.Items.{items_read}
use Rattle.rz_tools_resource.specs.Resource.{fields_for, row_fault, AreBytes, AreItemBytes, AreReadBytes, IsMade, IsResource, IsSpelled}
use Rattle.rz_tools_values.specs.Around.{Around}
use Rattle.rz_types_fields.specs.declared.tree.Tree.{Tree}
use Rattle.rz_types_fields.specs.Laid.{Refusal}
use Rattle.rz_types.specs.Field.{PlainBody}
use Rattle.rz_types_table.specs.Table.{Declaration}

module _ (matching : (known : Facts) (place : Mark) (body : PlainBody) (items : List PlainItem) → Once (IsMatch known place body items))
    (spelling : (known : Facts) (body : PlainBody) (row : List Tree) → Once (IsCompiled known body row)) where
  once_spelled : (mark : Mark) (known : Facts) (body : PlainBody) (row : List Tree) → Once (IsSpelled mark known body row)
  once_spelled mark known body row = once_by (IsSpelled mark known body row)
      (λ x y is also. same_ok {F = Refusal} x y (spelling known body row (Ok x) (Ok y) is also))
      (λ f g is also. is.2 ∙ ap (row_fault mark) (same_err {X = List ℕ} is.0 also.0 (spelling known body row (Err is.0) (Err also.0) is.1 also.1)) ∙ sym also.2)
      (λ x f is also. ok_or_err x also.0 (spelling known body row (Ok x) (Err also.0) is also.1))

  pub once_resource : (around : Around) (mark : Mark) (types : List Declaration) (one : Compile) → Once (IsResource around mark types one)
  once_resource around mark types one =
      once_then (λ answer. answer ≡ facts_of around.setting mark one.kind one.head) (IsMade around.paths around.files mark types one.items)
      (once_is (facts_of around.setting mark one.kind one.head))
      (λ known. once_then (AreBytes around.paths around.files mark types one.items known) (λ bytes answer. answer ≡ Ok (with_bytes known bytes))
      (once_then (λ answer. answer ≡ fields_for mark types known) (AreReadBytes around.paths around.files mark known one.items) (once_is (fields_for mark types known))
      (λ body. once_then (λ answer. answer ≡ items_read around.paths around.files mark known one.items) (λ items. AreItemBytes mark known items body)
      (once_is (items_read around.paths around.files mark known one.items))
      (λ items. once_then (IsMatch known mark body items) (IsSpelled mark known body) (matching known mark body items) (once_spelled mark known body))))
      (λ bytes. once_is (Ok (with_bytes known bytes))))

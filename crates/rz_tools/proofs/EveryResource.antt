-- A `resource` statement has a resource or a fault, where the fields of all declarations keep the rules, and a `type`
-- statement leaves them so.
use Rattle.std.proofs.Common.{◌≡◌, ℤ, Bool, true, false, List, [], ◌∷◌, Option, Some, None, Ok, Err, refl, sym, ap, subst}
use Rattle.std.specs.Prelude.{if◌then◌else◌, option_map, IfSome}
use Rattle.std.specs.List.{AllByRecursion}
use Rattle.std.specs.Option.{is_none, ok_or}
use Rattle.std.specs.declared.result.Result.{Result}
use Rattle.rz_core.proofs.Has.{has_is, has_then, Has}
use Rattle.rz_core.proofs.Once.{ok_or_err, same_ok}
use Rattle.rz_core.specs.Lists.{or_else, unless_fault}
use Rattle.rz_core.specs.Stop.{◌>>=◌}
use Rattle.rz_core.specs.declared.facts.Facts.{Facts}
use Rattle.rz_core.specs.declared.fault.Fault.{Fault}
use Rattle.rz_core.specs.declared.fault.Mark.{Mark}
use Rattle.rz_core.specs.declared.resource.OsType.{OsType}
use Rattle.rz_core.specs.declared.resource.Resource.{Resource}
use Rattle.rz_stmt_type.specs.Constants.{CopyOf, Declare, Fields, PlainMade}
use Rattle.rz_stmt_items.specs.Compile.{Compile}
use Rattle.rz_stmt_items.specs.Item.{PlainItem}
use Rattle.rz_layout.specs.Compiled.{IsCompiled}
use Rattle.rz_stmt_items.specs.Match.{IsMatch}
use Rattle.rz_types_fields.specs.Row.{IsRow}
use Rattle.rz_types_fields.specs.declared.tree.Tree.{Tree}
use Rattle.rz_types_table.specs.Table.{asked, copied, found, is_any, is_for, is_id, is_range_of, last_such, no_such_type, Declaration}
use Rattle.rz_tools_resource.specs.Items.{items_read}
use Rattle.rz_tools_resource.specs.Resource.{fields_for, no_type, row_fault, AreBytes, AreItemBytes, AreReadBytes, IsMade, IsResource, IsSpelled}
use Rattle.rz_tools.specs.Step.{IsListBehind}
use Rattle.rz_tools_output.proofs.Files.{declared_all}
use Rattle.rz_tools_output.specs.Templates.{AreTemplates}
use Rattle.rz_types.specs.Field.{PlainBody}
use Rattle.rz_types.specs.Rules.{broken, checked, keeps_rules}
use Rattle.rz_types.specs.declared.rules.TypeFault.{TypeFault}
use Rattle.rz_tools_values.specs.Around.{Around}
use Rattle.rz_tools_values.specs.Contents.{with_bytes}
use Rattle.rz_tools_work.specs.Declare.{copied_id, on_line, scope_of, template_of}
use Rattle.rz_tools_values.specs.Head.{facts_of}
use Rattle.rz_tools_work.specs.Put.{list_with}
use Rattle.rz_tools_work.specs.Work.{declared, with_type, Work}
use Rattle.rz_tools_values.specs.declared.setting.Setting.{Setting}

-- so much holds of the fields of each declaration
abbrev pub AreSo : (PlainBody → Type 0) → List Declaration → Type 0
AreSo Q types = AllByRecursion (λ one. Q one.template) types

-- the fields keep the rules
abbrev pub IsKept : PlainBody → Type 0
IsKept body = keeps_rules body ≡ true

abbrev pub AreKept : List Declaration → Type 0
AreKept types = AreSo IsKept types

-- those of templates do
pub templates_kept : (types : List Declaration) → AreTemplates types → AreKept types
templates_kept [] all = tt
templates_kept (one ∷ types) all = (all.0.kept, templates_kept types all.1)

-- What is found.

module _ {A : Type 0} (P : A → Type 0) where
  last_so : (test : A → Bool) (xs : List A) → AllByRecursion P xs → IfSome (last_such test xs) P
  last_so test [] all = tt
  last_so test (x ∷ xs) all = by (last_such test xs) (last_so test xs all.1) (test x)
    where
      by : (last : Option A) → IfSome last P → (passes : Bool) → IfSome (or_else last (if passes then Some x else None)) P
      by (Some y) is passes = is
      by None is true = all.0
      by None is false = tt

  either_so : (one other : Option A) → IfSome one P → IfSome other P → IfSome (or_else one other) P
  either_so None other is also = also
  either_so (Some x) other is also = is

module _ (Q : PlainBody → Type 0) where
  abbrev pub IsSo : Declaration → Type 0
  IsSo one = Q one.template

  pub found_so : (kind : OsType) (id : ℤ) (types : List Declaration) → AreSo Q types → IfSome (found kind id types) IsSo
  found_so kind id types so =
      either_so IsSo (last_such (is_for kind (is_id id)) types) (or_else (last_such (is_for kind (is_range_of id)) types) (last_such (is_for kind is_any) types))
      (last_so IsSo (is_for kind (is_id id)) types so)
      (either_so IsSo (last_such (is_for kind (is_range_of id)) types) (last_such (is_for kind is_any) types)
      (last_so IsSo (is_for kind (is_range_of id)) types so)
      (last_so IsSo (is_for kind is_any) types so))

  asked_so : (kind : OsType) (id : Option ℤ) (types : List Declaration) → AreSo Q types → IfSome (asked kind id types) IsSo
  asked_so kind (Some id) types so = found_so kind id types so
  asked_so kind None types so = last_so IsSo (is_for kind is_any) types so

  template_so : {F : Type 0} (one : Option Declaration) (fault : F) (body : PlainBody) → IfSome one IsSo
      → ok_or (option_map (λ one. one.template) one) fault ≡ Ok body → Q body
  template_so {F} None fault body so is = absurd (ok_or_err {F = F} body fault (sym is))
  template_so {F} (Some one) fault body so is = subst Q (same_ok {F = F} one.template body is) so

-- The resource.

module _ (matching : (known : Facts) (place : Mark) (body : PlainBody) (items : List PlainItem) → keeps_rules body ≡ true → Has (IsMatch known place body items))
    (rows : (known : Facts) (place : Mark) (body : PlainBody) (items : List PlainItem) (row : List Tree) → IsMatch known place body items (Ok row) → IsRow body row)
    (spelling : (known : Facts) (body : PlainBody) (row : List Tree) → keeps_rules body ≡ true → IsRow body row → Has (IsCompiled known body row)) where
  has_spelled : (mark : Mark) (known : Facts) (body : PlainBody) (row : List Tree) → Has (IsCompiled known body row) → Has (IsSpelled mark known body row)
  has_spelled mark known body row (Ok bytes, is) = (Ok bytes, is)
  has_spelled mark known body row (Err refused, is) = (Err (row_fault mark refused), (refused, is, refl))

  has_bytes : (mark : Mark) (known : Facts) (items : List PlainItem) (body : PlainBody) → keeps_rules body ≡ true → Has (AreItemBytes mark known items body)
  has_bytes mark known items body kept =
      has_then (IsMatch known mark body items) (IsSpelled mark known body) (matching known mark body items kept)
      (λ row is. has_spelled mark known body row (spelling known body row kept (rows known mark body items row is)))

  module _ (around : Around) (mark : Mark) (types : List Declaration) (kept : AreKept types) where
    has_read : (known : Facts) (items : List PlainItem) (body : PlainBody) → keeps_rules body ≡ true
        → Has (AreReadBytes around.paths around.files mark known items body)
    has_read known items body own =
        has_then (λ answer. answer ≡ items_read around.paths around.files mark known items) (λ items. AreItemBytes mark known items body)
        (has_is (items_read around.paths around.files mark known items)) (λ items is. has_bytes mark known items body own)

    has_declared : (items : List PlainItem) (known : Facts) → Has (AreBytes around.paths around.files mark types items known)
    has_declared items known =
        has_then (λ answer. answer ≡ fields_for mark types known) (AreReadBytes around.paths around.files mark known items) (has_is (fields_for mark types known))
        (λ body is. has_read known items body
        (template_so IsKept (found known.kind known.id types) (no_type mark known) body (found_so IsKept known.kind known.id types kept) (sym is)))

    has_made : (items : List PlainItem) (known : Facts) → Has (IsMade around.paths around.files mark types items known)
    has_made items known =
        has_then (AreBytes around.paths around.files mark types items known) (λ bytes answer. answer ≡ Ok (with_bytes known bytes)) (has_declared items known)
        (λ bytes is. has_is (Ok (with_bytes known bytes)))

    has_resource : (one : Compile) → Has (IsResource around mark types one)
    has_resource one =
        has_then (λ answer. answer ≡ facts_of around.setting mark one.kind one.head) (IsMade around.paths around.files mark types one.items)
        (has_is (facts_of around.setting mark one.kind one.head)) (λ known is. has_made one.items known)

    pub has_list : (list : List Resource) (one : Compile) → Has (IsListBehind around mark types list one)
    has_list list one =
        has_then (IsResource around mark types one) (λ resource answer. answer ≡ list_with mark around.setting.over list resource) (has_resource one)
        (λ resource is. has_is (list_with mark around.setting.over list resource))

-- The declaration.

bound : {X Y F : Type 0} (first : Result X F) (next : X → Result Y F) (y : Y) → first >>= next ≡ Ok y → (x : X) × (first ≡ Ok x) × (next x ≡ Ok y)
bound (Ok x) next y is = (x, refl, is)
bound {Y = Y} {F = F} (Err f) next y is = absurd (ok_or_err {X = Y} {F = F} y f (sym is))

on_line_so : {X : Type 0} (mark : Mark) (given : Result X TypeFault) (x : X) → on_line mark given ≡ Ok x → given ≡ Ok x
on_line_so mark (Ok y) x is = ap (λ z. Ok z) (same_ok {F = Fault} y x is)
on_line_so {X} mark (Err fault) x is = absurd (ok_or_err {X = X} {F = Fault} x _ (sym is))

-- fields that are taken keep the rules, and are those that are declared
taken : (own body : PlainBody) (fault : Option TypeFault) → broken own ≡ fault → unless_fault fault own ≡ Ok body → IsKept own × (own ≡ body)
taken own body None none is = (ap is_none none, same_ok {F = TypeFault} own body is)
taken own body (Some fault) some is = absurd (ok_or_err {F = TypeFault} body fault (sym is))

-- what holds of all declarations, and of the statement's own fields where they keep the rules, holds after the statement
module _ (Q : PlainBody → Type 0) where
  abbrev pub HoldsOfMade : PlainMade → Type 0
  HoldsOfMade made = (own : PlainBody) → made ≡ Fields own → IsKept own → Q own

  made_so : (mark : Mark) (types : List Declaration) → AreSo Q types → (made : PlainMade) → HoldsOfMade made → (body : PlainBody) → template_of mark types made ≡ Ok body → Q body
  made_so mark types so (Fields own) holds body is =
      let takes = taken own body (broken own) refl (on_line_so mark (checked own) body is) in
      subst Q takes.1 (holds own refl takes.0)
  made_so mark types so (CopyOf kind id) holds body is =
      let asks = bound (copied_id mark id) (λ id. on_line mark (copied (record { code = kind }) id types)) body is in
      template_so Q (asked (record { code = kind }) asks.0 types) (no_such_type (record { code = kind }) asks.0) body (asked_so Q (record { code = kind }) asks.0 types so)
      (on_line_so mark (copied (record { code = kind }) asks.0 types) body asks.2)

  pub declared_so : (setting : Setting) (mark : Mark) (work : Work) (one : Declare) (next : Work) → HoldsOfMade one.made → AreSo Q work.types
      → declared setting mark work one ≡ Ok next → AreSo Q next.types
  declared_so setting mark work one next holds so is =
      let scoped = bound (scope_of mark one.bounds)
      (λ scope. template_of mark work.types one.made >>= (λ template. Ok (with_type setting mark work (record { code = one.kind }) scope template))) next is in
      let made = bound (template_of mark work.types one.made) (λ template. Ok (with_type setting mark work (record { code = one.kind }) scoped.0 template)) next scoped.2 in
      subst (λ (w : Work). AreSo Q w.types) (same_ok {F = Fault} (with_type setting mark work (record { code = one.kind }) scoped.0 made.0) next made.2)
      (declared_all (IsSo Q) work.types (record { kind = record { code = one.kind }; scope = scoped.0; template = made.0 }) so (made_so mark work.types so one.made holds made.0 made.1))

-- The texts of a row that bytes tell are bytes, so the entries of a catalogue have what every entry has.
use Rattle.std.proofs.Common.{◌≡◌, ℕ, ◌+◌, ◌<◌, ◌≤◌, ◌^◌, ℤ, FitsSigned, Bool, true, false, List, [], ◌∷◌, ◌++◌, length, Option, Some, None, sym, ap, subst, ◌∙◌, arith}
use Rattle.std.specs.Int.{w16}
use Rattle.std.specs.List.{flat_map, AllByRecursion}
use Rattle.std.specs.Option.{option_to_list}
use Rattle.std.proofs.lemmas.List.{length-append}
use Rattle.rz_core.proofs.Lists.{all_append}
use Rattle.rz_core.specs.Lists.{with_front}
use Rattle.rz_core.specs.Decided.{Decided}
use Rattle.rz_core.specs.declared.facts.Facts.{Facts}
use Rattle.rz_core.specs.declared.moment.Moment.{Moment}
use Rattle.rz_core.specs.declared.resource.OsType.{OsType}
use Rattle.rz_core.specs.declared.resource.Resource.{Resource}
use Rattle.rz_expr.specs.Environment.{Environment, Sight}
use Rattle.rz_expr.specs.Term.{Term}
use Rattle.rz_types_fields.specs.Field.{case_and, field_and, no_cases, no_fields, Align, Array, Fill, Label, Number, PlainBody, PlainCases, PlainField, Points, Switch, Text}
use Rattle.rz_types_fields.specs.Passed.{at_field, at_front, behind, nothing_passed, Passed}
use Rattle.rz_types_fields.specs.Row.{By}
use Rattle.rz_types_fields.specs.RowLabels.{row_of}
use Rattle.rz_types_fields.specs.Sees.{sees, Late}
use Rattle.rz_types_fields.specs.Spells.{is_case, plainly, put, AreBytes, BodySpells, CaseSpells, FieldSpells, Inside, IsGrouped, IsNumber, IsPlainText, RowsSpell, SpellsPlainly}
use Rattle.rz_types_fields.specs.Text.{PlainPart}
use Rattle.rz_types_fields.specs.declared.field.NumForm.{NumForm}
use Rattle.rz_types_fields.specs.declared.field.TextForm.{TextForm}
use Rattle.rz_types_fields.specs.declared.tree.Tree.{Tree}
use Rattle.rz_types_fields.specs.declared.tree.Tree.TheVariants as trees
use Rattle.rz_types_table.specs.Table.{declared_for, Declaration}
use Rattle.rz_catalog_text.specs.Stored.{IsStored}
use Rattle.rz_catalog_text.specs.declared.entry.Entry.{Entry}
use Rattle.rz_unlay.specs.Reading.{facts_of}
use Rattle.rz_catalog.proofs.Few.{few_told}
use Rattle.rz_catalog.proofs.Trees.{choice_leaves, rows_leaves}
use Rattle.rz_catalog.proofs.Values.{group_leaves, number_leaves, text_leaves}
use Rattle.rz_catalog.specs.Catalogue.{catalogue, entries_of, entry_of, HasKey, IsCatalogue}
use Rattle.rz_catalog.specs.Leaves.{leaves, leaves_of}
use Rattle.rz_catalog.specs.Stock.{texts_in, texts_of, AreStocked, HasTree, Stocked}

-- Texts of bytes.

abbrev AreOfBytes : List (List ℕ) → Type 0
AreOfBytes texts = AllByRecursion (AllByRecursion (λ b. b < 256)) texts

of_each : {X : Type 0} (texts : X → List (List ℕ)) (xs : List X) → AllByRecursion (λ x. AreOfBytes (texts x)) xs → AreOfBytes (flat_map texts xs)
of_each texts [] all = tt
of_each texts (x ∷ xs) all = all_append _ (texts x) (flat_map texts xs) all.0 (of_each texts xs all.1)

-- the texts of each value are bytes
abbrev AreFine : List Tree → Type 0
AreFine values = AllByRecursion (λ value. AreOfBytes (leaves_of value)) values

abbrev IsFine : Option Tree → Type 0
IsFine value = AreFine (option_to_list value)

fine_put : (value : Option Tree) (rest : List Tree) → IsFine value → AreFine rest → AreFine (put value rest)
fine_put None rest fine others = others
fine_put (Some value) rest fine others = (fine.0, others)

fine_value : (value : Tree) (texts : List (List ℕ)) → leaves_of value ≡ texts → AreOfBytes texts → IsFine (Some value)
fine_value value texts is all = (subst AreOfBytes (sym is) all, tt)

-- one piece has the value of its field
alone : (value other : Option Tree) (rest : List Tree) → option_to_list value ≡ put other rest → rest ≡ [] → IsFine other → IsFine value
alone value other rest is none fine = subst AreFine (sym (is ∙ ap (put other) none)) (fine_put other [] fine tt)

nothing : (value : Option Tree) → value ≡ None → IsFine value
nothing value none = subst IsFine (sym none) tt

either : (test : Bool) (A B C : Type 0) → (A → C) → (B → C) → By test A B → C
either true A B C one other is = one is
either false A B C one other is = other is

-- Values.

number_fine : (form : NumForm) (width : ℤ) (fixed : Option Term) (sight : Sight) (value : Option Tree) (bits : List Bool) → IsNumber form width fixed sight value bits → IsFine value
number_fine form width None sight value bits is = subst IsFine (sym is.1) (fine_value (trees.Number is.0) [] (number_leaves is.0) tt)
number_fine form width (Some term) sight value bits is = nothing value is.1

text_fine : (form : TextForm) (known : Facts) (sight : Sight) (fixed : Option (List PlainPart)) (size : Option ℕ) (value : Option Tree) (bytes : List ℕ) → AreBytes known sight fixed value bytes
    → (value ≡ Some (trees.Text bytes) → IsPlainText form size bytes) → IsFine value
text_fine form known sight None size value bytes are plain = subst IsFine (sym are) (fine_value (trees.Text bytes) (bytes ∷ []) (text_leaves bytes) ((plain are).0, tt))
text_fine form known sight (Some parts) size value bytes are plain = nothing value are.0

group_fine : (fixed : Option (List Term)) (value : Option Tree) → IsGrouped fixed value → IsFine value
group_fine None value is = subst IsFine (sym is.1) (fine_value (trees.Group is.0) [] (group_leaves is.0) tt)
group_fine (Some terms) value is = nothing value is

rows_fine : (rows : List (List Tree)) → AllByRecursion AreFine rows → AllByRecursion (λ row. AreOfBytes (leaves row)) rows
rows_fine [] all = tt
rows_fine (row ∷ rows) all = (of_each leaves_of row all.0, rows_fine rows all.1)

each_row : (Row : ℕ → List Tree → ℕ → Late → ℕ → Late → Type 0)
    → ((number : ℕ) (row : List Tree) (at : ℕ) (late : Late) (after : ℕ) (late_after : Late) → Row number row at late after late_after → AreFine row)
    → (number : ℕ) (rows : List (List Tree)) (at : ℕ) (late : Late) (after : ℕ) (late_after : Late) → RowsSpell Row number rows at late after late_after → AllByRecursion AreFine rows
each_row Row each number [] at late after late_after spells = tt
each_row Row each number (row ∷ rows) at late after late_after (mid, late_mid, one, others) =
    (each number row at late mid late_mid one, each_row Row each (number + 1) rows mid late_mid after late_after others)

module _ (known : Facts) (all : List Bool) where
  mutual
    field_fine : (field : PlainField) (names : Environment) (passed : Passed) (value : Option Tree) (at : ℕ) (late : Late) (after : ℕ) (late_after : Late)
        → FieldSpells plainly known all field names passed value at late after late_after → IsFine value
    field_fine (Number number) names passed value at late after late_after spells =
        let it = spells.1 in
        alone value it.0 it.1 it.4 it.6.0 (number_fine number.form number.width number.fixed (sees known all names at) it.0 it.5.bits it.5.stored)
    field_fine (Text text) names passed value at late after late_after spells =
        let it = spells.1 in
        let stored = it.5.stored in
        alone value it.0 it.1 it.4 it.6.0 (text_fine text.form known (sees known all names at) text.fixed stored.size it.0 stored.bytes stored.are_bytes (it.5.manner stored.size stored.bytes stored.has_size))
    field_fine (Points points) names passed value at late after late_after spells = group_fine points.fixed value spells.0
    field_fine (Fill unit count) names passed value at late after late_after spells = let it = spells.1 in alone value it.0 it.1 it.4 it.6.0 (nothing it.0 it.5.stored.0)
    field_fine (Align unit) names passed value at late after late_after spells = let it = spells.1 in alone value it.0 it.1 it.4 it.6.0 (nothing it.0 it.5.stored.0)
    field_fine (Label name) names passed value at late after late_after spells = let it = spells.1 in alone value it.0 it.1 it.4 it.6.0 (nothing it.0 it.5.stored.0)
    field_fine (Array name count row) names passed value at late after late_after (rows, is, stated, counted, are_rows, spells) =
        subst IsFine (sym is) (fine_value (trees.Rows rows) (flat_map leaves rows) (rows_leaves rows) (of_each leaves rows (rows_fine rows
        (each_row (λ number line. Inside row (row_of name number) names (λ own. BodySpells plainly known all row own (at_front row passed) line))
        (λ number line from late_from to late_to one. body_fine row one.0 (at_front row passed) line from late_from to late_to one.2) 1 rows at late after late_after spells))))
    field_fine (Switch cases) names passed value at late after late_after spells = cases_fine cases names passed value at late after late_after spells

    cases_fine : (cases : PlainCases) (names : Environment) (passed : Passed) (value : Option Tree) (at : ℕ) (late : Late) (after : ℕ) (late_after : Late)
        → CaseSpells plainly known all cases names passed value at late after late_after → IsFine value
    cases_fine no_cases names passed value at late after late_after spells = absurd spells
    cases_fine (case_and name row others) names passed value at late after late_after spells =
        either (is_case name value) _ (CaseSpells plainly known all others names passed value at late after late_after) (IsFine value)
        (λ one. subst IsFine (sym one.1) (fine_value (trees.Choice name one.0) (leaves one.0) (choice_leaves name one.0)
        (of_each leaves_of one.0 (body_fine row one.2.0 (at_front row passed) one.0 at late after late_after one.2.2))))
        (λ other. cases_fine others names passed value at late after late_after other) spells

    body_fine : (body : PlainBody) (names : Environment) (passed : Passed) (values : List Tree) (at : ℕ) (late : Late) (after : ℕ) (late_after : Late)
        → BodySpells plainly known all body names passed values at late after late_after → AreFine values
    body_fine no_fields names passed values at late after late_after spells = subst AreFine (sym spells.0) tt
    body_fine (field_and field fields) names passed values at late after late_after (value, rest, mid, late_mid, are, one, others) =
        let front = at_field (field_and field fields) passed in
        subst AreFine (sym are) (fine_put value rest (field_fine field names front value at late mid late_mid one)
        (body_fine fields names (behind field front) rest mid late_mid after late_after others))

told_bytes : (known : Facts) (body : PlainBody) (row : List Tree) (bytes : List ℕ) → SpellsPlainly known body row bytes → AreOfBytes (leaves row)
told_bytes known body row bytes plain =
    let spells = plain.spelling in of_each leaves_of row (body_fine known _ body spells.names (at_front body nothing_passed) row 0 [] spells.end spells.late spells.fields)

-- Entries.

module _ (kind : OsType) (id : ℤ) (code : kind.code < 2 ^ 32) (fits : FitsSigned w16 id) where
  entries_stored : (before texts : List (List ℕ)) → length before + length texts ≤ 1048576 → AreOfBytes texts
      → AllByRecursion IsStored (with_front (λ before text. entry_of kind id (length before) text ∷ []) before texts)
  entries_stored before [] few all = tt
  entries_stored before (text ∷ texts) few all =
      let one = length-append before (text ∷ []) in (
        record { code = code; id = fits; leaf = omega (arith, few); text = all.0 },
        entries_stored (before ++ text ∷ []) texts (omega (arith, few, one)) all.1,
      )

module _ (types : List Declaration) (moment : Moment) where
  row_stored : (r : Resource) → HasKey r → (tree : Option (List Tree)) → Decided (HasTree types moment r) tree → AllByRecursion IsStored (entries_of r.kind r.id (texts_in tree))
  row_stored r key None none = tt
  row_stored r key (Some row) told =
      let few = few_told (declared_for types r) (facts_of moment r) r.bytes row told in
      entries_stored r.kind r.id key.0 key.1 [] (leaves row) (omega (arith, few)) (told_bytes (facts_of moment r) told.0 row r.bytes told.1.told.1)

  stock_stored : (list : List Resource) (stock : List Stocked) → AllByRecursion HasKey list → AreStocked types moment list stock → AllByRecursion IsStored (catalogue stock)
  stock_stored [] [] keys are = tt
  stock_stored [] (s ∷ stock) keys are = absurd are
  stock_stored (r ∷ list) [] keys are = absurd are
  stock_stored (r ∷ list) (s ∷ stock) keys are =
      all_append IsStored (entries_of s.resource.kind s.resource.id (texts_of s)) (catalogue stock)
      (subst (λ (x : Resource). AllByRecursion IsStored (entries_of x.kind x.id (texts_of s))) (sym are.0) (row_stored r keys.0 s.tree are.1))
      (stock_stored list stock keys.1 are.2)

  pub stored : (list : List Resource) (entries : List Entry) → AllByRecursion HasKey list → IsCatalogue types moment list entries → AllByRecursion IsStored entries
  stored list entries keys (stock, are, is) = subst (AllByRecursion IsStored) (sym is) (stock_stored list stock keys are)

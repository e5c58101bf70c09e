-- What is read is spelled plainly: fields, rows, cases and bodies.
use Rattle.std.proofs.Common.{◌≡◌, ℕ, ◌≤◌, ℤ, Bool, true, false, ◌&&◌, List, [], length, Option, Some, None, refl, sym, ap, ◌∙◌, subst}
use Rattle.std.specs.Prelude.{option_map}
use Rattle.std.specs.List.{AllByRecursion}
use Rattle.std.specs.Str.{str_eq_ignore_ascii_case}
use Rattle.rz_core.proofs.Folds.{same_lower}
use Rattle.rz_core.specs.declared.facts.Facts.{Facts}
use Rattle.rz_core.specs.declared.resource.Word.{Word}
use Rattle.rz_expr.specs.Environment.{Environment, IsPartOf, Key}
use Rattle.rz_types_fields.specs.Field.{case_and, field_and, no_cases, no_fields, Align, Array, Fill, Label, Number, PlainBody, PlainCases, PlainField, Points, Switch, Text}
use Rattle.rz_types_fields.specs.Front.{names_inside}
use Rattle.rz_types_fields.specs.Passed.{at_field, at_front, behind, declares, gives_key, is_held, met_behind, met_inside, Passed}
use Rattle.rz_types_fields.specs.Row.{By}
use Rattle.rz_types_fields.specs.RowLabels.{also_rows, row_of, RowOf}
use Rattle.rz_types_fields.specs.Sees.{Late}
use Rattle.rz_types_fields.specs.Shape.{are_cases_shaped, are_shaped, is_none_or, is_own_name, is_shaped}
use Rattle.rz_types_fields.specs.Spells.{choice_of_tree, is_case, most_bits, plainly, put, BodySpells, CaseSpells, FieldSpells, Inside}
use Rattle.rz_types_fields.specs.Width.{case_keys}
use Rattle.rz_types_fields.specs.declared.tree.Tree.{Tree}
use Rattle.rz_types_fields.specs.declared.tree.Tree.TheVariants as trees
use Rattle.rz_types.proofs.OwnNames.{apart_field, rest_own}
use Rattle.rz_types.specs.Kept.{AreCasesKept, AreKept, AreOwn, Differ, IsKeptWithin}
use Rattle.rz_types.specs.Readable.{are_cases_read, are_read, is_read, rows_end}
use Rattle.rz_types.specs.Rules.{case_names}
use Rattle.rz_types.specs.Walk.{and_names, around_names, names_of, Own}
use Rattle.rz_unlay.specs.Pieces.{with_value, Found}
use Rattle.rz_unlay_pieces.specs.Pieces.{claim_count, Step}
use Rattle.rz_unlay.specs.Cursor.{body_found, case_found, count_known, field_found, has_keys, line_of, rows_by, Line, Lines, ReadsRow}
use Rattle.rz_unlay.proofs.Ahead.{HasPlaces}
use Rattle.rz_unlay.proofs.Fresh.{fresh_front, Fresh}
use Rattle.rz_unlay.proofs.Labelled.{body_labels}
use Rattle.rz_unlay.proofs.MetBehind.{met_field}
use Rattle.rz_unlay.proofs.Onward.{body_on, field_on, near_read, places_stay, places_within}
use Rattle.rz_unlay.proofs.ReadsTests.{and_then, both_true, mapped, neither, none_is, not_both, right_true, some_same}
use Rattle.rz_unlay.proofs.RowsRead.{by_long, if_either, lines_read}
use Rattle.rz_unlay.proofs.RowsStay.{field_stays}
use Rattle.rz_unlay.proofs.SpelledNames.{Came, CameNear, Grows, Knows, NearShort}
use Rattle.rz_unlay.proofs.SpelledPieces.{field_pieces, then_came, wide, Tells}
use Rattle.rz_unlay.proofs.SpelledRows.{inside_came, inside_knows, row_read, rows_came, rows_spelled, RowRead}
use Rattle.rz_unlay.proofs.Told.{part_of_part, same_part}

-- The name of a case.

choice_name : (name chosen : Word) (line : List Tree) → is_case name (Some (trees.Choice chosen line)) ≡ str_eq_ignore_ascii_case name.bytes chosen.bytes
choice_name name chosen line = ap (str_eq_ignore_ascii_case name.bytes) (ap choice_of_tree (trees.outs-Choice chosen line))

own_name : (name : Word) (line : List Tree) → is_case name (Some (trees.Choice name line)) ≡ true
own_name name line = choice_name name name line ∙ (same_lower name.bytes name.bytes).1 refl

-- a case was read: its name is one of these
record CaseCame (facts : Facts) (all : List Bool) (cases : PlainCases) (passed : Passed) (names : Environment) (at : ℕ) (late : Late) (step : Step) : Type 0 where
  same : names ≡ step.names
  differs : (name : Word) → AllByRecursion (λ later. str_eq_ignore_ascii_case name.bytes later.bytes ≡ false) (case_names cases) → is_case name step.value ≡ false
  spells : (env : Environment) → IsPartOf names env → CaseSpells plainly facts all cases env passed step.value at late step.after step.late

module _ (tells : Tells) (facts : Facts) (all : List Bool) (short : length all ≤ most_bits) where
  -- where something is read: it is known which names are known, `true` and `false` among them, and the place is in the resource
  pub record Before (passed : Passed) (names : Environment) (at : ℕ) : Type 0 where
    pub knows : Knows (is_held passed) names
    pub has : HasPlaces names
    pub inside : at ≤ length all

  -- what is read of a body
  abbrev pub BodyRead : Passed → PlainBody → Environment → ℕ → Late → Found → Type 0
  BodyRead passed body names at late found = Came (declares body) names found.names at late found.after found.late (λ env. BodySpells plainly facts all body env passed found.row)

  -- a body is read so, whatever stands before it
  abbrev pub BodyCame : Passed → PlainBody → Type 0
  BodyCame passed body = (names : Environment) (at : ℕ) (late : Late) (found : Found) → Before passed names at → Fresh body names → body_found facts all passed.met body names at late ≡ Some found
      → BodyRead passed body names at late found

  -- what is read of a field
  abbrev FieldRead : PlainBody → Passed → PlainField → Environment → ℕ → Late → Step → Type 0
  FieldRead rest passed field names at late step =
      CameNear all (field_and field rest) at (declares (field_and field rest)) names step.names at late step.after step.late (λ env. FieldSpells plainly facts all field env passed step.value)
      × Knows (is_held (behind field passed)) step.names

  -- passed: before the field, where the labels after it aren't near yet
  abbrev FieldCame : PlainBody → Passed → PlainField → Type 0
  FieldCame rest passed field = (names : Environment) (at : ℕ) (late : Late) (step : Step) → Before passed names at → Fresh (field_and field rest) names → NearShort all (field_and field rest) at
      → field_found facts all rest passed.met field names at late ≡ Some step → FieldRead rest (at_field (field_and field rest) passed) field names at late step

  abbrev CasesCame : Passed → PlainCases → Type 0
  CasesCame passed cases = (names : Environment) (at : ℕ) (late : Late) (step : Step) → Before passed names at → case_found facts all passed.met cases names at late ≡ Some step
      → CaseCame facts all cases passed names at late step

  before_row : (in_case : Bool) (row : PlainBody) (which : Option RowOf) (passed : Passed) (names : Environment) (at : ℕ) → are_shaped in_case row ≡ true → Before passed names at
      → Before (at_front row passed) (names_inside which row names) at
  before_row in_case row which passed names at shaped before = record {
    knows = inside_knows row which passed names before.knows;
    has = places_within in_case which row names shaped before.has;
    inside = before.inside;
  }

  -- a row within
  line_came : (row : PlainBody) (passed : Passed) → are_shaped false row ≡ true → BodyCame (at_front row passed) row → (name : Option Word) (names : Environment) (number at : ℕ) (late : Late) (line : Line)
      → Before passed names at → line_of (body_found facts all (met_inside row passed.met) row (names_inside (row_of name number) row names) at late) ≡ Some line
      → (line.after ≤ length all) × RowRead facts all name row (at_front row passed) names number line at late
  line_came row passed shaped came name names number at late line before is =
      let which = row_of name number in
      let it = mapped (λ f. record { row = f.row; own = f.names; after = f.after; late = f.late }) (body_found facts all (met_inside row passed.met) row (names_inside which row names) at late) line is in
      let found : Found = it.0 in
      let within = before_row false row which passed names at shaped before in
      let goes = (body_on facts all row false (met_inside row passed.met) (names_inside which row names) at late found shaped within.has before.inside it.1).goes in
      let read = came (names_inside which row names) at late found within (fresh_front which row names) it.1 in
      subst (λ (l : Line). (l.after ≤ length all) × RowRead facts all name row (at_front row passed) names number l at late) it.2 (
        goes.within,
        row_read facts all name row (at_front row passed) names number at late (record { row = found.row; own = found.names; after = found.after; late = found.late })
            (body_labels facts all row (met_inside row passed.met) (names_inside which row names) at late found it.1) read,
      )

  array_came : (rest : PlainBody) (passed : Passed) (name : Option Word) (count : Option ℤ) (row : PlainBody) → are_shaped false row ≡ true → BodyCame (at_front row passed) row → FieldCame rest passed (Array name count row)
  array_came rest passed name count row shaped came names at late step before fresh near is =
      let here = at_field (field_and (Array name count row) rest) passed in
      let reads : ReadsRow = λ number place marks. line_of (body_found facts all (met_inside row passed.met) row (names_inside (row_of name number) row names) place marks) in
      let one = and_then (λ lines. option_map (λ more. record { value = Some (trees.Rows lines.rows); after = lines.after; names = also_rows row lines.ends more; late = lines.late }) (claim_count name (length lines.rows) names))
      (rows_by reads (length all) rest names (count_known names name count) at late) step is in
      let lines : Lines = one.0 in
      let two = mapped (λ more. record { value = Some (trees.Rows lines.rows); after = lines.after; names = also_rows row lines.ends more; late = lines.late }) (claim_count name (length lines.rows) names) step one.2 in
      let more : Environment = two.0 in
      let long = by_long reads (length all) rest names (count_known names name count) at late lines one.1 in
      let known = rows_came name count row rest (length lines.rows) lines.ends here names more long before.knows fresh two.1 in
      let come = lines_read (length all) reads (λ number line at late. RowRead facts all name row (at_front row here) names number line at late)
      (λ number place marks line inside found. line_came row passed shaped came name names number place marks line (record { knows = before.knows; has = before.has; inside = inside }) found)
      rest names name count at late lines before.inside one.1 in
      subst (FieldRead rest here (Array name count row) names at late) two.2 (
        record {
          grows = record { kept = known.grows.kept; same = λ key none. known.grows.same key (neither (gives_key (Array name count row) key) (declares rest key) none).0 };
          spells = λ env part near_there. (
            lines.rows,
            refl,
            come.0,
            known.counted env part,
            known.labelled env part,
            rows_spelled facts all name row (at_front row here) names more env lines.rows lines.ends at late lines.after lines.late
                (part_of_part names (also_rows row lines.ends more) env known.grows.kept part) part come.1.1,
          );
        },
        known.knows,
      )

  switch_came : (rest : PlainBody) (passed : Passed) (cases : PlainCases) → CasesCame (at_field (field_and (Switch cases) rest) passed) cases → FieldCame rest passed (Switch cases)
  switch_came rest passed cases came names at late step before fresh near is =
      let it = came names at late step (record { knows = before.knows; has = before.has; inside = before.inside }) is in
      let same = it.same in (
        record {
          grows = subst (Grows (declares (field_and (Switch cases) rest)) names) same (record { kept = same_part names; same = λ key none. refl });
          spells = λ env part near_there. it.spells env (subst (λ (known : Environment). IsPartOf known env) (sym same) part);
        },
        subst (Knows (is_held passed)) same before.knows,
      )

  -- a case that is chosen, and one that isn't
  case_came : (passed : Passed) (name : Word) (row : PlainBody) (others : PlainCases) → are_shaped true row ≡ true → BodyCame (at_front row passed) row → (names : Environment) (at : ℕ) (late : Late) (step : Step)
      → Before passed names at
      → option_map (λ f. record { value = Some (trees.Choice name f.row); after = f.after; names = names; late = f.late }) (body_found facts all (met_inside row passed.met) row (names_inside None row names) at late) ≡ Some step
      → CaseCame facts all (case_and name row others) passed names at late step
  case_came passed name row others shaped came names at late step before is =
      let it = mapped (λ f. record { value = Some (trees.Choice name f.row); after = f.after; names = names; late = f.late }) (body_found facts all (met_inside row passed.met) row (names_inside None row names) at late) step is in
      let found : Found = it.0 in
      let value : Option Tree = Some (trees.Choice name found.row) in
      subst (CaseCame facts all (case_and name row others) passed names at late) it.2 (record {
        same = refl;
        differs = λ other differ. choice_name other name found.row ∙ differ.0;
        spells = λ env part.
            let inside = inside_came facts all row None (at_front row passed) names found.names env at late found.after found.late found.row
            (came (names_inside None row names) at late found (before_row true row None passed names at shaped before) (fresh_front None row names) it.1) part (λ label has. tt) in
            subst (λ (test : Bool). By test
            ((line : List Tree) × (value ≡ Some (trees.Choice name line)) × Inside row None env (λ own. BodySpells plainly facts all row own (at_front row passed) line) at late found.after found.late)
            (CaseSpells plainly facts all others env passed value at late found.after found.late))
            (sym (own_name name found.row)) (found.row, refl, inside);
      })

  other_came : (passed : Passed) (name : Word) (row : PlainBody) (others : PlainCases) → AllByRecursion (λ later. str_eq_ignore_ascii_case name.bytes later.bytes ≡ false) (case_names others)
      → (names : Environment) (at : ℕ) (late : Late) (step : Step) → CaseCame facts all others passed names at late step → CaseCame facts all (case_and name row others) passed names at late step
  other_came passed name row others differ names at late step it = record {
    same = it.same;
    differs = λ other all_differ. it.differs other all_differ.1;
    spells = λ env part.
        subst (λ (test : Bool). By test
        ((line : List Tree) × (step.value ≡ Some (trees.Choice name line)) × Inside row None env (λ own. BodySpells plainly facts all row own (at_front row passed) line) at late step.after step.late)
        (CaseSpells plainly facts all others env passed step.value at late step.after step.late))
        (sym (it.differs name differ)) (it.spells env part);
  }

  -- what was read after a field, with what is known there
  before_others : (in_case : Bool) (field : PlainField) (fields : PlainBody) (passed : Passed) (names : Environment) (at : ℕ) (late : Late) (step : Step) → is_shaped in_case field ≡ true → Before passed names at
      → field_found facts all fields passed.met field names at late ≡ Some step → FieldRead fields (at_field (field_and field fields) passed) field names at late step
      → Before (behind field (at_field (field_and field fields) passed)) step.names step.after
  before_others in_case field fields passed names at late step shaped before is came =
      let goes = (field_on facts all field in_case fields passed.met names at late step shaped before.has before.inside is).goes in
      record { knows = came.1; has = places_stay names step.names goes.kept before.has; inside = goes.within }

  -- names of rows that the fields after one give are unknown there, too
  fresh_behind : (field : PlainField) (fields : PlainBody) (passed : Passed) (names : Environment) (at : ℕ) (late : Late) (step : Step) → AreOwn (names_of (field_and field fields)) → Fresh (field_and field fields) names
      → field_found facts all fields passed.met field names at late ≡ Some step → Fresh fields step.names
  fresh_behind field fields passed names at late step own fresh is = record {
    none = λ key of given.
        field_stays facts all fields passed.met field names at late step is key of (by key given (gives_key field key) refl)
        ∙ fresh.none key of (right_true (gives_key field key) (declares fields key) given);
  }
    where
      by : (key : Key) → declares fields key ≡ true → (test : Bool) → gives_key field key ≡ test → test ≡ false
      by key given true own_key = not_both (declares fields key) given (apart_field field fields own key own_key)
      by key given false none = refl

  body_and : (in_case : Bool) (field : PlainField) (fields : PlainBody) (passed : Passed) → are_shaped in_case (field_and field fields) ≡ true → AreOwn (names_of (field_and field fields)) → FieldCame fields passed field
      → BodyCame (behind field (at_field (field_and field fields) passed)) fields → BodyCame passed (field_and field fields)
  body_and in_case field fields passed shaped own one others names at late found before fresh is =
      let here = at_field (field_and field fields) passed in
      let near = near_read facts all in_case (field_and field fields) passed.met names at late found shaped before.has before.inside is in
      let first = and_then (λ step. with_value step.value (body_found facts all (met_behind field passed.met) fields step.names step.after step.late)) (field_found facts all fields passed.met field names at late) found is in
      let step : Step = first.0 in
      let more = mapped (λ f. record { row = put step.value f.row; after = f.after; names = f.names; late = f.late }) (body_found facts all (met_behind field passed.met) fields step.names step.after step.late) found first.2 in
      let inner : Found = more.0 in
      let test = both_true (is_shaped in_case field) (are_shaped in_case fields) shaped in
      let came = one names at late step before fresh (λ key place there. (near key place there).1) first.1 in
      let there = before_others in_case field fields passed names at late step test.0 before first.1 came in
      let read : body_found facts all (behind field here).met fields step.names step.after step.late ≡ Some inner =
      ap (λ (met : Key → Bool). body_found facts all met fields step.names step.after step.late) (met_field field here) ∙ more.1 in
      let behind_it = others step.names step.after step.late inner there (fresh_behind field fields passed names at late step own fresh first.1) read in
      let names_same : inner.names ≡ found.names = ap (λ (f : Found). f.names) more.2 in
      subst (BodyRead passed (field_and field fields) names at late) more.2
      (then_came all (field_and field fields) at (declares (field_and field fields)) (λ env. FieldSpells plainly facts all field env here) (λ env. BodySpells plainly facts all fields env (behind field here))
      step.value inner.row names step.names inner.names at late step.after step.late inner.after inner.late
      (λ env part key place so.
      let it = near key place so in
      (part.give key _ (ap (λ (known : Environment). known.give key) names_same ∙ it.0), it.1))
      came.0
      (wide (declares fields) (declares (field_and field fields)) (λ key none. (neither (gives_key field key) (declares fields key) none).1)
      step.names inner.names step.after step.late inner.after inner.late (λ env. BodySpells plainly facts all fields env (behind field here) inner.row) behind_it))

  mutual
    field_came : (scope : Own) (in_case outermost : Bool) (rest : PlainBody) (passed : Passed) (field : PlainField) → IsKeptWithin scope field → is_shaped in_case field ≡ true
        → is_read outermost rest (at_field (field_and field rest) passed) field ≡ true → FieldCame rest passed field
    field_came scope in_case outermost rest passed (Number number) kept shaped reads names at late step before fresh near is =
        field_pieces tells facts all short outermost (Number number) rest (at_field (field_and (Number number) rest) passed) names at late step tt (λ key. refl) near before.inside reads before.knows is
    field_came scope in_case outermost rest passed (Text text) kept shaped reads names at late step before fresh near is =
        field_pieces tells facts all short outermost (Text text) rest (at_field (field_and (Text text) rest) passed) names at late step tt (λ key. refl) near before.inside reads before.knows is
    field_came scope in_case outermost rest passed (Points points) kept shaped reads names at late step before fresh near is =
        field_pieces tells facts all short outermost (Points points) rest (at_field (field_and (Points points) rest) passed) names at late step tt (λ key. refl) near before.inside reads before.knows is
    field_came scope in_case outermost rest passed (Fill unit count) kept shaped reads names at late step before fresh near is =
        field_pieces tells facts all short outermost (Fill unit count) rest (at_field (field_and (Fill unit count) rest) passed) names at late step tt (λ key. refl) near before.inside refl before.knows is
    field_came scope in_case outermost rest passed (Align unit) kept shaped reads names at late step before fresh near is =
        field_pieces tells facts all short outermost (Align unit) rest (at_field (field_and (Align unit) rest) passed) names at late step tt (λ key. refl) near before.inside refl before.knows is
    field_came scope in_case outermost rest passed (Label name) kept shaped reads names at late step before fresh near is =
        field_pieces tells facts all short outermost (Label name) rest (at_field (field_and (Label name) rest) passed) names at late step tt (λ key. refl) near before.inside refl before.knows is
    field_came scope in_case outermost rest passed (Array name count row) kept shaped reads names at late step before fresh near is =
        let here = at_field (field_and (Array name count row) rest) passed in
        let test = both_true (is_none_or is_own_name name) (are_shaped false row) shaped in
        let each = both_true (rows_end outermost rest here name count row) (are_read false (at_front row passed) row) reads in
        array_came rest passed name count row test.1 (body_came (and_names (and_names scope (around_names name)) (names_of row)) false false (at_front row passed) row kept.1 kept.2 test.1 each.1) names at late step before fresh near is
    field_came scope in_case outermost rest passed (Switch cases) kept shaped reads names at late step before fresh near is =
        switch_came rest passed cases (cases_came scope (at_field (field_and (Switch cases) rest) passed) cases kept.0 kept.1 shaped reads) names at late step before fresh near is

    cases_came : (scope : Own) (passed : Passed) (cases : PlainCases) → Differ (case_names cases) → AreCasesKept scope cases → are_cases_shaped cases ≡ true → are_cases_read passed cases ≡ true
        → CasesCame passed cases
    cases_came scope passed no_cases differ kept shaped reads names at late step before is = absurd (none_is step is)
    cases_came scope passed (case_and name row others) differ kept shaped reads names at late step before is =
        let each = both_true (are_read false (at_front row passed) row) (are_cases_read passed others) reads in
        let test = both_true (is_own_name name) (are_shaped true row && are_cases_shaped others) shaped in
        let both = both_true (are_shaped true row) (are_cases_shaped others) test.1 in
        if_either (has_keys all at (case_keys row)) _ (case_found facts all passed.met others names at late) step
        (case_came passed name row others both.0 (body_came (and_names scope (names_of row)) true false (at_front row passed) row kept.0 kept.1 both.0 each.0) names at late step before)
        (λ later. other_came passed name row others differ.0 names at late step (cases_came scope passed others differ.1 kept.2 both.1 each.1 names at late step before later))
        is

    pub body_came : (scope : Own) (in_case outermost : Bool) (passed : Passed) (body : PlainBody) → AreOwn (names_of body) → AreKept scope body → are_shaped in_case body ≡ true → are_read outermost passed body ≡ true → BodyCame passed body
    body_came scope in_case outermost passed no_fields own kept shaped reads names at late found before fresh is =
        subst (BodyRead passed no_fields names at late) (some_same (record { row = []; after = at; names = names; late = late }) found is)
        (record { grows = record { kept = same_part names; same = λ key none. refl }; spells = λ env part. (refl, refl, refl) })
    body_came scope in_case outermost passed (field_and field fields) own kept shaped reads names at late found before fresh is =
        let here = at_field (field_and field fields) passed in
        let test = both_true (is_shaped in_case field) (are_shaped in_case fields) shaped in
        let each = both_true (is_read outermost fields here field) (are_read outermost (behind field here) fields) reads in
        body_and in_case field fields passed shaped own (field_came scope in_case outermost fields passed field kept.2 test.0 each.0)
        (body_came scope in_case outermost (behind field here) fields (rest_own field fields own) kept.3 test.1 each.1) names at late found before fresh is

-- What is read of fields goes on from left to right: names only grow, places stay in the resource, fields that have the same
-- width in every row have it, and labels that were near stand where they were seen.
use Rattle.std.proofs.Common.{◌≡◌, ℕ, ◌+◌, ◌*◌, ◌≤◌, ℤ, pos, Bool, true, false, ◌&&◌, List, [], ◌∷◌, length, Option, Some, None, refl, sym, ap, ◌∙◌, subst, arith}
use Rattle.std.specs.Prelude.{if◌then◌else◌, nat_abs, option_and_then, option_map}
use Rattle.rz_core.specs.declared.facts.Facts.{Facts}
use Rattle.rz_core.specs.declared.resource.Word.{Word}
use Rattle.rz_expr.specs.Environment.{count_key, place_of, Environment, IsPartOf, Key}
use Rattle.rz_types_fields.specs.Field.{case_and, field_and, no_cases, no_fields, Align, Array, Fill, Label, Number, PlainBody, PlainCases, PlainField, Points, Switch, Text}
use Rattle.rz_types_fields.specs.Front.{names_inside, stated_in}
use Rattle.rz_types_fields.specs.Passed.{declares, gives_rows, is_label, met_behind, met_inside, Names}
use Rattle.rz_types_fields.specs.RowLabels.{also_rows, is_row, row_number, row_of, rows_give, RowOf}
use Rattle.rz_types_fields.proofs.RowKeys.{placed_none}
use Rattle.rz_types_fields.specs.Piece.{pieces_of}
use Rattle.rz_types_fields.specs.Row.{IsStated}
use Rattle.rz_types_fields.specs.Sees.{Late}
use Rattle.rz_types_fields.specs.Shape.{are_cases_shaped, are_shaped, is_none_or, is_own_name, is_shaped}
use Rattle.rz_types_fields.specs.Spells.{put, RowsSpell, RowSpells}
use Rattle.rz_types_fields.specs.Width.{case_keys, fixed_width, fixed_widths, plus, rows_width, text_width}
use Rattle.rz_types_fields.specs.declared.tree.Tree.{Tree}
use Rattle.rz_types_fields.specs.declared.tree.Tree.TheVariants as trees
use Rattle.rz_unlay_pieces.specs.Ahead.{behind_measured, near_place}
use Rattle.rz_unlay.specs.Pieces.{field_of_pieces, pieces_found, value_of_field, with_value, Found}
use Rattle.rz_unlay_pieces.specs.Pieces.{claim, claim_count, here_at, label_step, Here, Step}
use Rattle.rz_unlay.specs.Cursor.{body_found, case_found, count_known, field_found, has_keys, line_of, rows_by, Line, Lines, ReadsRow}
use Rattle.rz_unlay.proofs.Ahead.{HasPlaces}
use Rattle.rz_unlay.proofs.Asked.{not_label, of_rows, rows_no_place}
use Rattle.rz_unlay.proofs.Claims.{claim_came}
use Rattle.rz_unlay.proofs.Fresh.{no_rows}
use Rattle.rz_core.proofs.Tests.{true_false}
use Rattle.rz_unlay.proofs.OnwardPieces.{field_goes, points_behind, Goes}
use Rattle.rz_unlay.proofs.ReadsNames.{not_declared}
use Rattle.rz_unlay.proofs.ReadsTests.{and_then, both_true, by_case, if_false, if_true, mapped, none_is, some_same}
use Rattle.rz_unlay.proofs.RowsRead.{if_either, lines_came}
use Rattle.rz_unlay.proofs.Told.{same_part}

-- `true` and `false` keep their values in a body.

pub places_within : (in_case : Bool) (which : Option RowOf) (body : PlainBody) (names : Environment) → are_shaped in_case body ≡ true → HasPlaces names → HasPlaces (names_inside which body names)
places_within in_case which body names shaped has name value is =
    if_false (is_row which (place_of name)) (row_number which) (if declares body (place_of name) then stated_in body (place_of name) else names.give (place_of name)) (placed_none which name)
    ∙ if_false (declares body (place_of name)) (stated_in body (place_of name)) (names.give (place_of name)) (not_declared in_case body name value shaped is) ∙ has name value is

-- Names that aren't of rows stay.

-- what is known stays so, but for names of rows
pub record Keeps (names more : Environment) : Type 0 where
  pub give : (key : Key) (value : ℤ) → of_rows key ≡ false → names.give key ≡ Some value → more.give key ≡ Some value

pub keeps_part : (names more : Environment) → IsPartOf names more → Keeps names more
keeps_part names more part = record { give = λ key value plain is. part.give key value is }

pub keeps_then : (a b c : Environment) → Keeps a b → Keeps b c → Keeps a c
keeps_then a b c one other = record { give = λ key value plain is. other.give key value plain (one.give key value plain is) }

-- so `true` and `false` keep their values
pub places_stay : (names more : Environment) → Keeps names more → HasPlaces names → HasPlaces more
places_stay names more kept has = λ name value is. kept.give _ value refl (has name value is)

-- what was read: more is known after it, and its end lies in the resource, just there where it is known
pub record Passes (len : ℕ) (names more : Environment) (after : ℕ) (known : Option ℕ) : Type 0 where
  pub kept : Keeps names more
  pub within : after ≤ len
  pub is : (next : ℕ) → known ≡ Some next → after ≡ next

passes_on : (len : ℕ) (names : Environment) (known : Option ℕ) (step : Step) → Goes len names known step → Passes len names step.names step.after known
passes_on len names known step it = record { kept = keeps_part names step.names it.kept; within = it.within; is = it.is }

-- Rows.

-- a row ends in the resource, and where the width of its fields is fixed, it has it
abbrev Reaches : ℕ → Option ℕ → ℕ → ℕ → Type 0
Reaches len width at after = (after ≤ len) × ((bits : ℕ) → width ≡ Some bits → after ≡ at + bits)

module _ (len : ℕ) (width : Option ℕ) (row : ReadsRow) (one : (number at : ℕ) (late : Late) (line : Line) → at ≤ len → row number at late ≡ Some line → Reaches len width at line.after) where
  abbrev HasWidth : ℕ → List Tree → RowSpells
  HasWidth number line at late after late_after = (bits : ℕ) → width ≡ Some bits → after ≡ at + bits

  rows_reach : (number : ℕ) (rows : List (List Tree)) (at : ℕ) (late : Late) (after : ℕ) (late_after : Late) → RowsSpell HasWidth number rows at late after late_after
      → (bits : ℕ) → width ≡ Some bits → after ≡ at + length rows * bits
  rows_reach number [] at late after late_after it bits so = let same = it.0 in omega (arith, same)
  rows_reach number (line ∷ rows) at late after late_after it bits so =
      let first = it.2 bits so in
      let more = rows_reach (number + 1) rows it.0 it.1 after late_after it.3 bits so in
      omega (arith, first, more)

  -- rows whose number is stated are as wide as they all are
  stated_reach : (count : Option ℤ) (rows at after : ℕ) → IsStated count rows → ((bits : ℕ) → width ≡ Some bits → after ≡ at + rows * bits)
      → (bits : ℕ) → rows_width count width ≡ Some bits → after ≡ at + bits
  stated_reach None rows at after stated each bits so = absurd (none_is bits so)
  stated_reach (Some count) rows at after stated each bits so =
      let one = mapped (λ bits. nat_abs count * bits) width bits so in
      each one.0 one.1 ∙ ap (λ (n : ℤ). at + nat_abs n * one.0) (sym stated) ∙ ap (λ (n : ℕ). at + n) one.2

  known_reach : (rest : PlainBody) (names : Environment) (name : Option Word) (count : Option ℤ) (at : ℕ) (late : Late) (lines : Lines) → at ≤ len
      → rows_by row len rest names (count_known names name count) at late ≡ Some lines → Reaches len (rows_width count width) at lines.after
  known_reach rest names name count at late lines inside is =
      let it = lines_came len row HasWidth one rest names name count at late lines inside is in
      (it.1.0, stated_reach count (length lines.rows) at lines.after it.0 (rows_reach 1 lines.rows at late lines.after lines.late it.1.1))

-- Fields.

pub label_plain : (field : PlainField) (key : Key) → is_label field key ≡ true → of_rows key ≡ false
label_plain field key label =
    by_case (of_rows key) (λ of. absurd (true_false (sym label ∙ not_label field key (rows_no_place key of)))) (λ plain. plain)

-- what was read of a field: a label stands at its place
pub record FieldGoes (len : ℕ) (field : PlainField) (names : Environment) (at : ℕ) (step : Step) : Type 0 where
  pub goes : Passes len names step.names step.after (behind_measured field at)
  pub label : (key : Key) → is_label field key ≡ true → step.names.give key ≡ Some (pos at)

-- and of a body: those that were near stand in the resource
pub record BodyGoes (len : ℕ) (body : PlainBody) (names : Environment) (at : ℕ) (found : Found) : Type 0 where
  pub goes : Passes len names found.names found.after (option_map (λ width. at + width) (fixed_widths body))
  pub near : (key : Key) (place : ℕ) → near_place body at key ≡ Some place → (found.names.give key ≡ Some (pos place)) × (place ≤ len)

other_known : (len : ℕ) (names : Environment) (one other : Option ℕ) (step : Step) → one ≡ other → Goes len names one step → Goes len names other step
other_known len names one other step same it = record { kept = it.kept; within = it.within; is = λ next so. it.is next (same ∙ so) }

-- the place after a field of fixed width
measured : (field : PlainField) (at width : ℕ) → fixed_width field ≡ Some width → behind_measured field at ≡ Some (at + width)
measured (Number number) at width is = ap (option_map (λ bits. at + bits)) is
measured (Text text) at width is = ap (option_map (λ bits. at + bits)) is
measured (Points points) at width is = ap (option_map (λ bits. at + bits)) is
measured (Fill unit count) at width is = ap (option_map (λ bits. at + bits)) is
measured (Align unit) at width is = absurd (none_is width is)
measured (Label name) at width is = ap (option_map (λ bits. at + bits)) is
measured (Array name count row) at width is = ap (option_map (λ bits. at + bits)) is
measured (Switch cases) at width is = absurd (none_is width is)

one_behind : (width : Option ℕ) (at : ℕ) → option_and_then (λ next. Some next) (option_map (λ bits. at + bits) width) ≡ option_map (λ bits. at + bits) width
one_behind None at = refl
one_behind (Some bits) at = refl

body_goes : (len : ℕ) (field : PlainField) (fields : PlainBody) (names : Environment) (at : ℕ) (step : Step) (inner found : Found) → at ≤ len
    → FieldGoes len field names at step → BodyGoes len fields step.names step.after inner → inner.after ≡ found.after → inner.names ≡ found.names → BodyGoes len (field_and field fields) names at found
body_goes len field fields names at step inner found inside one others same_after same_names = record {
  goes = record {
    kept = subst (Keeps names) same_names (keeps_then names step.names inner.names one.goes.kept others.goes.kept);
    within = subst (λ (n : ℕ). n ≤ len) same_after others.goes.within;
    is = λ next so. sym same_after ∙ both (fixed_width field) (fixed_widths fields) (λ width is. one.goes.is (at + width) (measured field at width is)) others.goes.is next so;
  };
  near = λ key place is.
      let it = by_case (is_label field key) (own key place is) (later key place is) in
      (ap (λ (known : Environment). known.give key) (sym same_names) ∙ it.0, it.1);
}
  where
    both : (o m : Option ℕ) → ((width : ℕ) → o ≡ Some width → step.after ≡ at + width) → ((next : ℕ) → option_map (λ width. step.after + width) m ≡ Some next → inner.after ≡ next)
        → (next : ℕ) → option_map (λ width. at + width) (plus o m) ≡ Some next → inner.after ≡ next
    both None m first rest next so = absurd (none_is next so)
    both (Some x) None first rest next so = absurd (none_is next so)
    both (Some x) (Some y) first rest next so =
        let a = first x refl in let b = rest (step.after + y) refl in let c = some_same (at + (x + y)) next so in omega (arith, a, b, c)

    own : (key : Key) (place : ℕ) → near_place (field_and field fields) at key ≡ Some place → is_label field key ≡ true → (inner.names.give key ≡ Some (pos place)) × (place ≤ len)
    own key place is label =
        let same : at ≡ place = some_same at place (sym (if_true (is_label field key) (Some at) _ label) ∙ is) in
        (others.goes.kept.give key (pos place) (label_plain field key label) (one.label key label ∙ ap (λ (n : ℕ). Some (pos n)) same), subst (λ (n : ℕ). n ≤ len) same inside)

    later : (key : Key) (place : ℕ) → near_place (field_and field fields) at key ≡ Some place → is_label field key ≡ false → (inner.names.give key ≡ Some (pos place)) × (place ≤ len)
    later key place is none =
        let behind = and_then (λ next. near_place fields next key) (behind_measured field at) place (sym (if_false (is_label field key) (Some at) _ none) ∙ is) in
        others.near key place (ap (λ (n : ℕ). near_place fields n key) (one.goes.is behind.0 behind.1) ∙ behind.2)

-- The place of a label.

pub label_there : (here : Here) (name : Word) (names : Environment) (at : ℕ) (late : Late) (step : Step) → field_of_pieces here (Label name) names at late ≡ Some step
    → (key : Key) → is_label (Label name) key ≡ true → step.names.give key ≡ Some (pos at)
label_there here name names at late step is key label =
    let it = mapped (λ f. record { value = value_of_field (Label name) f.row; after = f.after; names = f.names; late = f.late }) (pieces_found here (pieces_of (Label name)) names at late) step is in
    let one = and_then (λ s. with_value s.value (pieces_found here [] s.names s.after s.late)) (label_step name names at late) it.0 it.1 in
    let claimed = mapped (λ more. record { value = None; after = at; names = more; late = late }) (claim _ (pos at) names) one.0 one.1 in
    let more : Environment = claimed.0 in
    subst (λ (s : Step). s.names.give key ≡ Some (pos at)) it.2
    (ap (λ (f : Found). f.names.give key) (sym (some_same _ it.0 one.2))
    ∙ subst (λ (s : Step). s.names.give key ≡ Some (pos at)) claimed.2 ((claim_came _ (pos at) names more claimed.1).has key label))

-- Names after rows.

pub rows_stay : (row : PlainBody) (ends : List Environment) (names more : Environment) → Keeps names more → Keeps names (also_rows row ends more)
rows_stay row ends names more kept = record {
  give = λ key value plain is. if_false (gives_rows row key) (rows_give ends key) (more.give key) (no_rows row key plain) ∙ kept.give key value plain is;
}

module _ (facts : Facts) (all : List Bool) where
  abbrev pub FieldsGo : PlainField → Type 0
  FieldsGo field = (in_case : Bool) (rest : PlainBody) (met : Names) (names : Environment) (at : ℕ) (late : Late) (step : Step) → is_shaped in_case field ≡ true → HasPlaces names → at ≤ length all
      → field_found facts all rest met field names at late ≡ Some step → FieldGoes (length all) field names at step

  abbrev pub BodiesGo : PlainBody → Type 0
  BodiesGo body = (in_case : Bool) (met : Names) (names : Environment) (at : ℕ) (late : Late) (found : Found) → are_shaped in_case body ≡ true → HasPlaces names → at ≤ length all
      → body_found facts all met body names at late ≡ Some found → BodyGoes (length all) body names at found

  abbrev CasesGo : PlainCases → Type 0
  CasesGo cases = (met : Names) (names : Environment) (at : ℕ) (late : Late) (step : Step) → are_cases_shaped cases ≡ true → HasPlaces names → at ≤ length all
      → case_found facts all met cases names at late ≡ Some step → (names ≡ step.names) × (step.after ≤ length all)

  -- a row within
  line_reaches : (in_case : Bool) (which : Option RowOf) (row : PlainBody) (met : Names) (names : Environment) → BodiesGo row → are_shaped in_case row ≡ true → HasPlaces names → (at : ℕ) (late : Late) (line : Line) → at ≤ length all
      → line_of (body_found facts all (met_inside row met) row (names_inside which row names) at late) ≡ Some line → Reaches (length all) (fixed_widths row) at line.after
  line_reaches in_case which row met names go shaped has at late line inside is =
      let it = mapped (λ f. record { row = f.row; own = f.names; after = f.after; late = f.late }) (body_found facts all (met_inside row met) row (names_inside which row names) at late) line is in
      let one = (go in_case (met_inside row met) (names_inside which row names) at late it.0 shaped (places_within in_case which row names shaped has) inside it.1).goes in
      subst (λ (l : Line). Reaches (length all) (fixed_widths row) at l.after) it.2
      (one.within, λ bits so. one.is (at + bits) (ap (option_map (λ width. at + width)) so))

  array_goes : (name : Option Word) (count : Option ℤ) (row : PlainBody) → BodiesGo row → FieldsGo (Array name count row)
  array_goes name count row go in_case rest met names at late step shaped has inside is =
      let test = both_true (is_none_or is_own_name name) (are_shaped false row) shaped in
      let reads : ReadsRow = λ number place marks. line_of (body_found facts all (met_inside row met) row (names_inside (row_of name number) row names) place marks) in
      let one = and_then (λ lines. option_map (λ more. record { value = Some (trees.Rows lines.rows); after = lines.after; names = also_rows row lines.ends more; late = lines.late }) (claim_count name (length lines.rows) names))
      (rows_by reads (length all) rest names (count_known names name count) at late) step is in
      let lines : Lines = one.0 in
      let two = mapped (λ more. record { value = Some (trees.Rows lines.rows); after = lines.after; names = also_rows row lines.ends more; late = lines.late }) (claim_count name (length lines.rows) names) step one.2 in
      let reach = known_reach (length all) (fixed_widths row) reads
      (λ number place marks line within found. line_reaches false (row_of name number) row met names go test.1 has place marks line within found) rest names name count at late lines inside one.1 in
      subst (FieldGoes (length all) (Array name count row) names at) two.2 (record {
        goes = record {
          kept = rows_stay row lines.ends names two.0 (keeps_part names two.0 (kept name (length lines.rows) two.0 two.1));
          within = reach.0;
          is = λ next so. let width = mapped (λ bits. at + bits) (rows_width count (fixed_widths row)) next so in reach.1 width.0 width.1 ∙ width.2;
        };
        label = λ key label. absurd cc;
      })
    where
      kept : (name : Option Word) (rows : ℕ) (more : Environment) → claim_count name rows names ≡ Some more → IsPartOf names more
      kept None rows more so = subst (IsPartOf names) (some_same names more so) (same_part names)
      kept (Some word) rows more so = (claim_came (count_key word.bytes) (pos rows) names more so).kept

  switch_goes : (cases : PlainCases) → CasesGo cases → FieldsGo (Switch cases)
  switch_goes cases go in_case rest met names at late step shaped has inside is =
      let it = go met names at late step shaped has inside is in
      record {
        goes = record { kept = subst (Keeps names) it.0 (keeps_part names names (same_part names)); within = it.1; is = λ next so. absurd (none_is next so) };
        label = λ key label. absurd cc;
      }

  case_goes : (name : Word) (row : PlainBody) (others : PlainCases) → BodiesGo row → CasesGo others → CasesGo (case_and name row others)
  case_goes name row others one more met names at late step shaped has inside is =
      let test = both_true (is_own_name name) (are_shaped true row && are_cases_shaped others) shaped in
      let both = both_true (are_shaped true row) (are_cases_shaped others) test.1 in
      if_either (has_keys all at (case_keys row)) _ (case_found facts all met others names at late) step
      (λ chosen.
      let it = mapped (λ f. record { value = Some (trees.Choice name f.row); after = f.after; names = names; late = f.late }) (body_found facts all (met_inside row met) row (names_inside None row names) at late) step chosen in
      let goes = (one true (met_inside row met) (names_inside None row names) at late it.0 both.0 (places_within true None row names both.0 has) inside it.1).goes in
      subst (λ (s : Step). (names ≡ s.names) × (s.after ≤ length all)) it.2 (refl, goes.within))
      (λ later. more met names at late step both.1 has inside later)
      is

  first_and_others : (field : PlainField) (fields : PlainBody) → FieldsGo field → BodiesGo fields → BodiesGo (field_and field fields)
  first_and_others field fields one others in_case met names at late found shaped has inside is =
      let test = both_true (is_shaped in_case field) (are_shaped in_case fields) shaped in
      let first = and_then (λ step. with_value step.value (body_found facts all (met_behind field met) fields step.names step.after step.late)) (field_found facts all fields met field names at late) found is in
      let step : Step = first.0 in
      let more = mapped (λ f. record { row = put step.value f.row; after = f.after; names = f.names; late = f.late }) (body_found facts all (met_behind field met) fields step.names step.after step.late) found first.2 in
      let here = one in_case fields met names at late step test.0 has inside first.1 in
      let behind = others in_case (met_behind field met) step.names step.after step.late more.0 test.1 (places_stay names step.names here.goes.kept has) here.goes.within more.1 in
      body_goes (length all) field fields names at step more.0 found inside here behind (ap (λ (f : Found). f.after) more.2) (ap (λ (f : Found). f.names) more.2)

  mutual
    pub field_on : (field : PlainField) → FieldsGo field
    field_on (Number number) in_case rest met names at late step shaped has inside is = record {
      goes = passes_on (length all) names _ step (field_goes (here_at facts all (Number number) rest at met) (Number number) names at late step has inside is);
      label = λ key label. absurd cc;
    }
    field_on (Text text) in_case rest met names at late step shaped has inside is = record {
      goes = passes_on (length all) names _ step (other_known (length all) names _ _ step (one_behind (text_width text.form text.size) at) (field_goes (here_at facts all (Text text) rest at met) (Text text) names at late step has inside is));
      label = λ key label. absurd cc;
    }
    field_on (Points points) in_case rest met names at late step shaped has inside is = record {
      goes = passes_on (length all) names _ step (other_known (length all) names _ _ step (points_behind points.rect points.fixed at shaped) (field_goes (here_at facts all (Points points) rest at met) (Points points) names at late step has inside is));
      label = λ key label. absurd cc;
    }
    field_on (Fill unit count) in_case rest met names at late step shaped has inside is = record {
      goes = passes_on (length all) names _ step (field_goes (here_at facts all (Fill unit count) rest at met) (Fill unit count) names at late step has inside is);
      label = λ key label. absurd cc;
    }
    field_on (Align unit) in_case rest met names at late step shaped has inside is = record {
      goes = passes_on (length all) names _ step (field_goes (here_at facts all (Align unit) rest at met) (Align unit) names at late step has inside is);
      label = λ key label. absurd cc;
    }
    field_on (Label name) in_case rest met names at late step shaped has inside is = record {
      goes = passes_on (length all) names _ step (other_known (length all) names (Some at) (Some (at + 0)) step (ap (λ (n : ℕ). Some n) (omega (arith))) (field_goes (here_at facts all (Label name) rest at met) (Label name) names at late step has inside is));
      label = label_there (here_at facts all (Label name) rest at met) name names at late step is;
    }
    field_on (Array name count row) in_case rest met names at late step shaped has inside is = array_goes name count row (body_on row) in_case rest met names at late step shaped has inside is
    field_on (Switch cases) in_case rest met names at late step shaped has inside is = switch_goes cases (cases_on cases) in_case rest met names at late step shaped has inside is

    cases_on : (cases : PlainCases) → CasesGo cases
    cases_on no_cases met names at late step shaped has inside is = absurd (none_is step is)
    cases_on (case_and name row others) met names at late step shaped has inside is = case_goes name row others (body_on row) (cases_on others) met names at late step shaped has inside is

    pub body_on : (body : PlainBody) → BodiesGo body
    body_on no_fields in_case met names at late found shaped has inside is =
        subst (BodyGoes (length all) no_fields names at) (some_same (record { row = []; after = at; names = names; late = late }) found is) (record {
          goes = record { kept = keeps_part names names (same_part names); within = inside; is = λ next so. (let same = some_same (at + 0) next so in omega (arith, same)) };
          near = λ key place none. absurd (none_is place none);
        })
    body_on (field_and field fields) in_case met names at late found shaped has inside is =
        first_and_others field fields (field_on field) (body_on fields) in_case met names at late found shaped has inside is

  -- the labels that were near stand where they were seen, in the resource
  pub near_read : (in_case : Bool) (body : PlainBody) (met : Names) (names : Environment) (at : ℕ) (late : Late) (found : Found) → are_shaped in_case body ≡ true → HasPlaces names → at ≤ length all
      → body_found facts all met body names at late ≡ Some found → (key : Key) (place : ℕ) → near_place body at key ≡ Some place → (found.names.give key ≡ Some (pos place)) × (place ≤ length all)
  near_read in_case body met names at late found shaped has inside is = (body_on body in_case met names at late found shaped has inside is).near

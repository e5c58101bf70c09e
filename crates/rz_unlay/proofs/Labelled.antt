-- The labels that stand directly in a body have places after it.
use Rattle.std.proofs.Common.{◌≡◌, ℕ, ◌+◌, ◌<◌, ◌≤◌, ℤ, pos, Bool, true, false, ◌||◌, List, [], ◌++◌, length, get_or, drop, Some, refl, sym, subst, append_assoc}
use Rattle.std.specs.Prelude.{option_map}
use Rattle.std.proofs.lemmas.List.{append-nil}
use Rattle.rz_core.specs.declared.facts.Facts.{Facts}
use Rattle.rz_expr.specs.Environment.{place_key, place_of, Environment, Key}
use Rattle.rz_types_fields.specs.declared.field.Field.{Field}
use Rattle.rz_types_fields.specs.declared.tree.Tree.TheVariants as trees
use Rattle.rz_types_fields.proofs.Bodies.{body_end, body_next}
use Rattle.rz_types_fields.proofs.SameNames.{key_itself}
use Rattle.rz_types_fields.specs.Field.{field_and, no_fields, plain_body, plain_field, Align, Array, Fill, Label, Number, PlainBody, PlainField, Points, Switch, Text}
use Rattle.rz_types_fields.specs.FlatRows.{PlacesAre}
use Rattle.rz_types_fields.specs.Front.{names_inside}
use Rattle.rz_types_fields.specs.Passed.{has_label, is_label, met_behind, met_inside, Names}
use Rattle.rz_types_fields.specs.RowLabels.{also_rows, row_of}
use Rattle.rz_types_fields.specs.Sees.{Late}
use Rattle.rz_types_fields.specs.Spells.{put}
use Rattle.rz_unlay.specs.Cursor.{body_found, count_known, field_found, line_of, rows_by, Lines, ReadsRow}
use Rattle.rz_unlay.specs.Pieces.{with_value, Found}
use Rattle.rz_unlay.specs.Rows.{label_places}
use Rattle.rz_unlay_pieces.specs.Pieces.{claim_count, here_at, Step}
use Rattle.rz_unlay.proofs.Onward.{keeps_part, keeps_then, label_plain, label_there, rows_stay, Keeps}
use Rattle.rz_unlay.proofs.ReadsTests.{and_then, mapped, some_same}
use Rattle.rz_unlay.proofs.RowsStay.{cases_stay, count_stays, of_pieces_stays}
use Rattle.rz_unlay.proofs.Told.{same_part}

-- each of them has one
abbrev pub AreLabelled : PlainBody → Environment → Type 0
AreLabelled body names = (label : List ℕ) → has_label body label ≡ true → (place : ℤ) × (names.give (place_of label) ≡ Some place)

module _ (facts : Facts) (all : List Bool) where
  -- after a field what was known stays so
  pub field_keeps : (rest : PlainBody) (met : Names) (field : PlainField) (names : Environment) (at : ℕ) (late : Late) (step : Step) → field_found facts all rest met field names at late ≡ Some step → Keeps names step.names
  field_keeps rest met (Number number) names at late step is = keeps_part names step.names (of_pieces_stays (here_at facts all (Number number) rest at met) (Number number) names at late step is).kept
  field_keeps rest met (Text text) names at late step is = keeps_part names step.names (of_pieces_stays (here_at facts all (Text text) rest at met) (Text text) names at late step is).kept
  field_keeps rest met (Points points) names at late step is = keeps_part names step.names (of_pieces_stays (here_at facts all (Points points) rest at met) (Points points) names at late step is).kept
  field_keeps rest met (Fill unit count) names at late step is = keeps_part names step.names (of_pieces_stays (here_at facts all (Fill unit count) rest at met) (Fill unit count) names at late step is).kept
  field_keeps rest met (Align unit) names at late step is = keeps_part names step.names (of_pieces_stays (here_at facts all (Align unit) rest at met) (Align unit) names at late step is).kept
  field_keeps rest met (Label name) names at late step is = keeps_part names step.names (of_pieces_stays (here_at facts all (Label name) rest at met) (Label name) names at late step is).kept
  field_keeps rest met (Array name count row) names at late step is =
      let reads : ReadsRow = λ number place marks. line_of (body_found facts all (met_inside row met) row (names_inside (row_of name number) row names) place marks) in
      let one = and_then (λ lines. option_map (λ more. record { value = Some (trees.Rows lines.rows); after = lines.after; names = also_rows row lines.ends more; late = lines.late }) (claim_count name (length lines.rows) names))
      (rows_by reads (length all) rest names (count_known names name count) at late) step is in
      let lines : Lines = one.0 in
      let two = mapped (λ more. record { value = Some (trees.Rows lines.rows); after = lines.after; names = also_rows row lines.ends more; late = lines.late }) (claim_count name (length lines.rows) names) step one.2 in
      let more : Environment = two.0 in
      subst (λ (s : Step). Keeps names s.names) two.2 (rows_stay row lines.ends names more (keeps_part names more (count_stays name (length lines.rows) names more two.1).kept))
  field_keeps rest met (Switch cases) names at late step is = keeps_part names step.names (cases_stay facts all met cases names at late step is).kept

  -- and a label has its place
  pub field_label : (rest : PlainBody) (met : Names) (field : PlainField) (names : Environment) (at : ℕ) (late : Late) (step : Step) → field_found facts all rest met field names at late ≡ Some step
      → (key : Key) → is_label field key ≡ true → step.names.give key ≡ Some (pos at)
  field_label rest met (Number number) names at late step is key label = absurd cc
  field_label rest met (Text text) names at late step is key label = absurd cc
  field_label rest met (Points points) names at late step is key label = absurd cc
  field_label rest met (Fill unit count) names at late step is key label = absurd cc
  field_label rest met (Align unit) names at late step is key label = absurd cc
  field_label rest met (Label name) names at late step is key label = label_there (here_at facts all (Label name) rest at met) name names at late step is key label
  field_label rest met (Array name count row) names at late step is key label = absurd cc
  field_label rest met (Switch cases) names at late step is key label = absurd cc

  -- so after a body
  abbrev After : PlainBody → Environment → Found → Type 0
  After body names found = Keeps names found.names × AreLabelled body found.names

  after_first : (field : PlainField) (fields : PlainBody) (names : Environment) (at : ℕ) (step : Step) (inner : Environment) → Keeps names step.names → ((key : Key) → is_label field key ≡ true → step.names.give key ≡ Some (pos at))
      → Keeps step.names inner × AreLabelled fields inner → Keeps names inner × AreLabelled (field_and field fields) inner
  after_first field fields names at step inner kept stands others = (
    keeps_then names step.names inner kept others.0,
    λ label has. by label (is_label field (place_of label)) refl has,
  )
    where
      by : (label : List ℕ) (test : Bool) → is_label field (place_of label) ≡ test → (test || has_label fields label) ≡ true → (place : ℤ) × (inner.give (place_of label) ≡ Some place)
      by label true is has = (pos at, others.0.give (place_of label) (pos at) refl (stands (place_of label) is))
      by label false is has = others.1 label has

  body_after : (body : PlainBody) (met : Names) (names : Environment) (at : ℕ) (late : Late) (found : Found) → body_found facts all met body names at late ≡ Some found → After body names found
  body_after no_fields met names at late found is =
      subst (After no_fields names) (some_same (record { row = []; after = at; names = names; late = late }) found is) (keeps_part names names (same_part names), λ label has. absurd cc)
  body_after (field_and field fields) met names at late found is =
      let first = and_then (λ step. with_value step.value (body_found facts all (met_behind field met) fields step.names step.after step.late)) (field_found facts all fields met field names at late) found is in
      let step : Step = first.0 in
      let more = mapped (λ f. record { row = put step.value f.row; after = f.after; names = f.names; late = f.late }) (body_found facts all (met_behind field met) fields step.names step.after step.late) found first.2 in
      let inner : Found = more.0 in
      subst (After (field_and field fields) names) more.2
      (after_first field fields names at step inner.names (field_keeps fields met field names at late step first.1) (field_label fields met field names at late step first.1)
      (body_after fields (met_behind field met) step.names step.after step.late inner more.1))

  pub body_labels : (body : PlainBody) (met : Names) (names : Environment) (at : ℕ) (late : Late) (found : Found) → body_found facts all met body names at late ≡ Some found → AreLabelled body found.names
  body_labels body met names at late found is = (body_after body met names at late found is).1

-- The places of labels, one field more at a time.

label_first : (own : Environment) (field : PlainField) (fields : PlainBody) (at : ℕ) (more : List ℤ) → ((key : Key) → is_label field key ≡ true → own.give key ≡ Some (pos at)) → PlacesAre own fields more
    → PlacesAre own (field_and field fields) (label_places field at ++ more)
label_first own (Number number) _ at more stands are = are
label_first own (Text text) _ at more stands are = are
label_first own (Points points) _ at more stands are = are
label_first own (Fill unit count) _ at more stands are = are
label_first own (Align unit) _ at more stands are = are
label_first own (Label name) _ at more stands are = (stands (place_key name.bytes) (key_itself (place_key name.bytes)), are)
label_first own (Array name count row) _ at more stands are = are
label_first own (Switch cases) _ at more stands are = are

-- these are the places of the labels in so many of the fields: with those of the labels in the others they are those of all
abbrev pub Placed : Environment → List Field → ℕ → List ℤ → Type 0
Placed names fields i places = (own : Environment) (more : List ℤ) → Keeps names own → PlacesAre own (plain_body (drop i fields)) more → PlacesAre own (plain_body fields) (places ++ more)

pub none_placed : (names : Environment) (fields : List Field) (places : List ℤ) → places ≡ [] → Placed names fields 0 places
none_placed names fields places none own more keeps are = subst (λ (ps : List ℤ). PlacesAre own (plain_body fields) (ps ++ more)) (sym none) are

pub placed_more : (fields : List Field) (i : ℕ) (field : Field) → i < length fields → field ≡ get_or fields i field → (places : List ℤ) (names next : Environment) (at : ℕ) → Keeps names next
    → ((key : Key) → is_label (plain_field field) key ≡ true → next.give key ≡ Some (pos at)) → Placed names fields i places → Placed next fields (i + 1) (places ++ label_places (plain_field field) at)
placed_more fields i field less item places names next at kept stands placed own more keeps are =
    let these = label_places (plain_field field) at in
    subst (PlacesAre own (plain_body fields)) (sym (append_assoc places these more))
    (placed own (these ++ more) (keeps_then names next own kept keeps)
    (subst (λ (b : PlainBody). PlacesAre own b (these ++ more)) (sym (body_next fields i field less item))
    (label_first own (plain_field field) (plain_body (drop (i + 1) fields)) at more (λ key label. keeps.give key (pos at) (label_plain (plain_field field) key label) (stands key label)) are)))

pub all_placed : (fields : List Field) (i : ℕ) → length fields ≤ i → (places : List ℤ) (names : Environment) → Placed names fields i places → PlacesAre names (plain_body fields) places
all_placed fields i past places names placed =
    subst (PlacesAre names (plain_body fields)) (append-nil places)
    (placed names [] (keeps_part names names (same_part names)) (subst (λ (b : PlainBody). PlacesAre names b []) (sym (body_end fields i past)) refl))

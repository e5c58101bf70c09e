-- After a body that is laid each label in it stands at a place that a resource may have.
use Rattle.std.proofs.Common.{◌≡◌, ℕ, ◌+◌, ◌≤◌, ℤ, pos, Bool, true, false, ◌||◌, List, [], ◌∷◌, length, Option, Some, None, Result, Ok, refl, sym, ap, subst, ◌∙◌, arith}
use Rattle.std.specs.Prelude.{if◌then◌else◌}
use Rattle.std.specs.List.{AllByRecursion}
use Rattle.rz_core.proofs.Tests.{true_false}
use Rattle.rz_core.specs.declared.facts.Facts.{Facts}
use Rattle.rz_core.specs.declared.resource.Word.{Word}
use Rattle.rz_expr.specs.Environment.{place_key, place_of, Environment}
use Rattle.rz_types_fields.proofs.SameNames.{key_is, key_itself}
use Rattle.rz_types_fields.specs.declared.tree.Tree.{Tree}
use Rattle.rz_types_fields.specs.Field.{case_and, field_and, no_cases, no_fields, takes_value, Align, Array, Fill, Label, Number, PlainBody, PlainCases, PlainField, Points, Switch, Text}
use Rattle.rz_types_fields.specs.Laid.{body_laid, case_laid, field_laid, first_value, in_order, later, lay, line_in, now, other_values, piece_form, pieces_laid, placed, row_ended, row_laid, rows_in, rows_laid, takes_one, with_form, AllRows, Draft, Ended, Form, Refusal}
use Rattle.rz_types_fields.specs.Passed.{has_label, is_label}
use Rattle.rz_types_fields.specs.Piece.{pieces_of, Piece, Place}
use Rattle.rz_types_fields.specs.RowLabels.{row_of, RowOf}
use Rattle.rz_types_fields.specs.Spells.{is_case, most_bits, values_for}
use Rattle.rz_layout.specs.Places.{AreStanding, IsStanding, Stands}
use Rattle.rz_layout.proofs.Adding.{later_is, now_is}
use Rattle.rz_layout.proofs.EachRow.{array_parts, row_parts, rows_parts}
use Rattle.rz_layout.proofs.Filled.{chained, same_ok}
use Rattle.rz_layout.proofs.Fitting.{piece_is, placed_is, placed_none}
use Rattle.rz_layout.proofs.Labels.{label_given}
use Rattle.rz_layout.proofs.Texts.{good}

-- labels that stand before a step do so after it
abbrev pub Stays : Draft → Draft → Type 0
Stays draft next = (name : List ℕ) → Stands draft.known name → Stands next.known name

same_stays : (draft next : Draft) → next.known ≡ draft.known → Stays draft next
same_stays draft next same name stands = subst (λ (names : Environment). Stands names name) (sym same) stands

placed_stays : (piece : Piece) (at : ℕ) → at ≤ most_bits → (names : Environment) (name : List ℕ) → Stands names name → Stands (placed piece at names) name
placed_stays piece at within names name stands = by (piece_is piece (place_key name)) refl
  where
    by : (test : Bool) → piece_is piece (place_key name) ≡ test → Stands (placed piece at names) name
    by true own = (at, placed_is piece at names (place_key name) own, within)
    by false none = (stands.0, placed_none piece at names (place_key name) none ∙ stands.1, stands.2)

module _ (known : Facts) where
  -- Pieces.

  record PieceBehind (piece : Piece) (draft next : Draft) : Type 0 where
    names : next.known ≡ placed piece (length draft.bits) draft.known
    within : length draft.bits ≤ most_bits

  form_behind : (draft : Draft) (piece : Piece) (form : Form) (next : Draft) → with_form draft piece form ≡ Ok next → PieceBehind piece draft next
  form_behind draft piece (now bits) next is =
      let it = now_is draft piece bits next is in record { names = ap (λ (d : Draft). d.known) (sym it.1); within = (let fits = it.0 in omega (arith, fits)) }
  form_behind draft piece (later form width term) next is =
      let it = later_is draft piece form width term next is in record { names = ap (λ (d : Draft). d.known) (sym it.1); within = (let fits = it.0 in omega (arith, fits)) }

  piece_behind : (piece : Piece) (value : Option Tree) (draft next : Draft) → lay known draft piece value ≡ Ok next → PieceBehind piece draft next
  piece_behind piece value draft next is = let inner = chained (piece_form known draft piece value) (with_form draft piece) next is in form_behind draft piece inner.value next inner.leads

  piece_stays : (piece : Piece) (value : Option Tree) (draft next : Draft) → lay known draft piece value ≡ Ok next → Stays draft next
  piece_stays piece value draft next is name stands =
      let it = piece_behind piece value draft next is in
      subst (λ (names : Environment). Stands names name) (sym it.names) (placed_stays piece (length draft.bits) it.within draft.known name stands)

  pieces_stay : (pieces : List Piece) (values : List Tree) (draft next : Draft) → in_order takes_one (lay known) draft pieces values ≡ Ok next → Stays draft next
  pieces_stay [] values draft next is name stands = same_stays draft next (ap (λ (d : Draft). d.known) (sym (same_ok draft next is))) name stands
  pieces_stay (piece ∷ pieces) values draft next is name stands =
      let value = first_value (takes_one piece) values in
      let rest = other_values (takes_one piece) values in
      let inner = chained (lay known draft piece value) (λ mid. in_order takes_one (lay known) mid pieces rest) next is in
      pieces_stay pieces rest inner.value next inner.leads name (piece_stays piece value draft inner.value inner.is name stands)

  -- Rows and cases.

  row_keeps : (which : Option RowOf) (row : PlainBody) (draft : Draft) (line : List Tree) (one : Ended) → row_ended known which row draft line ≡ Ok one → one.draft.known ≡ draft.known
  row_keeps which row draft line one is = ap (λ (e : Ended). e.draft.known) (sym (row_parts known which row draft line one is).ended)

  rows_keep : (name : Option Word) (row : PlainBody) (number : ℕ) (lines : List (List Tree)) (draft : Draft) (all : AllRows) → rows_laid (λ number. row_ended known (row_of name number) row) number draft lines ≡ Ok all
      → all.draft.known ≡ draft.known
  rows_keep name row number [] draft all is = ap (λ (rows : AllRows). rows.draft.known) (sym (same_ok (record { draft = draft; ends = [] }) all is))
  rows_keep name row number (line ∷ lines) draft all is =
      let it = rows_parts (λ number. row_ended known (row_of name number) row) number draft line lines all is in
      ap (λ (rows : AllRows). rows.draft.known) (sym it.whole) ∙ rows_keep name row (number + 1) lines it.one.draft it.others it.more
      ∙ row_keeps (row_of name number) row draft line it.one it.first

  array_stays : (name : Option Word) (count : Option ℤ) (row : PlainBody) (value : Option Tree) (draft next : Draft) → field_laid known draft (Array name count row) value ≡ Ok next → Stays draft next
  array_stays name count row value draft next is label stands =
      let it = array_parts (λ number. row_ended known (row_of name number) row) row (rows_in value) draft next is in
      let same : next.known.give (place_key label) ≡ draft.known.give (place_key label) =
      ap (λ (d : Draft). d.known.give (place_key label)) (sym it.behind)
      ∙ ap (λ (names : Environment). names.give (place_key label)) (rows_keep name row 1 (rows_in value) draft it.rows it.is) in
      (stands.0, same ∙ stands.1, stands.2)

  case_keeps : (row : PlainBody) (line : List Tree) (draft next : Draft) → row_laid known None row draft line ≡ Ok next → next.known ≡ draft.known
  case_keeps row line draft next is =
      let it = chained (row_ended known None row draft line) (λ one. good one.draft) next is in
      ap (λ (d : Draft). d.known) (sym (same_ok it.value.draft next it.leads)) ∙ row_keeps None row draft line it.value it.is

  either_keeps : (draft next : Draft) (test : Bool) (this other : Result Draft Refusal) → (this ≡ Ok next → next.known ≡ draft.known) → (other ≡ Ok next → next.known ≡ draft.known)
      → (if test then this else other) ≡ Ok next → next.known ≡ draft.known
  either_keeps draft next true this other one more is = one is
  either_keeps draft next false this other one more is = more is

  cases_keep : (cases : PlainCases) (value : Option Tree) (draft next : Draft) → case_laid known draft cases value ≡ Ok next → next.known ≡ draft.known
  cases_keep no_cases value draft next is = ap (λ (d : Draft). d.known) (sym (same_ok draft next is))
  cases_keep (case_and name row others) value draft next is =
      either_keeps draft next (is_case name value) (row_laid known None row draft (line_in value)) (case_laid known draft others value)
      (λ one. case_keeps row (line_in value) draft next one) (λ other. cases_keep others value draft next other) is

  -- Fields and bodies.

  field_stays : (field : PlainField) (value : Option Tree) (draft next : Draft) → field_laid known draft field value ≡ Ok next → Stays draft next
  field_stays (Number number) value draft next is = pieces_stay (pieces_of (Number number)) (values_for (Number number) value) draft next is
  field_stays (Text text) value draft next is = pieces_stay (pieces_of (Text text)) (values_for (Text text) value) draft next is
  field_stays (Points points) value draft next is = pieces_stay (pieces_of (Points points)) (values_for (Points points) value) draft next is
  field_stays (Fill unit count) value draft next is = pieces_stay (pieces_of (Fill unit count)) (values_for (Fill unit count) value) draft next is
  field_stays (Align unit) value draft next is = pieces_stay (pieces_of (Align unit)) (values_for (Align unit) value) draft next is
  field_stays (Label name) value draft next is = pieces_stay (pieces_of (Label name)) (values_for (Label name) value) draft next is
  field_stays (Array name count row) value draft next is = array_stays name count row value draft next is
  field_stays (Switch cases) value draft next is = same_stays draft next (cases_keep cases value draft next is)

  label_stands : (name : Word) (value : Option Tree) (draft next : Draft) → pieces_laid known draft (Label name) value ≡ Ok next → Stands next.known name.bytes
  label_stands name value draft next is =
      let inner = chained (lay known draft (Place name) None) (λ mid. good mid) next is in
      let it = piece_behind (Place name) None draft inner.value inner.is in
      let key = place_key name.bytes in (
        length draft.bits,
        ap (λ (d : Draft). d.known.give key) (sym (same_ok inner.value next inner.leads)) ∙ ap (λ (names : Environment). names.give key) it.names
            ∙ label_given name (length draft.bits) draft.known key (key_itself key),
        it.within,
      )

  field_stands : (field : PlainField) (value : Option Tree) (draft next : Draft) → field_laid known draft field value ≡ Ok next → IsStanding next.known field
  field_stands (Number number) value draft next is = tt
  field_stands (Text text) value draft next is = tt
  field_stands (Points points) value draft next is = tt
  field_stands (Fill unit count) value draft next is = tt
  field_stands (Align unit) value draft next is = tt
  field_stands (Label name) value draft next is = label_stands name value draft next is
  field_stands (Array name count row) value draft next is = tt
  field_stands (Switch cases) value draft next is = tt

  body_stays : (body : PlainBody) (values : List Tree) (draft next : Draft) → body_laid known draft body values ≡ Ok next → Stays draft next
  body_stays no_fields values draft next is name stands = same_stays draft next (ap (λ (d : Draft). d.known) (sym (same_ok draft next is))) name stands
  body_stays (field_and field fields) values draft next is name stands =
      let value = first_value (takes_value field) values in
      let rest = other_values (takes_value field) values in
      let inner = chained (field_laid known draft field value) (λ mid. body_laid known mid fields rest) next is in
      body_stays fields rest inner.value next inner.leads name (field_stays field value draft inner.value inner.is name stands)

  still_standing : (field : PlainField) (mid next : Draft) → Stays mid next → IsStanding mid.known field → IsStanding next.known field
  still_standing (Number number) mid next stays stands = tt
  still_standing (Text text) mid next stays stands = tt
  still_standing (Points points) mid next stays stands = tt
  still_standing (Fill unit count) mid next stays stands = tt
  still_standing (Align unit) mid next stays stands = tt
  still_standing (Label name) mid next stays stands = stays name.bytes stands
  still_standing (Array name count row) mid next stays stands = tt
  still_standing (Switch cases) mid next stays stands = tt

  pub body_stands : (body : PlainBody) (values : List Tree) (draft next : Draft) → body_laid known draft body values ≡ Ok next → AreStanding next.known body
  body_stands no_fields values draft next is = tt
  body_stands (field_and field fields) values draft next is =
      let value = first_value (takes_value field) values in
      let rest = other_values (takes_value field) values in
      let inner = chained (field_laid known draft field value) (λ mid. body_laid known mid fields rest) next is in (
        still_standing field inner.value next (body_stays fields rest inner.value next inner.leads) (field_stands field value draft inner.value inner.is),
        body_stands fields rest inner.value next inner.leads,
      )

  -- so at the end of each row
  pub ends_stand : (name : Option Word) (row : PlainBody) (number : ℕ) (lines : List (List Tree)) (draft : Draft) (all : AllRows) → rows_laid (λ number. row_ended known (row_of name number) row) number draft lines ≡ Ok all
      → AllByRecursion (λ own. AreStanding own row) all.ends
  ends_stand name row number [] draft all is = subst (λ (rows : AllRows). AllByRecursion (λ own. AreStanding own row) rows.ends) (same_ok (record { draft = draft; ends = [] }) all is) tt
  ends_stand name row number (line ∷ lines) draft all is =
      let it = rows_parts (λ number. row_ended known (row_of name number) row) number draft line lines all is in
      let one = row_parts known (row_of name number) row draft line it.one it.first in
      subst (λ (rows : AllRows). AllByRecursion (λ own. AreStanding own row) rows.ends) it.whole (
        subst (λ (e : Ended). AreStanding e.own row) one.ended (body_stands row line _ one.inner one.is),
        ends_stand name row (number + 1) lines it.one.draft it.others it.more,
      )

-- a label of a body has its place there
one_label : (field : PlainField) (names : Environment) (label : List ℕ) → IsStanding names field → is_label field (place_of label) ≡ true → (v : ℤ) × (names.give (place_of label) ≡ Some v)
one_label (Number number) names label stands is = absurd (true_false (sym is))
one_label (Text text) names label stands is = absurd (true_false (sym is))
one_label (Points points) names label stands is = absurd (true_false (sym is))
one_label (Fill unit count) names label stands is = absurd (true_false (sym is))
one_label (Align unit) names label stands is = absurd (true_false (sym is))
one_label (Label name) names label stands is = (pos stands.0, sym (ap names.give (key_is (place_key name.bytes) (place_of label) is)) ∙ stands.1)
one_label (Array name count row) names label stands is = absurd (true_false (sym is))
one_label (Switch cases) names label stands is = absurd (true_false (sym is))

pub standing_label : (body : PlainBody) (names : Environment) (label : List ℕ) → AreStanding names body → has_label body label ≡ true → (v : ℤ) × (names.give (place_of label) ≡ Some v)
standing_label no_fields names label stand has = absurd (true_false (sym has))
standing_label (field_and field fields) names label stand has =
    by (is_label field (place_of label)) (has_label fields label) has (one_label field names label stand.0) (standing_label fields names label stand.1)
  where
    by : (one others : Bool) → (one || others) ≡ true → (one ≡ true → (v : ℤ) × (names.give (place_of label) ≡ Some v)) → (others ≡ true → (v : ℤ) × (names.give (place_of label) ≡ Some v))
        → (v : ℤ) × (names.give (place_of label) ≡ Some v)
    by true others so own more = own refl
    by false others so own more = more so

-- What is spelled is laid so: fields, rows, cases and bodies, and then the late numbers.
use Rattle.std.proofs.Common.{◌≡◌, ℕ, zero, suc, ◌+◌, ◌<◌, ℤ, Bool, true, false, ◌||◌, not, List, [], ◌∷◌, ◌++◌, length, take, drop, map, replicate, Option, Some, None, Result, Ok, refl, sym, ap, subst, ◌∙◌, arith}
use Rattle.std.specs.Prelude.{if◌then◌else◌, slice_index}
use Rattle.std.specs.List.{AllByRecursion}
use Rattle.std.specs.Option.{is_none, is_some, option_to_list}
use Rattle.std.proofs.lemmas.List.{length-take-le, take-append-drop}
use Rattle.rz_core.proofs.Tests.{both, true_false}
use Rattle.rz_core.specs.Stop.{◌>>=◌}
use Rattle.rz_core.specs.declared.facts.Facts.{Facts}
use Rattle.rz_core.specs.declared.resource.Word.{Word}
use Rattle.rz_bits.specs.Bits.{bits_of, bytes_of}
use Rattle.rz_bits.specs.BitBuf.{filled}
use Rattle.rz_expr.specs.Environment.{count_of, place_in, place_of, row_in, rows_of, Environment, Key, Sight}
use Rattle.rz_expr.specs.Term.{Term}
use Rattle.rz_types_fields.proofs.RowKeys.{placed_as_counted, undeclared as around_undeclared}
use Rattle.rz_types_fields.specs.declared.field.NumForm.{NumForm}
use Rattle.rz_types_fields.specs.declared.field.TextForm.{TextForm}
use Rattle.rz_types_fields.specs.declared.tree.Tree.{Tree}
use Rattle.rz_types_fields.specs.declared.tree.Tree.TheVariants as trees
use Rattle.rz_types_fields.specs.Field.{case_and, field_and, no_cases, no_fields, takes_value, Align, Array, Fill, Label, Number, PlainBody, PlainCases, PlainField, Points, Switch, Text}
use Rattle.rz_types_fields.specs.Front.{names_inside}
use Rattle.rz_types_fields.specs.Laid.{all_laid, and_row, body_laid, case_laid, closing, counted, each_laid, enter, entered, field_laid, fill, first_value, in_order, laid, lay, leave, line_in, nothing_laid, other_values, outside_of, pieces_laid, row_ended, row_laid, rows_in, rows_laid, takes_one, then_laid, AllRows, Draft, Ended, LateNumber, Refusal}
use Rattle.rz_types_fields.specs.Passed.{at_field, at_front, behind, behind_piece, declares, gives_key, gives_rows, has_label, nothing_passed, outside, Names, Passed}
use Rattle.rz_types_fields.specs.Piece.{fixed_integer, free_integer, integers, pieces_of, Filler, OneNumber, OneText, Piece, Place, Zeros}
use Rattle.rz_types_fields.specs.Row.{By}
use Rattle.rz_types_fields.specs.RowLabels.{is_row, row_of, RowOf}
use Rattle.rz_types_fields.specs.Sees.{sees, Late}
use Rattle.rz_types_fields.specs.Shape.{numbers_of}
use Rattle.rz_types_fields.specs.Spells.{anyhow, is_case, put, values_for, AreBytes, BodySpells, CaseSpells, FieldSpells, InOrder, Inside, IsCounted, IsGrouped, IsNumber, PieceSpells, PiecesSpell, RowsSpell, Spells, Within}
use Rattle.rz_types_fields.specs.Text.{PlainPart}
use Rattle.rz_layout.proofs.Counts.{own_is, AreCounted, FieldCounted}
use Rattle.rz_layout.proofs.Fitting.{goes_behind, goes_both, goes_done, goes_met, met_piece, piece_goes, Fits, Goes, HoldsIn, RowsGo, SamePlaces}
use Rattle.rz_layout.proofs.EachRow.{row_drafted, row_end}
use Rattle.rz_layout.proofs.Later.{is_later}
use Rattle.rz_layout.proofs.Masks.{masked}
use Rattle.rz_layout.proofs.Labels.{all_met, around_early, behind_met, entered_none, entered_row, inside_later, label_declared, label_key, met_all, met_behind, met_entered, met_front, no_row, none_later, own_later, piece_met, place_label, row_is_around, MetKnown}
use Rattle.rz_layout.proofs.Sees.{every, every_early, is_in_row, not_true, Alike, IsRowIn}
use Rattle.rz_layout.proofs.Texts.{good}
use Rattle.rz_layout.proofs.Trees.{line_is, rows_are}
use Rattle.rz_layout.proofs.Tracks.{fill_goes, tracks-map, tracks_so, Holds}

either : (P This Other : Type 0) → (This → P) → (Other → P) → (test : Bool) → By test This Other → P
either P This Other one other true it = one it
either P This Other one other false it = other it

-- Where a value is taken.

number_taken : (passed : Passed) (form : NumForm) (width : ℤ) (fixed : Option Term) (sight : Sight) (value : Option Tree) (bits : List Bool) → IsNumber form width fixed sight value bits → is_some value ≡ is_none fixed
number_taken passed form width None sight value bits it = ap is_some it.1
number_taken passed form width (Some term) sight value bits it = ap is_some it.1

bytes_taken : (form : TextForm) (known : Facts) (sight : Sight) (fixed : Option (List PlainPart)) (size : Option ℕ) (value : Option Tree) (bytes : List ℕ)
    → AreBytes known sight fixed value bytes → is_some value ≡ is_none fixed
bytes_taken form known sight None size value bytes it = ap is_some it
bytes_taken form known sight (Some parts) size value bytes it = ap is_some it.0

group_taken : (fixed : Option (List Term)) (value : Option Tree) → IsGrouped fixed value → is_some value ≡ is_none fixed
group_taken None value it = ap is_some it.1
group_taken (Some terms) value it = ap is_some it

pub first_is : (takes : Bool) (value : Option Tree) (rest : List Tree) → is_some value ≡ takes → first_value takes (put value rest) ≡ value
first_is true (Some value) rest is = refl
first_is true None rest is = absurd cc
first_is false (Some value) rest is = absurd cc
first_is false None rest is = refl

pub others_are : (takes : Bool) (value : Option Tree) (rest : List Tree) → is_some value ≡ takes → other_values takes (put value rest) ≡ rest
others_are true (Some value) rest is = refl
others_are true None rest is = absurd cc
others_are false (Some value) rest is = absurd cc
others_are false None rest is = refl

-- The pieces of a field but for a label have no places.

abbrev pub is_place : Piece → Bool
is_place (OneNumber number) = false
is_place (OneText text) = false
is_place (Zeros count) = false
is_place (Filler unit) = false
is_place (Place name) = true

abbrev pub Unplaced : List Piece → Type 0
Unplaced pieces = AllByRecursion (λ piece. is_place piece ≡ false) pieces

pub unplaced_same : (piece : Piece) (passed : Passed) → is_place piece ≡ false → SamePlaces (met_piece piece passed.met) passed.met
unplaced_same (OneNumber number) passed none in_rows name = refl
unplaced_same (OneText text) passed none in_rows name = refl
unplaced_same (Zeros count) passed none in_rows name = refl
unplaced_same (Filler unit) passed none in_rows name = refl
unplaced_same (Place own) passed none in_rows name = absurd (true_false none)

free_unplaced : (n : ℕ) → Unplaced (replicate n free_integer)
free_unplaced zero = tt
free_unplaced (suc n) = (refl, free_unplaced n)

fixed_unplaced : (terms : List Term) → Unplaced (map fixed_integer terms)
fixed_unplaced [] = tt
fixed_unplaced (term ∷ terms) = (refl, fixed_unplaced terms)

pub points_unplaced : (rect : Bool) (fixed : Option (List Term)) → Unplaced (integers rect fixed)
points_unplaced rect None = free_unplaced (numbers_of rect)
points_unplaced rect (Some terms) = fixed_unplaced terms

pub same_behind : (piece : Piece) (passed : Passed) → SamePlaces passed.met (behind_piece piece passed).met
same_behind piece passed in_rows name = ap (λ (met : Names). met (label_key in_rows name)) (sym (piece_met piece passed))

pub places_then : (one two three : Names) → SamePlaces one two → SamePlaces two three → SamePlaces one three
places_then one two three first second in_rows name = first in_rows name ∙ second in_rows name

pub places_back : (one two : Names) → SamePlaces one two → SamePlaces two one
places_back one two first in_rows name = sym (first in_rows name)

pub met_all_same : (body : PlainBody) (one two : Names) → SamePlaces one two → SamePlaces (met_all body one) (met_all body two)
met_all_same no_fields one two same = same
met_all_same (field_and field fields) one two same =
    met_all_same fields (met_behind field one) (met_behind field two) (λ in_rows name. ap (λ (test : Bool). gives_key field (label_key in_rows name) || test) (same in_rows name))

pub array_same : (name : Option Word) (count : Option ℤ) (row : PlainBody) (met : Names) → SamePlaces (λ key. gives_rows row key || met key) (met_behind (Array name count row) met)
array_same name count row met in_rows key = sym (ap (λ (test : Bool). test || met (label_key in_rows key)) (place_label (Array name count row) in_rows key))

pub own_give : (test : Bool) (x y z : Option ℤ) → (test ≡ true → x ≡ z) → (test ≡ false → y ≡ z) → (if test then x else y) ≡ z
own_give true x y z one other = one refl
own_give false x y z one other = other refl

module _ (known : Facts) (all : List Bool) where
  -- Pieces.

  pub piece_taken : (names : Environment) (passed : Passed) (piece : Piece) (value : Option Tree) (at after : ℕ) (late late_after : Late)
      → PieceSpells anyhow known all names passed piece value at late after late_after → is_some value ≡ takes_one piece
  piece_taken names passed (OneNumber number) value at after late late_after it = number_taken passed number.form number.width number.fixed (sees known all names at) value it.bits it.stored
  piece_taken names passed (OneText text) value at after late late_after it = bytes_taken text.form known (sees known all names at) text.fixed it.stored.size value it.stored.bytes it.stored.are_bytes
  piece_taken names passed (Zeros count) value at after late late_after it = ap is_some it.stored.0
  piece_taken names passed (Filler unit) value at after late late_after it = ap is_some it.stored.0
  piece_taken names passed (Place name) value at after late late_after it = ap is_some it.stored.0

  -- one with its value or none, and the others after it
  then_goes : (names : Environment) (met one_met : Names) (takes : Bool) (value : Option Tree) (rest values : List Tree) → values ≡ put value rest → is_some value ≡ takes
      → (one : Option Tree → Result Draft Refusal) (others : Draft → List Tree → Result Draft Refusal) (at : ℕ) (late : Late) (mid : ℕ) (late_mid : Late) (after : ℕ) (late_after : Late) (draft : Draft) → length late ≡ at
      → (first : Goes known all names one_met at late mid late_mid draft (one value)) → Goes known all names met mid late_mid after late_after first.next (others first.next rest)
      → Goes known all names met at late after late_after draft (then_laid takes one others values)
  then_goes names met one_met takes value rest values are is_taken one others at late mid late_mid after late_after draft marks first more =
      let is_first : first_value takes values ≡ value = ap (first_value takes) are ∙ first_is takes value rest is_taken in
      let is_rest : other_values takes values ≡ rest = ap (other_values takes) are ∙ others_are takes value rest is_taken in
      subst (λ (v : Option Tree). Goes known all names met at late after late_after draft (one v >>= λ next. others next (other_values takes values))) (sym is_first)
      (subst (λ (vs : List Tree). Goes known all names met at late after late_after draft (one value >>= λ next. others next vs)) (sym is_rest)
      (goes_both known all names one_met met at late mid late_mid after late_after draft (one value) (λ next. others next rest) marks first more))

  pieces_goes : (names : Environment) (passed : Passed) (pieces : List Piece) → Unplaced pieces → (values : List Tree) (at after : ℕ) (late late_after : Late)
      → InOrder (PieceSpells anyhow known all names) passed pieces values at late after late_after
      → (draft : Draft) → Fits known all names passed.met at late draft → MetKnown passed.met draft.known
      → Goes known all names passed.met at late after late_after draft (in_order takes_one (lay known) draft pieces values)
  pieces_goes names passed [] none values at after late late_after it draft fits met_known = goes_done known all names passed.met at late after late_after draft it.1 it.2 fits met_known
  pieces_goes names passed (piece ∷ pieces) none values at after late late_after (value, rest, mid, late_mid, are, one, others) draft fits met_known =
      let next_met = (behind_piece piece passed).met in
      let first = goes_met known all names (met_piece piece passed.met) next_met
      (places_then (met_piece piece passed.met) passed.met next_met (unplaced_same piece passed none.0) (same_behind piece passed)) at late mid late_mid draft (lay known draft piece value)
      (piece_goes known all names passed at late draft fits met_known piece value mid late_mid one) in
      let more = goes_met known all names next_met passed.met (places_back passed.met next_met (same_behind piece passed)) mid late_mid after late_after first.next (in_order takes_one (lay known) first.next pieces rest)
      (pieces_goes names (behind_piece piece passed) pieces none.1 rest mid after late_mid late_after others first.next first.fits first.met_known) in
      then_goes names passed.met next_met (takes_one piece) value rest values are (piece_taken names passed piece value at mid late late_mid one) (lay known draft piece)
      (λ next values. in_order takes_one (lay known) next pieces values) at late mid late_mid after late_after draft fits.marks first more

  pieces_go : (names : Environment) (passed : Passed) (field : PlainField) → Unplaced (pieces_of field) → (value : Option Tree) (at after : ℕ) (late late_after : Late)
      → PiecesSpell anyhow known all field names passed value at late after late_after → (draft : Draft) → Fits known all names passed.met at late draft → MetKnown passed.met draft.known
      → Goes known all names passed.met at late after late_after draft (pieces_laid known draft field value)
  pieces_go names passed field none value at after late late_after it draft fits met_known =
      pieces_goes names passed (pieces_of field) none (values_for field value) at after late late_after it.1 draft fits met_known

  label_goes : (names : Environment) (passed : Passed) (name : Word) (value : Option Tree) (at after : ℕ) (late late_after : Late)
      → PiecesSpell anyhow known all (Label name) names passed value at late after late_after → (draft : Draft) → Fits known all names passed.met at late draft → MetKnown passed.met draft.known
      → Goes known all names (met_behind (Label name) passed.met) at late after late_after draft (pieces_laid known draft (Label name) value)
  label_goes names passed name value at after late late_after (grouped, (own, rest, mid, late_mid, are, one, end)) draft fits met_known =
      let first = piece_goes known all names passed at late draft fits met_known (Place name) own mid late_mid one in
      then_goes names (met_piece (Place name) passed.met) (met_piece (Place name) passed.met) false own rest (option_to_list value) are (piece_taken names passed (Place name) own at mid late late_mid one) (lay known draft (Place name))
      (λ next values. Ok next) at late mid late_mid after late_after draft fits.marks first
      (goes_done known all names (met_piece (Place name) passed.met) mid late_mid after late_after first.next end.1 end.2 first.fits first.met_known)

  -- A single piece takes the value that there is.

  single : (value v : Option Tree) (rest : List Tree) → rest ≡ [] → option_to_list value ≡ put v rest → is_some value ≡ is_some v
  single value v rest none are = by value v (are ∙ ap (put v) none)
    where
      by : (value v : Option Tree) → option_to_list value ≡ put v [] → is_some value ≡ is_some v
      by None None is = refl
      by None (Some v) is = absurd cc
      by (Some value) None is = absurd cc
      by (Some value) (Some v) is = refl

  one_taken : (names : Environment) (passed : Passed) (piece : Piece) (value : Option Tree) (at after : ℕ) (late late_after : Late)
      → InOrder (PieceSpells anyhow known all names) passed (piece ∷ []) (option_to_list value) at late after late_after → is_some value ≡ takes_one piece
  one_taken names passed piece value at after late late_after (v, rest, mid, late_mid, are, one, behind) =
      single value v rest behind.0 are ∙ piece_taken names passed piece v at mid late late_mid one

  -- A field takes a value where it has one.

  module _ (names : Environment) where
    case_taken : (passed : Passed) (cases : PlainCases) (value : Option Tree) (at after : ℕ) (late late_after : Late)
        → CaseSpells anyhow known all cases names passed value at late after late_after → is_some value ≡ true
    case_taken passed no_cases value at after late late_after it = absurd it
    case_taken passed (case_and name row others) value at after late late_after it =
        either (is_some value ≡ true) ((line : List Tree) × (value ≡ Some (trees.Choice name line))
        × Inside row None names (λ own. BodySpells anyhow known all row own (at_front row passed) line) at late after late_after)
        (CaseSpells anyhow known all others names passed value at late after late_after)
        (λ one. ap is_some one.1) (λ other. case_taken passed others value at after late late_after other) (is_case name value) it

    pub field_taken : (passed : Passed) (field : PlainField) (value : Option Tree) (at after : ℕ) (late late_after : Late)
        → FieldSpells anyhow known all field names passed value at late after late_after → is_some value ≡ takes_value field
    field_taken passed (Number number) value at after late late_after it = one_taken names passed (OneNumber number) value at after late late_after it.1
    field_taken passed (Text text) value at after late late_after it = one_taken names passed (OneText text) value at after late late_after it.1
    field_taken passed (Points points) value at after late late_after it = group_taken points.fixed value it.0
    field_taken passed (Fill unit count) value at after late late_after it = one_taken names passed (Zeros _) value at after late late_after it.1
    field_taken passed (Align unit) value at after late late_after it = one_taken names passed (Filler unit) value at after late late_after it.1
    field_taken passed (Label name) value at after late late_after it = one_taken names passed (Place name) value at after late late_after it.1
    field_taken passed (Array name count row) value at after late late_after it = ap is_some it.1
    field_taken passed (Switch cases) value at after late late_after it = case_taken passed cases value at after late late_after it

    -- its arrays are counted by its names

    field_counted : (passed : Passed) (field : PlainField) (value : Option Tree) (at after : ℕ) (late late_after : Late)
        → FieldSpells anyhow known all field names passed value at late after late_after → FieldCounted field value names
    field_counted passed (Number number) value at after late late_after it = tt
    field_counted passed (Text text) value at after late late_after it = tt
    field_counted passed (Points points) value at after late late_after it = tt
    field_counted passed (Fill unit count) value at after late late_after it = tt
    field_counted passed (Align unit) value at after late late_after it = tt
    field_counted passed (Label name) value at after late late_after it = tt
    field_counted passed (Array name count row) value at after late late_after it =
        subst (λ (rows : List (List Tree)). IsCounted name (length rows) names) (sym (rows_are it.0) ∙ sym (ap rows_in it.1)) it.3
    field_counted passed (Switch cases) value at after late late_after it = tt

    pub body_counted : (passed : Passed) (body : PlainBody) (values : List Tree) (at after : ℕ) (late late_after : Late)
        → BodySpells anyhow known all body names passed values at late after late_after → AreCounted body values names
    body_counted passed no_fields values at after late late_after it = tt
    body_counted passed (field_and field fields) values at after late late_after (value, rest, mid, late_mid, are, one, others) =
        let here = at_field (field_and field fields) passed in
        let is_taken = field_taken here field value at mid late late_mid one in (
          subst (λ (v : Option Tree). FieldCounted field v names) (sym (ap (first_value (takes_value field)) are ∙ first_is (takes_value field) value rest is_taken))
              (field_counted here field value at mid late late_mid one),
          subst (λ (vs : List Tree). AreCounted fields vs names) (sym (ap (other_values (takes_value field)) are ∙ others_are (takes_value field) value rest is_taken))
              (body_counted (behind field here) fields rest mid after late_mid late_after others),
        )

  -- What a body spells is laid.

  abbrev BodyGoes : PlainBody → Type 0
  BodyGoes body = (passed : Passed) (own : Environment) (values : List Tree) (at after : ℕ) (late late_after : Late)
      → BodySpells anyhow known all body own passed values at late after late_after → (draft : Draft) → Fits known all own passed.met at late draft → MetKnown passed.met draft.known
      → Goes known all own (met_all body passed.met) at late after late_after draft (body_laid known draft body values)

  pub entered_fits : (row : PlainBody) (which : Option RowOf) (names own : Environment) (met : Names) (line : List Tree) (at : ℕ) (late : Late) (draft : Draft) → Within row which names own → AreCounted row line own
      → Fits known all names met at late draft → Fits known all own (met_front row met) at late (enter which row line draft)
  entered_fits row which names own met line at late draft within counted fits = record {
    bits = fits.bits;
    len = fits.len;
    late_is = fits.late_is;
    marks = fits.marks;
    within = fits.within;
    names_are = record {
      names = λ key single now. by key single now (is_row which key) (declares row key) refl refl;
      places = λ label rows number was. in_row_is label rows number (both (not (declares row (rows_of label))) (met (rows_of label)) was);
    };
  }
    where
      declared : (key : Key) → is_in_row key ≡ false → is_later (met_front row met) key ≡ false → declares row key ≡ true → (entered which row line draft.known).give key ≡ own.give key
      declared (place_of name) single now is = absurd (true_false (sym (own_later row met false name is) ∙ now))
      declared (count_of name) single now is = sym (own_is row line own (names_inside which row draft.known) name counted is)
      declared (rows_of name) single now is = absurd (true_false (sym (own_later row met true name is) ∙ now))
      declared (place_in name number) single now is = absurd (true_false single)
      declared (row_in name) single now is = absurd (true_false (sym is ∙ around_undeclared row name))

      by : (key : Key) → is_in_row key ≡ false → is_later (met_front row met) key ≡ false → (around test : Bool) → is_row which key ≡ around → declares row key ≡ test
          → (entered which row line draft.known).give key ≡ own.give key
      by key single now true test at_row is = entered_row which row line draft.known key at_row ∙ sym (within.number key at_row)
      by key single now false true at_row is = declared key single now is
      by key single now false false at_row is = entered_none which row line draft.known key is at_row ∙ fits.names_are.names key single (sym (inside_later row met key is) ∙ now) ∙ sym (within.give key is at_row)

      in_row_is : (label : List ℕ) (rows number : ℤ) → (not (declares row (rows_of label)) ≡ true) × (met (rows_of label) ≡ true) → own.give (rows_of label) ≡ Some rows → IsRowIn rows number
          → (entered which row line draft.known).give (place_in label number) ≡ own.give (place_in label number)
      in_row_is label rows number each is inside =
          let none : declares row (rows_of label) ≡ false = not_true (declares row (rows_of label)) each.0 in
          let also : declares row (place_in label number) ≡ false = placed_as_counted row label number ∙ none in
          let at_row : is_row which (place_in label number) ≡ false = no_row which (place_in label number) refl in
          entered_none which row line draft.known (place_in label number) also at_row
          ∙ fits.names_are.places label rows number each.1 (sym (within.give (rows_of label) none (no_row which (rows_of label) refl)) ∙ is) inside
          ∙ sym (within.give (place_in label number) also at_row)

  -- at the end of a row its names have what they have in the end
  outside_alike : (row : PlainBody) (which : Option RowOf) (names own : Environment) (met : Names) (at : ℕ) (late : Late) (draft : Draft) → Within row which names own → Fits known all own (met_all row met) at late draft
      → (others : Environment) → Alike every others names → Alike every (outside_of which row draft.known others) own
  outside_alike row which names own met at late draft within fits others alike = record {
    names = λ key single now. by key single (is_row which key) (declares row key) refl refl;
    places = λ label rows number was is inside. in_row_is label rows number is inside (declares row (rows_of label)) refl;
  }
    where
      by : (key : Key) → is_in_row key ≡ false → (around test : Bool) → is_row which key ≡ around → declares row key ≡ test → (outside_of which row draft.known others).give key ≡ own.give key
      by key single true test at_row is =
          ap (λ (c : Bool). if c || declares row key then draft.known.give key else others.give key) at_row
          ∙ fits.names_are.names key single (around_early (met_all row met) key (row_is_around which key at_row))
      by key single false true at_row is =
          (λ i. if at_row i || is i then draft.known.give key else others.give key) ∙ fits.names_are.names key single (none_later row met key is)
      by key single false false at_row is =
          (λ i. if at_row i || is i then draft.known.give key else others.give key) ∙ alike.names key single (every_early key) ∙ sym (within.give key is at_row)

      in_row_is : (label : List ℕ) (rows number : ℤ) → own.give (rows_of label) ≡ Some rows → IsRowIn rows number → (test : Bool) → declares row (rows_of label) ≡ test
          → (outside_of which row draft.known others).give (place_in label number) ≡ own.give (place_in label number)
      in_row_is label rows number is inside true mine =
          let key : Key = place_in label number in
          let also : declares row key ≡ true = placed_as_counted row label number ∙ mine in
          let at_row : is_row which key ≡ false = no_row which key refl in
          (λ i. if at_row i || also i then draft.known.give key else others.give key) ∙ fits.names_are.places label rows number (all_met row met (rows_of label) mine) is inside
      in_row_is label rows number is inside false none =
          let key : Key = place_in label number in
          let also : declares row key ≡ false = placed_as_counted row label number ∙ none in
          let at_row : is_row which key ≡ false = no_row which key refl in
          (λ i. if at_row i || also i then draft.known.give key else others.give key)
          ∙ alike.places label rows number refl (sym (within.give (rows_of label) none (no_row which (rows_of label) refl)) ∙ is) inside
          ∙ sym (within.give key also at_row)

  -- a row goes, and at its end a label in it has the place that is spelled
  record RowGoes (row : PlainBody) (which : Option RowOf) (names own : Environment) (met : Names) (line : List Tree) (at : ℕ) (late : Late) (after : ℕ) (late_after : Late) (draft : Draft) : Type 0 where
    one : Ended
    is : row_ended known which row draft line ≡ Ok one
    labels : (label : List ℕ) → has_label row label ≡ true → own.give (place_of label) ≡ one.own.give (place_of label)
    goes : Goes known all names met at late after late_after draft (Ok one.draft)

  inside_goes : (row : PlainBody) → BodyGoes row → (passed : Passed) (which : Option RowOf) (names own : Environment) (line : List Tree) (at after : ℕ) (late late_after : Late)
      → Within row which names own → BodySpells anyhow known all row own (at_front row passed) line at late after late_after
      → (draft : Draft) → Fits known all names passed.met at late draft → MetKnown passed.met draft.known
      → RowGoes row which names own passed.met line at late after late_after draft
  inside_goes row goes passed which names own line at after late late_after within spells draft fits met_known =
      let inner = goes (at_front row passed) own line at after late late_after spells (enter which row line draft)
      (entered_fits row which names own passed.met line at late draft within (body_counted own (at_front row passed) row line at after late late_after spells) fits)
      (met_entered which row line passed.met draft.known met_known) in
      let change : LateNumber → LateNumber = closing which row inner.next.known in
      record {
        one = row_end which row draft inner.next;
        is = ap (λ (r : Result Draft Refusal). r >>= λ next. good (row_end which row draft next)) inner.is;
        labels = λ label is. sym (inner.fits.names_are.names (place_of label) refl (none_later row (met_front row passed.met) (place_of label) (label_declared row label is)));
        goes = record {
          next = leave which row draft inner.next;
          is = refl;
          fits = record { bits = inner.fits.bits; len = inner.fits.len; late_is = inner.fits.late_is; marks = inner.fits.marks; within = inner.fits.within; names_are = fits.names_are };
          met_known = met_known;
          more = inner.more;
          more_is = inner.more_is;
          numbers = map change inner.numbers;
          numbers_are = ap (λ (n : List LateNumber). draft.numbers ++ map change n) inner.numbers_are;
          tracks = tracks-map (HoldsIn known all own) (HoldsIn known all names) change (λ one. refl) (λ one. refl)
              (λ one holds others alike.
              let it = holds (outside_of which row inner.next.known others) (outside_alike row which names own (met_front row passed.met) after late_after inner.next within inner.fits others alike) in
              record { bits = it.bits; value = it.value; there = it.there; width = it.width })
              at inner.numbers inner.more inner.tracks;
        };
      }

  row_goes : (row : PlainBody) (which : Option RowOf) (names own : Environment) (met : Names) (line : List Tree) (at : ℕ) (late : Late) (after : ℕ) (late_after : Late) (draft : Draft)
      → RowGoes row which names own met line at late after late_after draft → Goes known all names met at late after late_after draft (row_laid known which row draft line)
  row_goes row which names own met line at late after late_after draft it = subst (Goes known all names met at late after late_after draft) (sym (ap row_drafted it.is)) it.goes

  rows_goes : (name : Option Word) (row : PlainBody) → BodyGoes row → (passed : Passed) (names : Environment) (number : ℕ) (rows : List (List Tree)) (at after : ℕ) (late late_after : Late)
      → RowsSpell (λ number line. Inside row (row_of name number) names (λ own. BodySpells anyhow known all row own (at_front row passed) line)) number rows at late after late_after
      → (draft : Draft) → Fits known all names passed.met at late draft → MetKnown passed.met draft.known
      → RowsGo known all row names passed.met at late after late_after draft number (length rows) (rows_laid (λ number. row_ended known (row_of name number) row) number draft rows)
  rows_goes name row goes passed names number [] at after late late_after it draft fits met_known = record {
    rows = record { draft = draft; ends = [] };
    is = refl;
    many = refl;
    ends = tt;
    goes = goes_done known all names passed.met at late after late_after draft it.0 it.1 fits met_known;
  }
  rows_goes name row goes passed names number (line ∷ rows) at after late late_after (mid, late_mid, (own, within, spells), others) draft fits met_known =
      let lay = λ (number : ℕ). row_ended known (row_of name number) row in
      let found = inside_goes row goes passed (row_of name number) names own line at mid late late_mid within spells draft fits met_known in
      let first = found.goes in
      let more = rows_goes name row goes passed names (number + 1) rows mid after late_mid late_after others first.next first.fits first.met_known in
      let after_first : ((Ok found.one.draft) >>= λ next. rows_laid lay (number + 1) next rows) ≡ rows_laid lay (number + 1) first.next rows =
      ap (λ (r : Result Draft Refusal). r >>= λ next. rows_laid lay (number + 1) next rows) first.is in
      record {
        rows = and_row found.one more.rows;
        is = ap (λ (r : Result Ended Refusal). r >>= λ one. rows_laid lay (number + 1) one.draft rows >>= λ others. Ok (and_row one others)) found.is
            ∙ ap (λ (r : Result AllRows Refusal). r >>= λ others. good (and_row found.one others)) (after_first ∙ more.is);
        many = ap suc more.many;
        ends = ((λ label is. within.places label is ∙ found.labels label is), more.ends);
        goes = goes_both known all names passed.met passed.met at late mid late_mid after late_after draft (Ok found.one.draft) (λ next. Ok more.rows.draft) fits.marks first more.goes;
      }

  abbrev FieldGoes : PlainField → Type 0
  FieldGoes field = (passed : Passed) (names : Environment) (value : Option Tree) (at after : ℕ) (late late_after : Late)
      → FieldSpells anyhow known all field names passed value at late after late_after → (draft : Draft) → Fits known all names passed.met at late draft → MetKnown passed.met draft.known
      → Goes known all names (met_behind field passed.met) at late after late_after draft (field_laid known draft field value)

  abbrev CasesGo : PlainCases → Type 0
  CasesGo cases = (passed : Passed) (names : Environment) (value : Option Tree) (at after : ℕ) (late late_after : Late)
      → CaseSpells anyhow known all cases names passed value at late after late_after → (draft : Draft) → Fits known all names passed.met at late draft → MetKnown passed.met draft.known
      → Goes known all names passed.met at late after late_after draft (case_laid known draft cases value)

  case_goes : (row : PlainBody) → BodyGoes row → (passed : Passed) (names : Environment) (name : Word) (value : Option Tree) (at after : ℕ) (late late_after : Late)
      → (line : List Tree) × (value ≡ Some (trees.Choice name line)) × Inside row None names (λ own. BodySpells anyhow known all row own (at_front row passed) line) at late after late_after
      → (draft : Draft) → Fits known all names passed.met at late draft → MetKnown passed.met draft.known
      → Goes known all names passed.met at late after late_after draft (row_laid known None row draft (line_in value))
  case_goes row goes passed names name value at after late late_after (line, is, (own, within, spells)) draft fits met_known =
      subst (λ (l : List Tree). Goes known all names passed.met at late after late_after draft (row_laid known None row draft l)) (sym (ap line_in is ∙ line_is name line))
      (row_goes row None names own passed.met line at late after late_after draft (inside_goes row goes passed None names own line at after late late_after within spells draft fits met_known))

  by_case : (names : Environment) (met : Names) (This Other : Type 0) (this other : Result Draft Refusal) (at : ℕ) (late : Late) (after : ℕ) (late_after : Late) (draft : Draft)
      → (This → Goes known all names met at late after late_after draft this) → (Other → Goes known all names met at late after late_after draft other)
      → (test : Bool) → By test This Other → Goes known all names met at late after late_after draft (if test then this else other)
  by_case names met This Other this other at late after late_after draft one more true it = one it
  by_case names met This Other this other at late after late_after draft one more false it = more it

  array_goes : (name : Option Word) (count : Option ℤ) (row : PlainBody) → BodyGoes row → FieldGoes (Array name count row)
  array_goes name count row goes passed names value at after late late_after (rows, is, stated, counts, are, spells) draft fits met_known =
      let next_met : Names = λ key. gives_rows row key || passed.met key in
      let found = rows_goes name row goes passed names 1 rows at after late late_after spells draft fits met_known in
      goes_met known all names next_met (met_behind (Array name count row) passed.met) (array_same name count row passed.met) at late after late_after draft (all_laid known name row (rows_in value) draft)
      (subst (λ (lines : List (List Tree)). Goes known all names next_met at late after late_after draft (all_laid known name row lines draft))
      (sym (ap rows_in is ∙ rows_are rows))
      (goes_behind known all row names passed.met at late after late_after draft (length rows) (each_laid known name row rows draft) are found))

  mutual
    field_goes : (field : PlainField) → FieldGoes field
    field_goes (Number number) passed names = pieces_go names passed (Number number) (refl, tt)
    field_goes (Text text) passed names = pieces_go names passed (Text text) (refl, tt)
    field_goes (Points points) passed names = pieces_go names passed (Points points) (points_unplaced points.rect points.fixed)
    field_goes (Fill unit count) passed names = pieces_go names passed (Fill unit count) (refl, tt)
    field_goes (Align unit) passed names = pieces_go names passed (Align unit) (refl, tt)
    field_goes (Label name) passed names = label_goes names passed name
    field_goes (Array name count row) passed names = array_goes name count row (body_goes row) passed names
    field_goes (Switch cases) passed names = cases_go cases passed names

    cases_go : (cases : PlainCases) → CasesGo cases
    cases_go no_cases passed names value at after late late_after it draft fits met_known = absurd it
    cases_go (case_and name row others) passed names value at after late late_after it draft fits met_known =
        by_case names passed.met ((line : List Tree) × (value ≡ Some (trees.Choice name line)) × Inside row None names (λ own. BodySpells anyhow known all row own (at_front row passed) line) at late after late_after)
        (CaseSpells anyhow known all others names passed value at late after late_after)
        (row_laid known None row draft (line_in value)) (case_laid known draft others value) at late after late_after draft
        (λ one. case_goes row (body_goes row) passed names name value at after late late_after one draft fits met_known)
        (λ other. cases_go others passed names value at after late late_after other draft fits met_known)
        (is_case name value) it

    body_goes : (body : PlainBody) → BodyGoes body
    body_goes no_fields passed own values at after late late_after it draft fits met_known = goes_done known all own passed.met at late after late_after draft it.1 it.2 fits met_known
    body_goes (field_and field fields) passed own values at after late late_after (value, rest, mid, late_mid, are, one, others) draft fits met_known =
        let here = at_field (field_and field fields) passed in
        let next_met = (behind field here).met in
        let same : SamePlaces (met_behind field passed.met) next_met = λ in_rows name. ap (λ (met : Names). met (label_key in_rows name)) (sym (behind_met field here)) in
        let first = goes_met known all own (met_behind field passed.met) next_met same at late mid late_mid draft (field_laid known draft field value)
        (field_goes field here own value at mid late late_mid one draft fits met_known) in
        let others_go = body_goes fields (behind field here) own rest mid after late_mid late_after others first.next first.fits first.met_known in
        let more = goes_met known all own (met_all fields next_met) (met_all fields (met_behind field passed.met)) (met_all_same fields next_met (met_behind field passed.met) (places_back (met_behind field passed.met) next_met same))
        mid late_mid after late_after first.next (body_laid known first.next fields rest) others_go in
        then_goes own (met_all fields (met_behind field passed.met)) next_met (takes_value field) value rest values are (field_taken own here field value at mid late late_mid one) (field_laid known draft field)
        (λ next values. body_laid known next fields values) at late mid late_mid after late_after draft fits.marks first more

module _ (read : (bytes : List ℕ) → ((k : ℕ) → slice_index bytes k < 256) → bytes_of (bits_of bytes) ≡ bytes) where
  pub complete : (known : Facts) (body : PlainBody) (row : List Tree) (bytes : List ℕ) → Spells known body row bytes → laid known body row ≡ Ok bytes
  complete known body row bytes it =
      let all = bits_of bytes in
      let goes = row_goes known all body None outside it.names nothing_passed.met row 0 [] it.end it.late nothing_laid
      (inside_goes known all body (body_goes known all body) nothing_passed None outside it.names row 0 it.end [] it.late it.own it.fields nothing_laid
      (record { bits = refl; len = refl; late_is = refl; marks = refl; within = omega arith; names_are = record { names = λ key single now. refl; places = λ label rows number was is inside. refl } }) (λ in_rows name. refl)) in
      let front : List Bool = take it.end all in
      let size : length goes.more ≡ length front = sym (ap length goes.more_is) ∙ goes.fits.marks ∙ sym (length-take-le it.end all it.within) in
      let second : fill known outside goes.next.numbers goes.next.bits ≡ Ok front =
      (λ i. fill known outside (goes.numbers_are i) (goes.fits.bits i)) ∙ ap (λ (m : Late). fill known outside goes.numbers (masked m front)) goes.more_is
      ∙ fill_goes known all (drop it.end all) outside goes.numbers goes.more [] front 0 (sym (take-append-drop it.end all)) refl size
      (tracks_so (HoldsIn known all outside) (Holds known all outside) (λ one holds. holds outside (record { names = λ key single now. refl; places = λ label rows number was is inside. refl })) 0 goes.numbers goes.more goes.tracks) in
      ap (λ (r : Result Draft Refusal). r >>= λ draft. fill known outside draft.numbers draft.bits >>= λ bits. good (bytes_of (filled 8 bits))) goes.is
      ∙ ap (λ (r : Result (List Bool) Refusal). r >>= λ bits. good (bytes_of (filled 8 bits))) second
      ∙ ap good (ap bytes_of (sym it.filled) ∙ read bytes it.are_bytes)

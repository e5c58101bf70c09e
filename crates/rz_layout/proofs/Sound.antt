-- What is laid is spelled so.
use Rattle.std.proofs.Common.{◌≡◌, inl, inr, ℕ, ◌+◌, ◌<◌, ◌≤◌, ◌*◌, ◌%◌, ℤ, pos, Bool, true, false, ◌||◌, not, List, [], ◌∷◌, ◌++◌, length, take, map, Option, Some, None, Ok, refl, sym, ap, subst, ◌∙◌, arith}
use Rattle.std.specs.Prelude.{if◌then◌else◌, nat_abs, slice_index}
use Rattle.std.specs.List.{AllByRecursion}
use Rattle.std.specs.Str.{str_eq_ignore_ascii_case}
use Rattle.std.specs.Option.{is_some, option_to_list}
use Rattle.std.proofs.lemmas.List.{length-append, take_at}
use Rattle.rz_core.proofs.Tests.{true_false}
use Rattle.rz_core.specs.Stop.{◌>>=◌}
use Rattle.rz_core.specs.declared.facts.Facts.{Facts}
use Rattle.rz_core.specs.declared.resource.Word.{Word}
use Rattle.rz_bits.specs.Bits.{bits_of, bytes_of}
use Rattle.rz_bits.specs.BitBuf.{filled, missing, zeros}
use Rattle.rz_expr.specs.Environment.{place_in, rows_of, Environment, Key}
use Rattle.rz_types_fields.specs.declared.tree.Tree.{Tree}
use Rattle.rz_types_fields.specs.declared.tree.Tree.TheVariants as trees
use Rattle.rz_types_fields.specs.Field.{case_and, field_and, no_cases, no_fields, takes_value, Align, Array, Fill, Label, Number, PlainBody, PlainCases, PlainField, Points, Switch, Text}
use Rattle.rz_types_fields.specs.Laid.{all_laid, and_row, behind_rows, body_laid, case_laid, closing, enter, field_laid, fill, first_value, in_order, laid, lay, leave, line_in, nothing_laid, other_values, outside_of, pieces_laid, row_ended, row_laid, rows_in, rows_laid, takes_one, AllRows, Draft, Ended, LateNumber}
use Rattle.rz_types_fields.specs.Passed.{at_field, at_front, behind, behind_piece, declares, gives_key, gives_rows, has_label, nothing_passed, outside, Names, Passed}
use Rattle.rz_types_fields.specs.Piece.{pieces_of, Filler, OneNumber, OneText, Piece, Place, Zeros}
use Rattle.rz_types_fields.specs.Row.{By, IsChoice, IsRow, IsStated, IsValue}
use Rattle.rz_types_fields.specs.Spells.{anyhow, is_case, values_for, AreRows, BodySpells, CaseSpells, FieldSpells, HasPlace, InOrder, Inside, IsCounted, IsGroupedFor, PieceSpells, PiecesSpell, RowSpells, RowsSpell, Spells}
use Rattle.rz_types_fields.specs.RowLabels.{also_rows, is_row, row_of, rows_give, RowOf}
use Rattle.rz_types.specs.Rules.{case_names}
use Rattle.rz_layout.proofs.Adding.{adds_marks, adds_none, alike_back, both_came, came_counted, came_is, came_labels, came_met, known_behind, then_came, Adds, Came, FitsAll, IsAny}
use Rattle.rz_layout.proofs.Coming.{piece_came, Fresh}
use Rattle.rz_layout.proofs.Complete.{array_same, is_place, met_all_same, places_back, points_unplaced, same_behind, Unplaced}
use Rattle.rz_layout.proofs.Counts.{AreApart, AreCasesApart, AreCounted, FieldCounted, IsApart}
use Rattle.rz_layout.proofs.Fed.{number_has, points_have, single_fed, text_has, AreFed}
use Rattle.rz_layout.proofs.Rows.{choice_chosen, choice_differs, fronted, Takes}
use Rattle.rz_layout.proofs.Trees.{line_is, rows_are}
use Rattle.rz_layout.proofs.Filled.{chained, each-map, fill_came, same_ok, Each}
use Rattle.rz_layout.proofs.Fitting.{met_piece, piece_is, SamePlaces}
use Rattle.rz_layout.proofs.Masks.{masked}
use Rattle.rz_layout.proofs.Labels.{behind_met, gives_place, gives_places, label_key, met_all, met_behind, met_entered, met_field, MetKnown}
use Rattle.rz_layout.proofs.EachRow.{array_parts, ends_length, row_end, row_parts, rows_parts}
use Rattle.rz_layout.proofs.Placing.{ends_by, row_in_rows, row_place_is, EndsAre}
use Rattle.rz_layout.proofs.Texts.{good}
use Rattle.rz_layout.proofs.Tracks.{tracks-map, Holds}
use Rattle.rz_types_fields.specs.Spells.{anyhow, most_bits}
use Rattle.rz_layout.proofs.Inward.{inside_counts, inside_fits, inside_within}
use Rattle.rz_layout.proofs.Unmet.{fresh_first, fresh_front, fresh_rest, rows_given, still_body, still_rows}

unplaced_none : (piece : Piece) → is_place piece ≡ false → (key : Key) → piece_is piece key ≡ false
unplaced_none (OneNumber number) none key = refl
unplaced_none (OneText text) none key = refl
unplaced_none (Zeros count) none key = refl
unplaced_none (Filler unit) none key = refl
unplaced_none (Place name) none key = absurd (true_false none)

module _ (known : Facts) where
  abbrev NoCount : Environment → Type 0
  NoCount names = Unit {0}

  abbrev none : Key → Bool
  none key = false

  -- Pieces.

  pieces_came : (passed : Passed) (pieces : List Piece) → Unplaced pieces → (values : List Tree) → AreFed pieces values → (draft next : Draft) → length draft.late ≡ length draft.bits → length draft.bits ≤ most_bits
      → MetKnown passed.met draft.known → in_order takes_one (lay known) draft pieces values ≡ Ok next
      → Came known none passed.met NoCount draft next (λ all names. InOrder (PieceSpells anyhow known all names) passed pieces values)
  pieces_came passed [] flat values fed draft next marks short met_known is =
      subst (λ (d : Draft). Came known none passed.met NoCount draft d (λ all names. InOrder (PieceSpells anyhow known all names) passed [] values)) (same_ok draft next is)
      (record { adds = adds_none draft short; spells = λ all names fits holds counted. (fed, refl, refl) })
  pieces_came passed (piece ∷ pieces) flat values fed draft next marks short met_known is =
      let value = first_value (takes_one piece) values in
      let rest = other_values (takes_one piece) values in
      let next_met = (behind_piece piece passed).met in
      let inner = chained (lay known draft piece value) (λ mid. in_order takes_one (lay known) mid pieces rest) next is in
      let plain = unplaced_none piece flat.0 in
      let same : SamePlaces (met_piece piece passed.met) passed.met = λ in_rows name. ap (λ (test : Bool). test || passed.met (label_key in_rows name)) (plain (label_key in_rows name)) in
      let first = came_met known none (met_piece piece passed.met) passed.met NoCount draft inner.value (λ all names. PieceSpells anyhow known all names passed piece value) same
      (came_labels known (piece_is piece) none (met_piece piece passed.met) NoCount draft inner.value (λ all names. PieceSpells anyhow known all names passed piece value) plain
      (piece_came known passed piece value fed.0 draft inner.value (λ key is. absurd (true_false (sym is ∙ plain key))) marks met_known inner.is)) in
      let met_mid : MetKnown next_met inner.value.known = λ in_rows name. sym (same_behind piece passed in_rows name) ∙ known_behind known none passed.met draft inner.value first.adds met_known in_rows name in
      let more = came_met known none next_met passed.met NoCount inner.value next (λ all names. InOrder (PieceSpells anyhow known all names) (behind_piece piece passed) pieces rest)
      (places_back passed.met next_met (same_behind piece passed))
      (pieces_came (behind_piece piece passed) pieces flat.1 rest fed.2 inner.value next (adds_marks none draft inner.value first.adds marks) first.adds.short met_mid inner.leads) in
      came_counted known none passed.met (λ names. Unit {0} × Unit {0}) NoCount draft next (λ all names. InOrder (PieceSpells anyhow known all names) passed (piece ∷ pieces) values) (λ names counted. (tt, tt))
      (then_came known none none passed.met passed.met NoCount NoCount value rest values fed.1 (λ all names v. PieceSpells anyhow known all names passed piece v)
      (λ all names vs. InOrder (PieceSpells anyhow known all names) (behind_piece piece passed) pieces vs) draft inner.value next marks first more (λ key early. (refl, early)))

  pieces_field : (passed : Passed) (field : PlainField) → Unplaced (pieces_of field) → (value : Option Tree) → IsGroupedFor field value → AreFed (pieces_of field) (values_for field value) → (draft next : Draft)
      → length draft.late ≡ length draft.bits → length draft.bits ≤ most_bits → MetKnown passed.met draft.known → pieces_laid known draft field value ≡ Ok next
      → Came known none passed.met NoCount draft next (λ all names. PiecesSpell anyhow known all field names passed value)
  pieces_field passed field flat value grouped fed draft next marks short met_known is =
      came_is known none passed.met NoCount draft next (λ all names. InOrder (PieceSpells anyhow known all names) passed (pieces_of field) (values_for field value))
      (λ all names. PiecesSpell anyhow known all field names passed value) (λ all names counted it. (grouped, it))
      (pieces_came passed (pieces_of field) flat (values_for field value) fed draft next marks short met_known is)

  label_came : (passed : Passed) (name : Word) (value : Option Tree) → value ≡ None → (draft next : Draft) → Fresh (gives_place (Label name)) passed.met
      → length draft.late ≡ length draft.bits → MetKnown passed.met draft.known → pieces_laid known draft (Label name) value ≡ Ok next
      → Came known (gives_place (Label name)) (met_behind (Label name) passed.met) NoCount draft next (λ all names. PiecesSpell anyhow known all (Label name) names passed value)
  label_came passed name value empty draft next fresh marks met_known is =
      let inner = chained (lay known draft (Place name) None) (λ mid. Ok mid) next is in
      let laid : lay known draft (Place name) None ≡ Ok next = inner.is ∙ ap (λ (d : Draft). Ok d) (same_ok inner.value next inner.leads) in
      came_is known (gives_place (Label name)) (met_behind (Label name) passed.met) NoCount draft next (λ all names. PieceSpells anyhow known all names passed (Place name) None)
      (λ all names. PiecesSpell anyhow known all (Label name) names passed value)
      (λ all names counted it. (tt, (None, option_to_list value, length next.bits, next.late, refl, it, (ap option_to_list empty, refl, refl))))
      (piece_came known passed (Place name) None refl draft next fresh marks met_known laid)

  -- Rows.

  abbrev BodyCame : PlainBody → Type 0
  BodyCame body = (passed : Passed) (values : List Tree) (draft next : Draft) → Fresh (gives_places body) passed.met → length draft.late ≡ length draft.bits → length draft.bits ≤ most_bits
      → MetKnown passed.met draft.known → IsRow body values → body_laid known draft body values ≡ Ok next
      → Came known (gives_places body) (met_all body passed.met) (AreCounted body values) draft next (λ all names. BodySpells anyhow known all body names passed values)

  abbrev InsideIs : PlainBody → Option RowOf → Passed → List Tree → List Bool → Environment → RowSpells
  InsideIs row which passed line all names = Inside row which names (λ own. BodySpells anyhow known all row own (at_front row passed) line)

  abbrev inside_adds : (row : PlainBody) (which : Option RowOf) (line : List Tree) (draft inner : Draft) → Adds (gives_places row) (enter which row line draft) inner → Adds none draft (leave which row draft inner)
  inside_adds row which line draft inner a = record {
    bits = a.bits;
    marks = a.marks;
    bits_are = a.bits_are;
    marks_are = a.marks_are;
    same = a.same;
    is_zero = a.is_zero;
    numbers = map (closing which row inner.known) a.numbers;
    numbers_are = ap (λ (n : List LateNumber). draft.numbers ++ map (closing which row inner.known) n) a.numbers_are;
    tracks = tracks-map IsAny IsAny (closing which row inner.known) (λ one. refl) (λ one. refl) (λ one any. tt) (length draft.bits) a.numbers a.marks a.tracks;
    short = a.short;
    names_are = λ key is. refl;
    given = λ in_rows name is. absurd (true_false (sym is));
  }

  -- outside the labels of a row have the places that they have in it
  abbrev HavePlaces : PlainBody → Option RowOf → Draft → Environment → Type 0
  HavePlaces row which inner names = (label : List ℕ) → has_label row label ≡ true → HasPlace which label names inner.known

  pub inside_came : (row : PlainBody) → AreApart row → BodyCame row → (passed : Passed) (which : Option RowOf) (line : List Tree) → IsRow row line → (draft inner : Draft) → length draft.late ≡ length draft.bits → length draft.bits ≤ most_bits
      → MetKnown passed.met draft.known → body_laid known (enter which row line draft) row line ≡ Ok inner → Came known none passed.met (HavePlaces row which inner) draft (leave which row draft inner) (InsideIs row which passed line)
  inside_came row apart came passed which line is_row draft inner marks short met_known is =
      let c = came (at_front row passed) line (enter which row line draft) inner (fresh_front row passed.met) marks short (met_entered which row line passed.met draft.known met_known) is_row is in
      record {
        adds = inside_adds row which line draft inner c.adds;
        spells = λ all names fits holds counted. (
          outside_of which row inner.known names,
          inside_within known row apart which passed line draft inner c.adds all names fits counted,
          c.spells all (outside_of which row inner.known names) (inside_fits known row apart which passed line draft inner c.adds all names fits)
              (each-map (Holds known all (outside_of which row inner.known names)) (Holds known all names) (closing which row inner.known)
              (λ one it. record { bits = it.bits; value = it.value; there = it.there; width = it.width }) c.adds.numbers holds)
              (inside_counts known row apart which passed line draft inner c.adds all names fits),
        );
      }

  abbrev RowsAre : Option Word → PlainBody → Passed → ℕ → List (List Tree) → List Bool → Environment → RowSpells
  RowsAre name row passed number rows all names = RowsSpell (λ number line. Inside row (row_of name number) names (λ own. BodySpells anyhow known all row own (at_front row passed) line)) number rows

  -- rows that are laid
  rows_came : (name : Option Word) (row : PlainBody) → AreApart row → BodyCame row → (passed : Passed) (number : ℕ) (rows : List (List Tree)) → AllByRecursion (IsRow row) rows → (draft : Draft) (all : AllRows)
      → length draft.late ≡ length draft.bits → length draft.bits ≤ most_bits → MetKnown passed.met draft.known → rows_laid (λ number. row_ended known (row_of name number) row) number draft rows ≡ Ok all
      → Came known none passed.met (λ names. EndsAre row names number all.ends) draft all.draft (RowsAre name row passed number rows)
  rows_came name row apart came passed number [] are draft all marks short met_known is =
      subst (λ (laid : AllRows). Came known none passed.met (λ names. EndsAre row names number laid.ends) draft laid.draft (RowsAre name row passed number []))
      (same_ok (record { draft = draft; ends = [] }) all is) (record { adds = adds_none draft short; spells = λ all names fits holds counted. (refl, refl) })
  rows_came name row apart came passed number (line ∷ rows) are draft all marks short met_known is =
      let which = row_of name number in
      let parts = rows_parts (λ number. row_ended known (row_of name number) row) number draft line rows all is in
      let one = row_parts known which row draft line parts.one parts.first in
      let mid = leave which row draft one.inner in
      let first = inside_came row apart came passed which line are.0 draft one.inner marks short met_known one.is in
      let more = rows_came name row apart came passed (number + 1) rows are.1 mid parts.others (adds_marks none draft mid first.adds marks) first.adds.short
      (known_behind known none passed.met draft mid first.adds met_known)
      (ap (λ (e : Ended). rows_laid (λ number. row_ended known (row_of name number) row) (number + 1) e.draft rows) one.ended ∙ parts.more) in
      let whole : and_row (row_end which row draft one.inner) parts.others ≡ all = ap (λ (e : Ended). and_row e parts.others) one.ended ∙ parts.whole in
      subst (λ (laid : AllRows). Came known none passed.met (λ names. EndsAre row names number laid.ends) draft laid.draft (RowsAre name row passed number (line ∷ rows))) whole
      (both_came known none none passed.met passed.met (HavePlaces row which one.inner) (λ names. EndsAre row names (number + 1) parts.others.ends) draft mid parts.others.draft
      (InsideIs row which passed line) (RowsAre name row passed (number + 1) rows) (RowsAre name row passed number (line ∷ rows)) marks
      (λ all names one others. (length mid.bits, mid.late, one, others)) first more (λ key early. (refl, early)))

  -- Fields.

  abbrev FieldCame : PlainField → Type 0
  FieldCame field = (passed : Passed) (value : Option Tree) → Takes (takes_value field) (IsValue field) value → (draft next : Draft) → Fresh (gives_place field) passed.met → length draft.late ≡ length draft.bits → length draft.bits ≤ most_bits
      → MetKnown passed.met draft.known → field_laid known draft field value ≡ Ok next
      → Came known (gives_place field) (met_behind field passed.met) (FieldCounted field value) draft next (λ all names. FieldSpells anyhow known all field names passed value)

  abbrev CasesCame : PlainCases → Type 0
  CasesCame cases = (passed : Passed) (v : Tree) → IsChoice cases v → (draft next : Draft) → length draft.late ≡ length draft.bits → length draft.bits ≤ most_bits
      → MetKnown passed.met draft.known → case_laid known draft cases (Some v) ≡ Ok next
      → Came known none passed.met NoCount draft next (λ all names. CaseSpells anyhow known all cases names passed (Some v))

  abbrev array_adds : (row : PlainBody) (draft : Draft) (rows : AllRows) → Adds none draft rows.draft → Adds (gives_rows row) draft (behind_rows row rows)
  array_adds row draft rows a = record {
    bits = a.bits;
    marks = a.marks;
    bits_are = a.bits_are;
    marks_are = a.marks_are;
    same = a.same;
    is_zero = a.is_zero;
    numbers = a.numbers;
    numbers_are = a.numbers_are;
    tracks = a.tracks;
    short = a.short;
    names_are = λ key is. ap (λ (test : Bool). if test then rows_give rows.ends key else rows.draft.known.give key) is ∙ a.names_are key refl;
    given = rows_given row rows.ends rows.draft.known;
  }

  module _ (row : PlainBody) (passed : Passed) (rows : AllRows) (fresh : Fresh (gives_rows row) passed.met) (all : List Bool) (names : Environment)
      (fits : FitsAll known all names (λ key. gives_rows row key || passed.met key) (behind_rows row rows)) where
    rows_fit : FitsAll known all names passed.met rows.draft
    rows_fit = record {
      bits = fits.bits;
      len = refl;
      late_is = refl;
      marks = fits.marks;
      within = fits.within;
      names_are = alike_back known (gives_rows row) passed.met (λ key. gives_rows row key || passed.met key) rows.draft.known (also_rows row rows.ends rows.draft.known) names
          (λ key is. ap (λ (test : Bool). if test then rows_give rows.ends key else rows.draft.known.give key) is) (still_rows known row passed.met fresh) fits.names_are;
    }

    rows_are_given : AreRows row (length rows.ends) names
    rows_are_given = record {
      give = λ label is. sym (fits.names_are.names (rows_of label) refl (ap (λ (test : Bool). not (test || passed.met (rows_of label))) is))
          ∙ ap (λ (test : Bool). if test then Some (pos (length rows.ends)) else rows.draft.known.give (rows_of label)) is;
    }

    ends_given : EndsAre row names 1 rows.ends
    ends_given = ends_by row names 1 rows.ends (λ label j is less.
        let key : Key = place_in label (pos (1 + j)) in
        sym (fits.names_are.places label (pos (length rows.ends)) (pos (1 + j)) (ap (λ (test : Bool). test || passed.met (rows_of label)) is) (rows_are_given.give label is) (row_in_rows (length rows.ends) j less))
        ∙ ap (λ (test : Bool). if test then rows_give rows.ends key else rows.draft.known.give key) is ∙ row_place_is rows.ends label j)

  rows_array : (name : Option Word) (count : Option ℤ) (row : PlainBody) (passed : Passed) (value : Option Tree) (lines : List (List Tree)) → value ≡ Some (trees.Rows lines) → IsStated count (length lines) → (draft : Draft) (rows : AllRows)
      → length rows.ends ≡ length lines → Fresh (gives_rows row) passed.met → Came known none passed.met (λ names. EndsAre row names 1 rows.ends) draft rows.draft (RowsAre name row passed 1 lines)
      → Came known (gives_rows row) (λ key. gives_rows row key || passed.met key) (FieldCounted (Array name count row) value) draft (behind_rows row rows)
      (λ all names. FieldSpells anyhow known all (Array name count row) names passed value)
  rows_array name count row passed value lines whole stated draft rows many fresh it = record {
    adds = array_adds row draft rows it.adds;
    spells = λ all names fits holds counted. (
      lines,
      whole,
      stated,
      subst (λ (rs : List (List Tree)). IsCounted name (length rs) names) (ap rows_in whole ∙ rows_are lines) counted,
      subst (λ (n : ℕ). AreRows row n names) many (rows_are_given row passed rows fresh all names fits),
      it.spells all names (rows_fit row passed rows fresh all names fits) holds (ends_given row passed rows fresh all names fits),
    );
  }

  array_came : (name : Option Word) (count : Option ℤ) (row : PlainBody) → AreApart row → BodyCame row → FieldCame (Array name count row)
  array_came name count row apart came passed value (v, (lines, is_rows, stated, are), some) draft next fresh marks short met_known is =
      let whole : value ≡ Some (trees.Rows lines) = some ∙ ap (λ (t : Tree). Some t) is_rows in
      let lay = λ (number : ℕ). row_ended known (row_of name number) row in
      let parts = array_parts lay row lines draft next (sym (ap (λ (ls : List (List Tree)). all_laid known name row ls draft) (ap rows_in whole ∙ rows_are lines)) ∙ is) in
      came_met known (gives_rows row) (λ key. gives_rows row key || passed.met key) (met_behind (Array name count row) passed.met) (FieldCounted (Array name count row) value) draft next
      (λ all names. FieldSpells anyhow known all (Array name count row) names passed value) (array_same name count row passed.met)
      (subst (λ (d : Draft). Came known (gives_rows row) (λ key. gives_rows row key || passed.met key) (FieldCounted (Array name count row) value) draft d (λ all names. FieldSpells anyhow known all (Array name count row) names passed value))
      parts.behind
      (rows_array name count row passed value lines whole stated draft parts.rows (ends_length lay 1 draft lines parts.rows parts.is) fresh
      (rows_came name row apart came passed 1 lines are draft parts.rows marks short met_known parts.is)))

  abbrev CaseIs : Word → PlainBody → PlainCases → Passed → Option Tree → List Bool → Environment → RowSpells
  CaseIs name row others passed value all names = CaseSpells anyhow known all (case_and name row others) names passed value

  -- a row by itself
  row_came : (row : PlainBody) → AreApart row → BodyCame row → (passed : Passed) (line : List Tree) → IsRow row line → (draft next : Draft) → length draft.late ≡ length draft.bits → length draft.bits ≤ most_bits
      → MetKnown passed.met draft.known → row_laid known None row draft line ≡ Ok next → Came known none passed.met NoCount draft next (InsideIs row None passed line)
  row_came row own came passed line is_row draft next marks short met_known is =
      let outer = chained (row_ended known None row draft line) (λ one. good one.draft) next is in
      let one = row_parts known None row draft line outer.value outer.is in
      subst (λ (d : Draft). Came known none passed.met NoCount draft d (InsideIs row None passed line)) (ap (λ (e : Ended). e.draft) one.ended ∙ same_ok outer.value.draft next outer.leads)
      (came_counted known none passed.met (HavePlaces row None one.inner) NoCount draft (leave None row draft one.inner) (InsideIs row None passed line) (λ names counted label is. tt)
      (inside_came row own came passed None line is_row draft one.inner marks short met_known one.is))

  -- a case that is chosen, and one that isn't
  case_came : (name : Word) (row : PlainBody) (others : PlainCases) → AreApart row → BodyCame row → (passed : Passed) (v : Tree) → (line : List Tree) × (v ≡ trees.Choice name line) × IsRow row line → (draft next : Draft)
      → length draft.late ≡ length draft.bits → length draft.bits ≤ most_bits → MetKnown passed.met draft.known → case_laid known draft (case_and name row others) (Some v) ≡ Ok next
      → Came known none passed.met NoCount draft next (CaseIs name row others passed (Some v))
  case_came name row others own came passed v (line, is_choice, is_row) draft next marks short met_known is =
      let some : Some v ≡ Some (trees.Choice name line) = ap (λ (t : Tree). Some t) is_choice in
      let chosen : is_case name (Some v) ≡ true = ap (is_case name) some ∙ choice_chosen name line in
      let so : row_laid known None row draft line ≡ Ok next =
      sym (ap (row_laid known None row draft) (ap line_in some ∙ line_is name line))
      ∙ sym (ap (λ (test : Bool). if test then row_laid known None row draft (line_in (Some v)) else case_laid known draft others (Some v)) chosen)
      ∙ is in
      came_is known none passed.met NoCount draft next (InsideIs row None passed line) (CaseIs name row others passed (Some v))
      (λ all names counted it. subst (λ (test : Bool). By test
      ((line : List Tree) × (Some v ≡ Some (trees.Choice name line))
      × Inside row None names (λ own. BodySpells anyhow known all row own (at_front row passed) line) (length draft.bits) draft.late (length next.bits) next.late)
      (CaseSpells anyhow known all others names passed (Some v) (length draft.bits) draft.late (length next.bits) next.late))
      (sym chosen) (line, some, it))
      (row_came row own came passed line is_row draft next marks short met_known so)

  others_came : (name : Word) (row : PlainBody) (others : PlainCases) → AllByRecursion (λ later. str_eq_ignore_ascii_case name.bytes later.bytes ≡ false) (case_names others) → CasesCame others → (passed : Passed) (v : Tree) → IsChoice others v → (draft next : Draft)
      → length draft.late ≡ length draft.bits → length draft.bits ≤ most_bits → MetKnown passed.met draft.known → case_laid known draft (case_and name row others) (Some v) ≡ Ok next
      → Came known none passed.met NoCount draft next (CaseIs name row others passed (Some v))
  others_came name row others differ came passed v is_choice draft next marks short met_known is =
      let other : is_case name (Some v) ≡ false = choice_differs name others differ v is_choice in
      let so : case_laid known draft others (Some v) ≡ Ok next =
      sym (ap (λ (test : Bool). if test then row_laid known None row draft (line_in (Some v)) else case_laid known draft others (Some v)) other) ∙ is in
      came_is known none passed.met NoCount draft next (λ all names. CaseSpells anyhow known all others names passed (Some v)) (CaseIs name row others passed (Some v))
      (λ all names counted it. subst (λ (test : Bool). By test
      ((line : List Tree) × (Some v ≡ Some (trees.Choice name line))
      × Inside row None names (λ own. BodySpells anyhow known all row own (at_front row passed) line) (length draft.bits) draft.late (length next.bits) next.late)
      (CaseSpells anyhow known all others names passed (Some v) (length draft.bits) draft.late (length next.bits) next.late))
      (sym other) it)
      (came passed v is_choice draft next marks short met_known so)

  switch_came : (cases : PlainCases) → CasesCame cases → FieldCame (Switch cases)
  switch_came cases came passed value (v, is_choice, some) draft next fresh marks short met_known is =
      subst (λ (o : Option Tree). Came known none passed.met NoCount draft next (λ all names. CaseSpells anyhow known all cases names passed o)) (sym some)
      (came passed v is_choice draft next marks short met_known (sym (ap (case_laid known draft cases) some) ∙ is))

  body_step : (field : PlainField) (fields : PlainBody) → ((key : Key) → gives_key field key ≡ true → declares fields key ≡ false) → FieldCame field → BodyCame fields → BodyCame (field_and field fields)
  body_step field fields apart one more passed values draft next fresh marks short met_known (rest, front, others) is =
      let each = fronted (takes_value field) (IsValue field) values rest front in
      let value = first_value (takes_value field) values in
      let rest_values = other_values (takes_value field) values in
      let here = at_field (field_and field fields) passed in
      let met = met_behind field passed.met in
      let next_met = (behind field here).met in
      let inner = chained (field_laid known draft field value) (λ mid. body_laid known mid fields rest_values) next is in
      let same : SamePlaces met next_met = λ in_rows name. ap (λ (m : Names). m (label_key in_rows name)) (sym (behind_met field here)) in
      let fresh_more : Fresh (gives_places fields) met = fresh_rest field fields apart passed.met fresh in
      let first = one here value each.one draft inner.value (fresh_first field fields passed.met fresh) marks short met_known inner.is in
      let met_mid : MetKnown next_met inner.value.known =
      λ in_rows name. sym (same in_rows name) ∙ met_field field passed.met inner.value.known (known_behind known (gives_place field) passed.met draft inner.value first.adds met_known) in_rows name in
      let last = came_met known (gives_places fields) (met_all fields next_met) (met_all fields met) (AreCounted fields rest_values) inner.value next (λ all names. BodySpells anyhow known all fields names (behind field here) rest_values)
      (met_all_same fields next_met met (places_back met next_met same))
      (more (behind field here) rest_values inner.value next (λ key label. ap (λ (m : Names). m key) (behind_met field here) ∙ fresh_more key label)
      (adds_marks (gives_place field) draft inner.value first.adds marks) first.adds.short met_mid (subst (IsRow fields) each.others others) inner.leads) in
      then_came known (gives_place field) (gives_places fields) met (met_all fields met) (FieldCounted field value) (AreCounted fields rest_values) value rest_values values each.whole
      (λ all names v. FieldSpells anyhow known all field names here v) (λ all names vs. BodySpells anyhow known all fields names (behind field here) vs) draft inner.value next marks first last
      (still_body known fields met fresh_more)

  mutual
    field_came : (field : PlainField) → IsApart field → FieldCame field
    field_came (Number number) apart passed value has draft next fresh marks short met_known is =
        pieces_field passed (Number number) (refl, tt) value tt (number_has number value has) draft next marks short met_known is
    field_came (Text text) apart passed value has draft next fresh marks short met_known is =
        pieces_field passed (Text text) (refl, tt) value tt (text_has text value has) draft next marks short met_known is
    field_came (Points points) apart passed value has draft next fresh marks short met_known is =
        let each = points_have points points.fixed value has in
        pieces_field passed (Points points) (points_unplaced points.rect points.fixed) value each.0 each.1 draft next marks short met_known is
    field_came (Fill unit count) apart passed value has draft next fresh marks short met_known is =
        pieces_field passed (Fill unit count) (refl, tt) value tt (single_fed (Zeros (unit * nat_abs count)) value (ap is_some has) has) draft next marks short met_known is
    field_came (Align unit) apart passed value has draft next fresh marks short met_known is =
        pieces_field passed (Align unit) (refl, tt) value tt (single_fed (Filler unit) value (ap is_some has) has) draft next marks short met_known is
    field_came (Label name) apart passed value has draft next fresh marks short met_known is = label_came passed name value has draft next fresh marks met_known is
    field_came (Array name count row) apart passed value has draft next fresh marks short met_known is =
        array_came name count row apart (body_came row apart) passed value has draft next fresh marks short met_known is
    field_came (Switch cases) apart passed value has draft next fresh marks short met_known is =
        switch_came cases (cases_came cases apart) passed value has draft next fresh marks short met_known is

    cases_came : (cases : PlainCases) → AreCasesApart cases → CasesCame cases
    cases_came no_cases apart passed v is_choice draft next marks short met_known is = absurd is_choice
    cases_came (case_and name row others) apart passed v (inl it) draft next marks short met_known is =
        case_came name row others apart.1 (body_came row apart.1) passed v it draft next marks short met_known is
    cases_came (case_and name row others) apart passed v (inr it) draft next marks short met_known is =
        others_came name row others apart.0 (cases_came others apart.2) passed v it draft next marks short met_known is

    pub body_came : (body : PlainBody) → AreApart body → BodyCame body
    body_came no_fields apart passed values draft next fresh marks short met_known is_row is =
        subst (λ (d : Draft). Came known none passed.met (AreCounted no_fields values) draft d (λ all names. BodySpells anyhow known all no_fields names passed values)) (same_ok draft next is)
        (record { adds = adds_none draft short; spells = λ all names fits holds counted. (is_row, refl, refl) })
    body_came (field_and field fields) apart passed values draft next fresh marks short met_known is_row is =
        body_step field fields apart.0 (field_came field apart.1) (body_came fields apart.2) passed values draft next fresh marks short met_known is_row is

module _ (written : (bits : List Bool) → length bits % 8 ≡ 0 → bits_of (bytes_of bits) ≡ bits) (multiple : (unit : ℕ) (bits : List Bool) → 0 < unit → length (filled unit bits) % unit ≡ 0)
    (small : (bits : List Bool) (k : ℕ) → slice_index (bytes_of bits) k < 256) where
  pub sound : (known : Facts) (body : PlainBody) → AreApart body → (row : List Tree) (bytes : List ℕ) → IsRow body row → laid known body row ≡ Ok bytes
      → Spells known body row bytes
  sound known body apart row bytes are is =
      let one = chained (row_laid known None body nothing_laid row) (λ draft. fill known outside draft.numbers draft.bits >>= λ bits. good (bytes_of (filled 8 bits))) bytes is in
      let draft : Draft = one.value in
      let two = chained (fill known outside draft.numbers draft.bits) (λ bits. good (bytes_of (filled 8 bits))) bytes one.leads in
      let own : List Bool = two.value in
      let more = zeros (missing 8 (length own)) in
      let bytes_are : bytes_of (filled 8 own) ≡ bytes = same_ok _ bytes two.leads in
      let all = bits_of bytes in
      let all_is : all ≡ own ++ more = ap bits_of (sym bytes_are) ∙ written (filled 8 own) (multiple 8 own (omega (arith))) in
      let c = row_came known body apart (body_came known body apart) nothing_passed row are nothing_laid draft refl (omega (arith)) (λ in_rows name. refl) one.is in
      let size : length c.adds.marks ≡ length draft.bits = c.adds.same ∙ ap length (sym c.adds.bits_are) in
      let second = fill_came known IsAny own more outside c.adds.numbers c.adds.marks [] draft.bits 0 refl size c.adds.tracks
      (ap (λ (n : List LateNumber). fill known outside n draft.bits) (sym c.adds.numbers_are) ∙ two.is) in
      let own_is : own ≡ second.rest = second.all_is in
      let long : length own ≡ length draft.bits = ap length own_is ∙ second.len in
      let front : take (length draft.bits) all ≡ own = ap (take (length draft.bits)) all_is ∙ take_at own more (length draft.bits) long in
      let zero : draft.bits ≡ masked c.adds.marks own =
      c.adds.bits_are ∙ c.adds.is_zero ∙ ap (masked c.adds.marks) (sym c.adds.bits_are) ∙ sym second.same ∙ ap (masked c.adds.marks) (sym own_is) in
      let within : length draft.bits ≤ length all = (let n = ap length all_is in let m = length-append own more in omega (arith, n, m, long)) in
      let fits : FitsAll known all outside nothing_passed.met draft = record {
        bits = zero ∙ (λ i. masked (sym c.adds.marks_are i) (sym front i));
        len = refl;
        late_is = refl;
        marks = ap length c.adds.marks_are ∙ size;
        within = within;
        names_are = record { names = λ key single early. c.adds.names_are key refl; places = λ label rows number was has inside. c.adds.names_are (place_in label number) refl };
      } in
      let it = c.spells all outside fits (subst (λ (a : List Bool). Each (Holds known a outside) c.adds.numbers) (sym all_is) second.holds) tt in
      record {
        names = it.0;
        own = it.1;
        end = length draft.bits;
        late = draft.late;
        fields = it.2;
        filled = all_is ∙ ap (filled 8) (sym front);
        within = within;
        are_bytes = subst (λ (bs : List ℕ). (k : ℕ) → slice_index bs k < 256) bytes_are (small (filled 8 own));
      }

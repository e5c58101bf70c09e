-- The pieces of a row that is laid, each at its place, in bodies with finished names.
use Rattle.std.proofs.Common.{◌≡◌, inl, inr, ℕ, ◌+◌, ◌≤◌, ◌*◌, ℤ, pos, Bool, true, false, ◌||◌, not, List, [], ◌∷◌, ◌++◌, length, map, Option, Some, None, Ok, refl, sym, ap, subst, ◌∙◌}
use Rattle.std.specs.Prelude.{if◌then◌else◌, nat_abs}
use Rattle.std.specs.List.{AllByRecursion}
use Rattle.std.specs.Option.{is_some, option_to_list}
use Rattle.std.specs.Str.{str_eq_ignore_ascii_case}
use Rattle.std.proofs.lemmas.List.{append_assoc, append-nil}
use Rattle.rz_core.proofs.Tests.{true_false}
use Rattle.rz_core.specs.declared.facts.Facts.{Facts}
use Rattle.rz_core.specs.declared.resource.Word.{Word}
use Rattle.rz_expr.specs.Environment.{place_in, rows_of, Environment, Key}
use Rattle.rz_layout.proofs.Adding.{adds_labels, adds_marks, adds_none, alike_back, back, both_came, known_behind, Adds, FitsAll, Still}
use Rattle.rz_layout.proofs.Coming.{Fresh}
use Rattle.rz_layout.proofs.Complete.{array_same, met_all_same, places_back, points_unplaced, same_behind, Unplaced}
use Rattle.rz_layout.proofs.Counts.{AreApart, AreCasesApart, AreCounted, FieldCounted, IsApart}
use Rattle.rz_layout.proofs.EachRow.{array_parts, ends_length, row_end, row_parts, rows_parts}
use Rattle.rz_layout.proofs.Fed.{number_has, points_have, single_fed, text_has, AreFed}
use Rattle.rz_layout.proofs.Filled.{chained, same_ok}
use Rattle.rz_layout.proofs.Fitting.{fits_met, met_piece, piece_is, SamePlaces}
use Rattle.rz_layout.proofs.Inward.{inside_counts, inside_fits, inside_within}
use Rattle.rz_layout.proofs.Labels.{behind_met, gives_place, gives_places, label_key, met_all, met_behind, met_entered, met_field, MetKnown}
use Rattle.rz_layout.proofs.Placing.{ends_by, row_in_rows, row_place_is, EndsAre}
use Rattle.rz_layout.proofs.Rows.{choice_chosen, choice_differs, fronted, Takes}
use Rattle.rz_layout.proofs.Sound.{body_came, inside_came}
use Rattle.rz_layout.proofs.Texts.{good}
use Rattle.rz_layout.proofs.Trees.{line_is, rows_are}
use Rattle.rz_layout.proofs.Unmet.{fresh_first, fresh_front, fresh_rest, rows_given, still_body, still_rows}
use Rattle.rz_laws.proofs.Goes.{counted, counted_and, run_and, tally_and, tally_closing, Tally}
use Rattle.rz_laws.proofs.Drafting.{with_around}
use Rattle.rz_laws.proofs.Leaving.{no_end, piece_lays, unplaced_none, Ending, LaysOut}
use Rattle.rz_laws.proofs.Stands.{behind_in_rows, entered_in_rows}
use Rattle.rz_laws.specs.Flat.{all_rows, and_end, between, flat, flat_case, flat_field, flat_pieces, flat_row, flat_rows, Ends, EndsRows, Lays, Step}
use Rattle.rz_laws.specs.Placed.{ArePieces, BodyPlaced, CasePlaced, FieldPlaced, InOrderPlaced, InsidePlaced, LeafPlaced, OnePlaced, Placed, RowsPlaced}
use Rattle.rz_laws.specs.Shown.{AreShown}
use Rattle.rz_types.specs.Rules.{case_names}
use Rattle.rz_types_fields.specs.Field.{case_and, field_and, no_cases, no_fields, takes_value, Align, Array, Fill, Label, Number, PlainBody, PlainCases, PlainField, Points, Switch, Text}
use Rattle.rz_types_fields.specs.Laid.{all_laid, and_row, behind_rows, body_laid, case_laid, closing, enter, field_laid, first_value, in_order, lay, leave, line_in, other_values, outside_of, pieces_laid, row_ended, row_laid, rows_in, rows_laid, takes_one, AllRows, Draft, Ended, LateNumber}
use Rattle.rz_types_fields.specs.Passed.{at_field, at_front, behind, behind_piece, declares, gives_key, gives_rows, has_label, Names, Passed}
use Rattle.rz_types_fields.specs.Piece.{pieces_of, Filler, Piece, Place, Zeros}
use Rattle.rz_types_fields.specs.Row.{By, IsChoice, IsRow, IsStated, IsValue}
use Rattle.rz_types_fields.specs.RowLabels.{also_rows, row_of, rows_give, RowOf}
use Rattle.rz_types_fields.specs.Spells.{is_case, most_bits, values_for, AreRows, HasPlace, IsCounted, IsGroupedFor, RowSpells}
use Rattle.rz_types_fields.specs.declared.tree.Tree.{Tree}
use Rattle.rz_types_fields.specs.declared.tree.Tree.TheVariants as trees

module _ (known : Facts) where
  abbrev NoCount : Environment → Type 0
  NoCount names = Unit {0}

  abbrev none : Key → Bool
  none key = false

  abbrev Anything : List Bool → Environment → RowSpells
  Anything all names at late after late_after = Unit {0}

  -- Steps.

  lays_met : (labels : Key → Bool) (one two : Names) (Counted : Environment → Type 0) (draft next : Draft) (steps : List Step) (ending : Ending) (Are : Environment → ArePieces) → SamePlaces one two
      → LaysOut known labels one Counted draft next steps ending Are → LaysOut known labels two Counted draft next steps ending Are
  lays_met labels one two Counted draft next steps ending Are same it = record {
    adds = it.adds;
    numbers = it.numbers;
    numbers_are = it.numbers_are;
    in_rows = it.in_rows;
    lists = λ all names fits counts. it.lists all names (fits_met known all names two one (λ in_rows name. sym (same in_rows name)) (length next.bits) next.late next fits) counts;
  }

  lays_labels : (one two : Key → Bool) (met : Names) (Counted : Environment → Type 0) (draft next : Draft) (steps : List Step) (ending : Ending) (Are : Environment → ArePieces) → ((key : Key) → one key ≡ two key)
      → LaysOut known one met Counted draft next steps ending Are → LaysOut known two met Counted draft next steps ending Are
  lays_labels one two met Counted draft next steps ending Are same it =
      record { adds = adds_labels one two draft next same it.adds; numbers = it.numbers; numbers_are = it.numbers_are; in_rows = it.in_rows; lists = it.lists }

  lays_is : (labels : Key → Bool) (met : Names) (One Two : Environment → Type 0) (draft next : Draft) (steps : List Step) (ending : Ending) (Are Also : Environment → ArePieces) → ((names : Environment) → Two names → One names)
      → ((names : Environment) → Two names → (pieces : List Placed) → Are names pieces → Also names pieces)
      → LaysOut known labels met One draft next steps ending Are → LaysOut known labels met Two draft next steps ending Also
  lays_is labels met One Two draft next steps ending Are Also so also it = record {
    adds = it.adds;
    numbers = it.numbers;
    numbers_are = it.numbers_are;
    in_rows = it.in_rows;
    lists = λ all names fits counts. let found = it.lists all names fits (so names counts) in record {
      pieces = found.pieces;
      are = also names counts found.pieces found.are;
      run = found.run;
      count = found.count;
      tally = found.tally;
      shown = found.shown;
    };
  }

  lays_ends : (labels : Key → Bool) (met : Names) (Counted : Environment → Type 0) (draft next : Draft) (steps : List Step) (one two : Ending) (Are : Environment → ArePieces)
      → ((ends : List (List Environment)) → one ends ≡ two ends) → LaysOut known labels met Counted draft next steps one Are → LaysOut known labels met Counted draft next steps two Are
  lays_ends labels met Counted draft next steps one two Are same it = record {
    adds = it.adds;
    numbers = it.numbers;
    numbers_are = it.numbers_are;
    in_rows = it.in_rows;
    lists = λ all names fits counts. let found = it.lists all names fits counts in record {
      pieces = found.pieces;
      are = found.are;
      run = found.run;
      count = found.count;
      tally = found.tally;
      shown = λ rows around ends more others shown. found.shown rows around ends more others (subst (λ (es : List (List Environment)). AreShown known all (with_around around es next) more others) (sym (same ends)) shown);
    };
  }

  nothing_lays : (met : Names) (Counted : Environment → Type 0) (draft : Draft) (Are : Environment → ArePieces) → length draft.bits ≤ most_bits → ((names : Environment) → Are names []) → LaysOut known none met Counted draft draft [] no_end Are
  nothing_lays met Counted draft Are short are = record {
    adds = adds_none draft short;
    numbers = [];
    numbers_are = sym (append-nil draft.numbers);
    in_rows = λ rows. rows;
    lists = λ all names fits counts. record { pieces = []; are = are names; run = (refl, refl); count = refl; tally = refl; shown = λ rows around ends more others shown. shown };
  }

  lays_both : (one two : Key → Bool) (met after : Names) (CountedOne CountedTwo : Environment → Type 0) (draft mid next : Draft) (steps also : List Step) (ending last : Ending) (One Others Both : Environment → ArePieces) → length draft.late ≡ length draft.bits
      → ((names : Environment) (front back : List Placed) → One names front → Others names back → Both names (front ++ back))
      → LaysOut known one met CountedOne draft mid steps ending One → LaysOut known two after CountedTwo mid next also last Others → Still known met two after
      → LaysOut known (λ key. one key || two key) after (λ names. CountedOne names × CountedTwo names) draft next (steps ++ also) (λ ends. last (ending ends)) Both
  lays_both one two met after CountedOne CountedTwo draft mid next steps also ending last One Others Both marks joined a b still = record {
    adds = (both_came known one two met after NoCount NoCount draft mid next Anything Anything Anything marks (λ all names x y. tt) (record { adds = a.adds; spells = λ all names fits holds counts. tt })
        (record { adds = b.adds; spells = λ all names fits holds counts. tt }) still).adds;
    numbers = a.numbers ++ b.numbers;
    numbers_are = b.numbers_are ∙ ap (λ (l : List LateNumber). l ++ b.numbers) a.numbers_are ∙ append_assoc draft.numbers a.numbers b.numbers;
    in_rows = λ rows. b.in_rows (a.in_rows rows);
    lists = λ all names fits counts.
        let first = a.lists all names (back known all names met after two mid next b.adds (adds_marks one draft mid a.adds marks) fits still) counts.0 in
        let more = b.lists all names fits counts.1 in
        record {
          pieces = first.pieces ++ more.pieces;
          are = joined names first.pieces more.pieces first.are more.are;
          run = run_and known all first.pieces more.pieces (length draft.bits) draft.late (length mid.bits) mid.late (length next.bits) next.late first.run more.run;
          count = more.count ∙ ap (λ (n : ℕ). counted n more.pieces) first.count ∙ sym (counted_and draft.piece first.pieces more.pieces);
          tally = tally_and names draft.piece first.pieces more.pieces a.numbers b.numbers first.tally (subst (λ (n : ℕ). Tally names n more.pieces b.numbers) first.count more.tally);
          shown = λ rows around ends rest others shown.
              subst (λ (ss : List Step). AreShown known all (with_around around ends draft) ss ((first.pieces ++ more.pieces) ++ others)) (sym (append_assoc steps also rest))
              (subst (AreShown known all (with_around around ends draft) (steps ++ (also ++ rest))) (sym (append_assoc first.pieces more.pieces others))
              (first.shown rows around ends (also ++ rest) (more.pieces ++ others) (more.shown (a.in_rows rows) around (ending ends) rest others shown)));
        };
  }

  -- Pieces.

  pieces_lay : (passed : Passed) (pieces : List Piece) → Unplaced pieces → (values : List Tree) → AreFed pieces values → (draft next : Draft) → length draft.late ≡ length draft.bits → length draft.bits ≤ most_bits
      → MetKnown passed.met draft.known → in_order takes_one (lay known) draft pieces values ≡ Ok next
      → LaysOut known none passed.met NoCount draft next (flat_pieces pieces values) no_end (λ names. InOrderPlaced names passed pieces values)
  pieces_lay passed [] flat values fed draft next marks short met_known is =
      subst (λ (d : Draft). LaysOut known none passed.met NoCount draft d [] no_end (λ names. InOrderPlaced names passed [] values)) (same_ok draft next is)
      (nothing_lays passed.met NoCount draft (λ names. InOrderPlaced names passed [] values) short (λ names. (fed, refl)))
  pieces_lay passed (piece ∷ pieces) flat values fed draft next marks short met_known is =
      let value = first_value (takes_one piece) values in
      let rest = other_values (takes_one piece) values in
      let next_met = (behind_piece piece passed).met in
      let inner = chained (lay known draft piece value) (λ mid. in_order takes_one (lay known) mid pieces rest) next is in
      let plain = unplaced_none piece flat.0 in
      let same : SamePlaces (met_piece piece passed.met) passed.met = λ in_rows name. ap (λ (test : Bool). test || passed.met (label_key in_rows name)) (plain (label_key in_rows name)) in
      let One : Environment → ArePieces = λ names. OnePlaced names passed piece value in
      let Others : Environment → ArePieces = λ names. InOrderPlaced names (behind_piece piece passed) pieces rest in
      let Both : Environment → ArePieces = λ names. InOrderPlaced names passed (piece ∷ pieces) values in
      let first = lays_met none (met_piece piece passed.met) passed.met NoCount draft inner.value (Lays piece value ∷ []) no_end One same
      (lays_labels (piece_is piece) none (met_piece piece passed.met) NoCount draft inner.value (Lays piece value ∷ []) no_end One plain
      (piece_lays known passed piece value fed.0 draft inner.value (λ key is. absurd (true_false (sym is ∙ plain key))) marks met_known inner.is)) in
      let met_mid : MetKnown next_met inner.value.known = λ in_rows name. sym (same_behind piece passed in_rows name) ∙ known_behind known none passed.met draft inner.value first.adds met_known in_rows name in
      let more = lays_met none next_met passed.met NoCount inner.value next (flat_pieces pieces rest) no_end Others (places_back passed.met next_met (same_behind piece passed))
      (pieces_lay (behind_piece piece passed) pieces flat.1 rest fed.2 inner.value next (adds_marks none draft inner.value first.adds marks) first.adds.short met_mid inner.leads) in
      lays_is none passed.met (λ names. Unit {0} × Unit {0}) NoCount draft next (flat_pieces (piece ∷ pieces) values) no_end Both Both (λ names counts. (tt, tt)) (λ names counts ps are. are)
      (lays_both none none passed.met passed.met NoCount NoCount draft inner.value next (Lays piece value ∷ []) (flat_pieces pieces rest) no_end no_end One Others Both marks
      (λ names front back_pieces one others. (value, rest, front, back_pieces, fed.1, refl, one, others)) first more (λ key early. (refl, early)))

  field_pieces : (passed : Passed) (field : PlainField) → Unplaced (pieces_of field) → (value : Option Tree) → IsGroupedFor field value → AreFed (pieces_of field) (values_for field value) → (draft next : Draft)
      → length draft.late ≡ length draft.bits → length draft.bits ≤ most_bits → MetKnown passed.met draft.known → pieces_laid known draft field value ≡ Ok next
      → LaysOut known none passed.met NoCount draft next (flat_pieces (pieces_of field) (values_for field value)) no_end (λ names. LeafPlaced field names passed value)
  field_pieces passed field flat value grouped fed draft next marks short met_known is =
      lays_is none passed.met NoCount NoCount draft next (flat_pieces (pieces_of field) (values_for field value)) no_end (λ names. InOrderPlaced names passed (pieces_of field) (values_for field value)) (λ names. LeafPlaced field names passed value)
      (λ names counts. tt) (λ names counts ps are. (grouped, are)) (pieces_lay passed (pieces_of field) flat (values_for field value) fed draft next marks short met_known is)

  label_lays : (passed : Passed) (name : Word) (value : Option Tree) → value ≡ None → (draft next : Draft) → Fresh (gives_place (Label name)) passed.met
      → length draft.late ≡ length draft.bits → MetKnown passed.met draft.known → pieces_laid known draft (Label name) value ≡ Ok next
      → LaysOut known (gives_place (Label name)) (met_behind (Label name) passed.met) NoCount draft next (Lays (Place name) None ∷ []) no_end (λ names. LeafPlaced (Label name) names passed value)
  label_lays passed name value empty draft next fresh marks met_known is =
      let inner = chained (lay known draft (Place name) None) (λ mid. good mid) next is in
      let laid : lay known draft (Place name) None ≡ Ok next = inner.is ∙ ap (λ (d : Draft). Ok d) (same_ok inner.value next inner.leads) in
      lays_is (gives_place (Label name)) (met_behind (Label name) passed.met) NoCount NoCount draft next (Lays (Place name) None ∷ []) no_end (λ names. OnePlaced names passed (Place name) None) (λ names. LeafPlaced (Label name) names passed value)
      (λ names counts. tt)
      (λ names counts ps are. (tt, (None, option_to_list value, ps, [], refl, sym (append-nil ps), are, (ap option_to_list empty, refl))))
      (piece_lays known passed (Place name) None refl draft next fresh marks met_known laid)

  -- Rows.

  abbrev BodyLays : PlainBody → Type 0
  BodyLays body = (passed : Passed) (values : List Tree) (draft next : Draft) → Fresh (gives_places body) passed.met → length draft.late ≡ length draft.bits → length draft.bits ≤ most_bits
      → MetKnown passed.met draft.known → IsRow body values → body_laid known draft body values ≡ Ok next
      → LaysOut known (gives_places body) (met_all body passed.met) (AreCounted body values) draft next (flat body values) no_end (λ names. BodyPlaced body names passed values)

  abbrev InsideIs : PlainBody → Option RowOf → Passed → List Tree → Environment → ArePieces
  InsideIs row which passed line names = InsidePlaced row which names (λ own. BodyPlaced row own (at_front row passed) line)

  -- outside the labels of a row have the places that they have in it
  abbrev HavePlaces : PlainBody → Option RowOf → Draft → Environment → Type 0
  HavePlaces row which inner names = (label : List ℕ) → has_label row label ≡ true → HasPlace which label names inner.known

  inside_lays : (row : PlainBody) → AreApart row → BodyLays row → (passed : Passed) (which : Option RowOf) (line : List Tree) → IsRow row line → (draft inner : Draft) → length draft.late ≡ length draft.bits → length draft.bits ≤ most_bits
      → MetKnown passed.met draft.known → body_laid known (enter which row line draft) row line ≡ Ok inner → LaysOut known none passed.met (HavePlaces row which inner) draft (leave which row draft inner)
      (between which row line (flat row line)) (and_end which inner.known) (InsideIs row which passed line)
  inside_lays row apart lays passed which line is_row draft inner marks short met_known is =
      let c = lays (at_front row passed) line (enter which row line draft) inner (fresh_front row passed.met) marks short (met_entered which row line passed.met draft.known met_known) is_row is in
      record {
        adds = (inside_came known row apart (body_came known row apart) passed which line is_row draft inner marks short met_known is).adds;
        numbers = map (closing which row inner.known) c.numbers;
        numbers_are = ap (λ (n : List LateNumber). draft.numbers ++ map (closing which row inner.known) n) c.numbers_are;
        in_rows = λ rows. rows;
        lists = λ all names fits counts.
            let own : Environment = outside_of which row inner.known names in
            let it = c.lists all own (inside_fits known row apart which passed line draft inner c.adds all names fits) (inside_counts known row apart which passed line draft inner c.adds all names fits) in
            record {
              pieces = it.pieces;
              are = (own, inside_within known row apart which passed line draft inner c.adds all names fits counts, it.are);
              run = it.run;
              count = it.count;
              tally = tally_closing which row inner.known names draft.piece it.pieces c.numbers it.tally;
              shown = λ rows around ends more others shown. (
                it.pieces ++ others,
                refl,
                with_around (draft ∷ around) ends (enter which row line draft),
                refl,
                subst (λ (ss : List Step). AreShown known all (with_around (draft ∷ around) ends (enter which row line draft)) ss (it.pieces ++ others)) (sym (append_assoc (flat row line) (Ends which row ∷ []) more))
                    (it.shown (entered_in_rows which row line draft.known rows) (draft ∷ around) ends (Ends which row ∷ more) others
                    (others, refl, with_around around (and_end which inner.known ends) (leave which row draft inner), refl, shown)),
              );
            };
      }

  abbrev RowsAre : Option Word → PlainBody → Passed → ℕ → List (List Tree) → Environment → ArePieces
  RowsAre name row passed number rows names = RowsPlaced (λ number line. InsidePlaced row (row_of name number) names (λ own. BodyPlaced row own (at_front row passed) line)) number rows

  abbrev RowSteps : Option Word → PlainBody → ℕ → List (List Tree) → List Step
  RowSteps name row number rows = flat_rows (λ number line. between (row_of name number) row line (flat row line)) number rows

  -- the ends of more rows of the nearest array
  abbrev and_ends : List Environment → Ending
  and_ends own [] = []
  and_ends own (nearest ∷ others) = (nearest ++ own) ∷ others

  no_ends : (ends : List (List Environment)) → ends ≡ and_ends [] ends
  no_ends [] = refl
  no_ends (nearest ∷ others) = ap (λ (l : List Environment). l ∷ others) (sym (append-nil nearest))

  one_end : (name : Option Word) (number : ℕ) (own : Environment) (more : List Environment) (ends : List (List Environment)) → and_ends more (and_end (row_of name number) own ends) ≡ and_ends (own ∷ more) ends
  one_end name number own more [] = refl
  one_end name number own more (nearest ∷ others) = ap (λ (l : List Environment). l ∷ others) (append_assoc nearest (own ∷ []) more)

  rows_lay : (name : Option Word) (row : PlainBody) → AreApart row → BodyLays row → (passed : Passed) (number : ℕ) (rows : List (List Tree)) → AllByRecursion (IsRow row) rows → (draft : Draft) (all : AllRows)
      → length draft.late ≡ length draft.bits → length draft.bits ≤ most_bits → MetKnown passed.met draft.known → rows_laid (λ number. row_ended known (row_of name number) row) number draft rows ≡ Ok all
      → LaysOut known none passed.met (λ names. EndsAre row names number all.ends) draft all.draft (RowSteps name row number rows) (and_ends all.ends) (RowsAre name row passed number rows)
  rows_lay name row apart lays passed number [] are draft all marks short met_known is =
      subst (λ (laid : AllRows). LaysOut known none passed.met (λ names. EndsAre row names number laid.ends) draft laid.draft [] (and_ends laid.ends) (RowsAre name row passed number []))
      (same_ok (record { draft = draft; ends = [] }) all is)
      (lays_ends none passed.met (λ names. EndsAre row names number []) draft draft [] no_end (and_ends []) (RowsAre name row passed number []) no_ends
      (nothing_lays passed.met (λ names. EndsAre row names number []) draft (RowsAre name row passed number []) short (λ names. refl)))
  rows_lay name row apart lays passed number (line ∷ rows) are draft all marks short met_known is =
      let which = row_of name number in
      let parts = rows_parts (λ number. row_ended known (row_of name number) row) number draft line rows all is in
      let one = row_parts known which row draft line parts.one parts.first in
      let mid = leave which row draft one.inner in
      let first = inside_lays row apart lays passed which line are.0 draft one.inner marks short met_known one.is in
      let more = rows_lay name row apart lays passed (number + 1) rows are.1 mid parts.others (adds_marks none draft mid first.adds marks) first.adds.short
      (known_behind known none passed.met draft mid first.adds met_known)
      (ap (λ (e : Ended). rows_laid (λ number. row_ended known (row_of name number) row) (number + 1) e.draft rows) one.ended ∙ parts.more) in
      let whole : and_row (row_end which row draft one.inner) parts.others ≡ all = ap (λ (e : Ended). and_row e parts.others) one.ended ∙ parts.whole in
      subst (λ (laid : AllRows). LaysOut known none passed.met (λ names. EndsAre row names number laid.ends) draft laid.draft (RowSteps name row number (line ∷ rows)) (and_ends laid.ends) (RowsAre name row passed number (line ∷ rows))) whole
      (lays_ends none passed.met (λ names. EndsAre row names number (one.inner.known ∷ parts.others.ends)) draft parts.others.draft (RowSteps name row number (line ∷ rows))
      (λ ends. and_ends parts.others.ends (and_end which one.inner.known ends)) (and_ends (one.inner.known ∷ parts.others.ends)) (RowsAre name row passed number (line ∷ rows))
      (one_end name number one.inner.known parts.others.ends)
      (lays_both none none passed.met passed.met (HavePlaces row which one.inner) (λ names. EndsAre row names (number + 1) parts.others.ends) draft mid parts.others.draft
      (between which row line (flat row line)) (RowSteps name row (number + 1) rows) (and_end which one.inner.known) (and_ends parts.others.ends)
      (InsideIs row which passed line) (RowsAre name row passed (number + 1) rows) (RowsAre name row passed number (line ∷ rows)) marks
      (λ names front back_pieces one others. (front, back_pieces, refl, one, others)) first more (λ key early. (refl, early))))

  -- Fields.

  abbrev FieldLays : PlainField → Type 0
  FieldLays field = (passed : Passed) (value : Option Tree) → Takes (takes_value field) (IsValue field) value → (draft next : Draft) → Fresh (gives_place field) passed.met → length draft.late ≡ length draft.bits → length draft.bits ≤ most_bits
      → MetKnown passed.met draft.known → field_laid known draft field value ≡ Ok next
      → LaysOut known (gives_place field) (met_behind field passed.met) (FieldCounted field value) draft next (flat_field field value) no_end (λ names. FieldPlaced field names passed value)

  abbrev CasesLay : PlainCases → Type 0
  CasesLay cases = (passed : Passed) (v : Tree) → IsChoice cases v → (draft next : Draft) → length draft.late ≡ length draft.bits → length draft.bits ≤ most_bits
      → MetKnown passed.met draft.known → case_laid known draft cases (Some v) ≡ Ok next
      → LaysOut known none passed.met NoCount draft next (flat_case cases (Some v)) no_end (λ names. CasePlaced cases names passed (Some v))

  abbrev array_adds : (row : PlainBody) (draft : Draft) (rows : AllRows) → Adds none draft rows.draft → Adds (gives_rows row) draft (behind_rows row rows)
  array_adds row draft rows a = record {
    bits = a.bits;
    marks = a.marks;
    bits_are = a.bits_are;
    marks_are = a.marks_are;
    same = a.same;
    is_zero = a.is_zero;
    numbers = a.numbers;
    numbers_are = a.numbers_are;
    tracks = a.tracks;
    short = a.short;
    names_are = λ key is. ap (λ (test : Bool). if test then rows_give rows.ends key else rows.draft.known.give key) is ∙ a.names_are key refl;
    given = rows_given row rows.ends rows.draft.known;
  }

  module _ (row : PlainBody) (passed : Passed) (rows : AllRows) (fresh : Fresh (gives_rows row) passed.met) (all : List Bool) (names : Environment)
      (fits : FitsAll known all names (λ key. gives_rows row key || passed.met key) (behind_rows row rows)) where
    rows_fit : FitsAll known all names passed.met rows.draft
    rows_fit = record {
      bits = fits.bits;
      len = refl;
      late_is = refl;
      marks = fits.marks;
      within = fits.within;
      names_are = alike_back known (gives_rows row) passed.met (λ key. gives_rows row key || passed.met key) rows.draft.known (also_rows row rows.ends rows.draft.known) names
          (λ key is. ap (λ (test : Bool). if test then rows_give rows.ends key else rows.draft.known.give key) is) (still_rows known row passed.met fresh) fits.names_are;
    }

    rows_are_given : AreRows row (length rows.ends) names
    rows_are_given = record {
      give = λ label is. sym (fits.names_are.names (rows_of label) refl (ap (λ (test : Bool). not (test || passed.met (rows_of label))) is))
          ∙ ap (λ (test : Bool). if test then Some (pos (length rows.ends)) else rows.draft.known.give (rows_of label)) is;
    }

    ends_given : EndsAre row names 1 rows.ends
    ends_given = ends_by row names 1 rows.ends (λ label j is less.
        let key : Key = place_in label (pos (1 + j)) in
        sym (fits.names_are.places label (pos (length rows.ends)) (pos (1 + j)) (ap (λ (test : Bool). test || passed.met (rows_of label)) is) (rows_are_given.give label is) (row_in_rows (length rows.ends) j less))
        ∙ ap (λ (test : Bool). if test then rows_give rows.ends key else rows.draft.known.give key) is ∙ row_place_is rows.ends label j)

  rows_array : (name : Option Word) (count : Option ℤ) (row : PlainBody) (passed : Passed) (value : Option Tree) (lines : List (List Tree)) → value ≡ Some (trees.Rows lines) → IsStated count (length lines) → (draft : Draft) (rows : AllRows)
      → length rows.ends ≡ length lines → Fresh (gives_rows row) passed.met → LaysOut known none passed.met (λ names. EndsAre row names 1 rows.ends) draft rows.draft (RowSteps name row 1 lines) (and_ends rows.ends) (RowsAre name row passed 1 lines)
      → LaysOut known (gives_rows row) (λ key. gives_rows row key || passed.met key) (FieldCounted (Array name count row) value) draft (behind_rows row rows)
      (all_rows row (RowSteps name row 1 lines)) no_end (λ names. FieldPlaced (Array name count row) names passed value)
  rows_array name count row passed value lines whole stated draft rows many fresh it = record {
    adds = array_adds row draft rows it.adds;
    numbers = it.numbers;
    numbers_are = it.numbers_are;
    in_rows = λ given. behind_in_rows row rows.ends rows.draft.known (it.in_rows given);
    lists = λ all names fits counts.
        let found = it.lists all names (rows_fit row passed rows fresh all names fits) (ends_given row passed rows fresh all names fits) in
        record {
          pieces = found.pieces;
          are = (
            lines,
            whole,
            stated,
            subst (λ (rs : List (List Tree)). IsCounted name (length rs) names) (ap rows_in whole ∙ rows_are lines) counts,
            subst (λ (n : ℕ). AreRows row n names) many (rows_are_given row passed rows fresh all names fits),
            found.are,
          );
          run = found.run;
          count = found.count;
          tally = found.tally;
          shown = λ given around ends more others shown. (
            found.pieces ++ others,
            refl,
            with_around around ([] ∷ ends) draft,
            refl,
            subst (λ (ss : List Step). AreShown known all (with_around around ([] ∷ ends) draft) ss (found.pieces ++ others)) (sym (append_assoc (RowSteps name row 1 lines) (EndsRows row ∷ []) more))
                (found.shown given around ([] ∷ ends) (EndsRows row ∷ more) others (others, refl, with_around around ends (behind_rows row rows), refl, shown)),
          );
        };
  }

  array_lays : (name : Option Word) (count : Option ℤ) (row : PlainBody) → AreApart row → BodyLays row → FieldLays (Array name count row)
  array_lays name count row apart lays passed value (v, (lines, is_rows, stated, are), some) draft next fresh marks short met_known is =
      let whole : value ≡ Some (trees.Rows lines) = some ∙ ap (λ (t : Tree). Some t) is_rows in
      let lay = λ (number : ℕ). row_ended known (row_of name number) row in
      let parts = array_parts lay row lines draft next (sym (ap (λ (ls : List (List Tree)). all_laid known name row ls draft) (ap rows_in whole ∙ rows_are lines)) ∙ is) in
      lays_met (gives_rows row) (λ key. gives_rows row key || passed.met key) (met_behind (Array name count row) passed.met) (FieldCounted (Array name count row) value) draft next
      (flat_field (Array name count row) value) no_end (λ names. FieldPlaced (Array name count row) names passed value) (array_same name count row passed.met)
      (subst (λ (d : Draft). LaysOut known (gives_rows row) (λ key. gives_rows row key || passed.met key) (FieldCounted (Array name count row) value) draft d
      (flat_field (Array name count row) value) no_end (λ names. FieldPlaced (Array name count row) names passed value))
      parts.behind
      (subst (λ (rs : List (List Tree)). LaysOut known (gives_rows row) (λ key. gives_rows row key || passed.met key) (FieldCounted (Array name count row) value) draft (behind_rows row parts.rows)
      (all_rows row (RowSteps name row 1 rs)) no_end (λ names. FieldPlaced (Array name count row) names passed value))
      (sym (ap rows_in whole ∙ rows_are lines))
      (rows_array name count row passed value lines whole stated draft parts.rows (ends_length lay 1 draft lines parts.rows parts.is) fresh
      (rows_lay name row apart lays passed 1 lines are draft parts.rows marks short met_known parts.is))))

  abbrev CaseIs : Word → PlainBody → PlainCases → Passed → Option Tree → Environment → ArePieces
  CaseIs name row others passed value names = CasePlaced (case_and name row others) names passed value

  -- a row by itself
  pub row_lays : (row : PlainBody) → AreApart row → BodyLays row → (passed : Passed) (line : List Tree) → IsRow row line → (draft next : Draft) → length draft.late ≡ length draft.bits → length draft.bits ≤ most_bits
      → MetKnown passed.met draft.known → row_laid known None row draft line ≡ Ok next → LaysOut known none passed.met NoCount draft next (flat_row row line) no_end (InsideIs row None passed line)
  row_lays row apart lays passed line is_row draft next marks short met_known is =
      let outer = chained (row_ended known None row draft line) (λ one. good one.draft) next is in
      let one = row_parts known None row draft line outer.value outer.is in
      subst (λ (d : Draft). LaysOut known none passed.met NoCount draft d (flat_row row line) no_end (InsideIs row None passed line)) (ap (λ (e : Ended). e.draft) one.ended ∙ same_ok outer.value.draft next outer.leads)
      (lays_is none passed.met (HavePlaces row None one.inner) NoCount draft (leave None row draft one.inner) (flat_row row line) no_end (InsideIs row None passed line) (InsideIs row None passed line) (λ names counts label is. tt)
      (λ names counts ps are. are) (inside_lays row apart lays passed None line is_row draft one.inner marks short met_known one.is))

  -- a case that is chosen, and one that isn't
  case_lays : (name : Word) (row : PlainBody) (others : PlainCases) → AreApart row → BodyLays row → (passed : Passed) (v : Tree) → (line : List Tree) × (v ≡ trees.Choice name line) × IsRow row line → (draft next : Draft)
      → length draft.late ≡ length draft.bits → length draft.bits ≤ most_bits → MetKnown passed.met draft.known → case_laid known draft (case_and name row others) (Some v) ≡ Ok next
      → LaysOut known none passed.met NoCount draft next (flat_case (case_and name row others) (Some v)) no_end (CaseIs name row others passed (Some v))
  case_lays name row others apart lays passed v (line, is_choice, is_row) draft next marks short met_known is =
      let some : Some v ≡ Some (trees.Choice name line) = ap (λ (t : Tree). Some t) is_choice in
      let chosen : is_case name (Some v) ≡ true = ap (is_case name) some ∙ choice_chosen name line in
      let so : row_laid known None row draft line ≡ Ok next =
      sym (ap (row_laid known None row draft) (ap line_in some ∙ line_is name line))
      ∙ sym (ap (λ (test : Bool). if test then row_laid known None row draft (line_in (Some v)) else case_laid known draft others (Some v)) chosen)
      ∙ is in
      subst (λ (ss : List Step). LaysOut known none passed.met NoCount draft next ss no_end (CaseIs name row others passed (Some v)))
      (sym (ap (λ (test : Bool). if test then flat_row row (line_in (Some v)) else flat_case others (Some v)) chosen ∙ ap (flat_row row) (ap line_in some ∙ line_is name line)))
      (lays_is none passed.met NoCount NoCount draft next (flat_row row line) no_end (InsideIs row None passed line) (CaseIs name row others passed (Some v)) (λ names counts. tt)
      (λ names counts ps are. subst (λ (test : Bool). By test
      ((line : List Tree) × (Some v ≡ Some (trees.Choice name line)) × InsidePlaced row None names (λ own. BodyPlaced row own (at_front row passed) line) ps)
      (CasePlaced others names passed (Some v) ps))
      (sym chosen) (line, some, are))
      (row_lays row apart lays passed line is_row draft next marks short met_known so))

  others_lay : (name : Word) (row : PlainBody) (others : PlainCases) → AllByRecursion (λ later. str_eq_ignore_ascii_case name.bytes later.bytes ≡ false) (case_names others) → CasesLay others → (passed : Passed) (v : Tree) → IsChoice others v → (draft next : Draft)
      → length draft.late ≡ length draft.bits → length draft.bits ≤ most_bits → MetKnown passed.met draft.known → case_laid known draft (case_and name row others) (Some v) ≡ Ok next
      → LaysOut known none passed.met NoCount draft next (flat_case (case_and name row others) (Some v)) no_end (CaseIs name row others passed (Some v))
  others_lay name row others differ lays passed v is_choice draft next marks short met_known is =
      let other : is_case name (Some v) ≡ false = choice_differs name others differ v is_choice in
      let so : case_laid known draft others (Some v) ≡ Ok next =
      sym (ap (λ (test : Bool). if test then row_laid known None row draft (line_in (Some v)) else case_laid known draft others (Some v)) other) ∙ is in
      subst (λ (ss : List Step). LaysOut known none passed.met NoCount draft next ss no_end (CaseIs name row others passed (Some v)))
      (sym (ap (λ (test : Bool). if test then flat_row row (line_in (Some v)) else flat_case others (Some v)) other))
      (lays_is none passed.met NoCount NoCount draft next (flat_case others (Some v)) no_end (λ names. CasePlaced others names passed (Some v)) (CaseIs name row others passed (Some v)) (λ names counts. tt)
      (λ names counts ps are. subst (λ (test : Bool). By test
      ((line : List Tree) × (Some v ≡ Some (trees.Choice name line)) × InsidePlaced row None names (λ own. BodyPlaced row own (at_front row passed) line) ps)
      (CasePlaced others names passed (Some v) ps))
      (sym other) are)
      (lays passed v is_choice draft next marks short met_known so))

  switch_lays : (cases : PlainCases) → CasesLay cases → FieldLays (Switch cases)
  switch_lays cases lays passed value (v, is_choice, some) draft next fresh marks short met_known is =
      subst (λ (o : Option Tree). LaysOut known none passed.met NoCount draft next (flat_case cases o) no_end (λ names. CasePlaced cases names passed o)) (sym some)
      (lays passed v is_choice draft next marks short met_known (sym (ap (case_laid known draft cases) some) ∙ is))

  body_step : (field : PlainField) (fields : PlainBody) → ((key : Key) → gives_key field key ≡ true → declares fields key ≡ false) → FieldLays field → BodyLays fields → BodyLays (field_and field fields)
  body_step field fields apart one more passed values draft next fresh marks short met_known (rest, front, others) is =
      let each = fronted (takes_value field) (IsValue field) values rest front in
      let value = first_value (takes_value field) values in
      let rest_values = other_values (takes_value field) values in
      let here = at_field (field_and field fields) passed in
      let met = met_behind field passed.met in
      let next_met = (behind field here).met in
      let inner = chained (field_laid known draft field value) (λ mid. body_laid known mid fields rest_values) next is in
      let same : SamePlaces met next_met = λ in_rows name. ap (λ (m : Names). m (label_key in_rows name)) (sym (behind_met field here)) in
      let fresh_more : Fresh (gives_places fields) met = fresh_rest field fields apart passed.met fresh in
      let One : Environment → ArePieces = λ names. FieldPlaced field names here value in
      let Others : Environment → ArePieces = λ names. BodyPlaced fields names (behind field here) rest_values in
      let first = one here value each.one draft inner.value (fresh_first field fields passed.met fresh) marks short met_known inner.is in
      let met_mid : MetKnown next_met inner.value.known =
      λ in_rows name. sym (same in_rows name) ∙ met_field field passed.met inner.value.known (known_behind known (gives_place field) passed.met draft inner.value first.adds met_known) in_rows name in
      let last = lays_met (gives_places fields) (met_all fields next_met) (met_all fields met) (AreCounted fields rest_values) inner.value next (flat fields rest_values) no_end Others
      (met_all_same fields next_met met (places_back met next_met same))
      (more (behind field here) rest_values inner.value next (λ key label. ap (λ (m : Names). m key) (behind_met field here) ∙ fresh_more key label)
      (adds_marks (gives_place field) draft inner.value first.adds marks) first.adds.short met_mid (subst (IsRow fields) each.others others) inner.leads) in
      lays_both (gives_place field) (gives_places fields) met (met_all fields met) (FieldCounted field value) (AreCounted fields rest_values) draft inner.value next
      (flat_field field value) (flat fields rest_values) no_end no_end One Others (λ names. BodyPlaced (field_and field fields) names passed values) marks
      (λ names ps qs one others. (value, rest_values, ps, qs, each.whole, refl, one, others)) first last (still_body known fields met fresh_more)

  mutual
    field_lays : (field : PlainField) → IsApart field → FieldLays field
    field_lays (Number number) apart passed value has draft next fresh marks short met_known is =
        field_pieces passed (Number number) (refl, tt) value tt (number_has number value has) draft next marks short met_known is
    field_lays (Text text) apart passed value has draft next fresh marks short met_known is =
        field_pieces passed (Text text) (refl, tt) value tt (text_has text value has) draft next marks short met_known is
    field_lays (Points points) apart passed value has draft next fresh marks short met_known is =
        let each = points_have points points.fixed value has in
        field_pieces passed (Points points) (points_unplaced points.rect points.fixed) value each.0 each.1 draft next marks short met_known is
    field_lays (Fill unit count) apart passed value has draft next fresh marks short met_known is =
        field_pieces passed (Fill unit count) (refl, tt) value tt (single_fed (Zeros (unit * nat_abs count)) value (ap is_some has) has) draft next marks short met_known is
    field_lays (Align unit) apart passed value has draft next fresh marks short met_known is =
        field_pieces passed (Align unit) (refl, tt) value tt (single_fed (Filler unit) value (ap is_some has) has) draft next marks short met_known is
    field_lays (Label name) apart passed value has draft next fresh marks short met_known is = label_lays passed name value has draft next fresh marks met_known is
    field_lays (Array name count row) apart passed value has draft next fresh marks short met_known is =
        array_lays name count row apart (body_lays row apart) passed value has draft next fresh marks short met_known is
    field_lays (Switch cases) apart passed value has draft next fresh marks short met_known is =
        switch_lays cases (cases_lay cases apart) passed value has draft next fresh marks short met_known is

    cases_lay : (cases : PlainCases) → AreCasesApart cases → CasesLay cases
    cases_lay no_cases apart passed v is_choice draft next marks short met_known is = absurd is_choice
    cases_lay (case_and name row others) apart passed v (inl it) draft next marks short met_known is =
        case_lays name row others apart.1 (body_lays row apart.1) passed v it draft next marks short met_known is
    cases_lay (case_and name row others) apart passed v (inr it) draft next marks short met_known is =
        others_lay name row others apart.0 (cases_lay others apart.2) passed v it draft next marks short met_known is

    pub body_lays : (body : PlainBody) → AreApart body → BodyLays body
    body_lays no_fields apart passed values draft next fresh marks short met_known is_row is =
        subst (λ (d : Draft). LaysOut known none passed.met (AreCounted no_fields values) draft d [] no_end (λ names. BodyPlaced no_fields names passed values)) (same_ok draft next is)
        (nothing_lays passed.met (AreCounted no_fields values) draft (λ names. BodyPlaced no_fields names passed values) short (λ names. (is_row, refl)))
    body_lays (field_and field fields) apart passed values draft next fresh marks short met_known is_row is =
        body_step field fields apart.0 (field_lays field apart.1) (body_lays fields apart.2) passed values draft next fresh marks short met_known is_row is

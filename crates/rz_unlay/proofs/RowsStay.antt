-- What is known of rows where a field is read: only an array gives names of rows a value, those of the labels in its own.
use Rattle.std.proofs.Common.{◌≡◌, ℕ, ◌+◌, ◌*◌, ◌==◌, ℤ, pos, Bool, true, false, List, [], ◌∷◌, length, Option, Some, None, refl, sym, ap, ◌∙◌, subst}
use Rattle.std.specs.Prelude.{if◌then◌else◌, nat_abs, option_map}
use Rattle.rz_core.specs.declared.facts.Facts.{Facts}
use Rattle.rz_core.specs.declared.resource.Word.{Word}
use Rattle.rz_bits.specs.BitBuf.{missing}
use Rattle.rz_bits.specs.View.{number_at}
use Rattle.rz_expr.specs.Environment.{count_key, place_key, Environment, IsPartOf, Key}
use Rattle.rz_expr.specs.Term.{Term}
use Rattle.rz_expr.specs.Value.{value_of}
use Rattle.rz_types_fields.specs.Field.{case_and, no_cases, Align, Array, Fill, Label, Number, PlainBody, PlainCases, PlainField, PlainText, Points, Switch, Text}
use Rattle.rz_types_fields.specs.Front.{names_inside}
use Rattle.rz_types_fields.specs.Passed.{gives_count, gives_key, gives_rows, met_inside, Names}
use Rattle.rz_types_fields.specs.Piece.{pieces_of, terms_of_text, Filler, OneNumber, OneText, Piece, Place, Zeros}
use Rattle.rz_types_fields.specs.RowLabels.{also_rows, row_of, rows_give}
use Rattle.rz_types_fields.specs.Sees.{is_late, Late}
use Rattle.rz_types_fields.specs.Solve.{has_key}
use Rattle.rz_types_fields.specs.Spells.{is_one_late, put}
use Rattle.rz_types_fields.specs.Width.{case_keys}
use Rattle.rz_types_fields.specs.declared.field.NumForm.{NumForm}
use Rattle.rz_types_fields.specs.declared.tree.Tree.TheVariants as trees
use Rattle.rz_unlay.specs.Cursor.{body_found, case_found, count_known, field_found, has_keys, line_of, rows_by, Lines, ReadsRow}
use Rattle.rz_unlay.specs.Pieces.{early_text, field_of_pieces, piece_step, pieces_found, size_here, sized_step, sized_text, text_step, value_of_field, with_value, Found}
use Rattle.rz_unlay_pieces.specs.Pieces.{claim, claim_count, here_at, is_stored, label_step, late_behind, number_step, seen_at, solve_all, solved_at, with_near, zeros_step, Here, Step}
use Rattle.rz_unlay_texts.specs.Texts.{size_read, text_value}
use Rattle.rz_unlay.proofs.Asked.{apart_from_rows, of_rows, plain_in}
use Rattle.rz_unlay.proofs.Claims.{claim_came}
use Rattle.rz_unlay.proofs.ReadsTests.{and_then, if_false, if_some, mapped, neither, none_is, some_same}
use Rattle.rz_unlay.proofs.RowsRead.{if_either}
use Rattle.rz_unlay.proofs.Sees.{KeepsRows}
use Rattle.rz_unlay.proofs.Solved.{all_solved}
use Rattle.rz_unlay.proofs.SpelledNear.{near_keeps}
use Rattle.rz_unlay.proofs.Told.{part_of_part, same_part}

-- Pieces.

-- what is known stays so, and of rows no more is known
pub record Stay (names more : Environment) : Type 0 where
  pub kept : IsPartOf names more
  pub rows : KeepsRows names more

stay_same : (names : Environment) → Stay names names
stay_same names = record { kept = same_part names; rows = record { give = λ key of. refl } }

stay_then : (a b c : Environment) → Stay a b → Stay b c → Stay a c
stay_then a b c one other = record { kept = part_of_part a b c one.kept other.kept; rows = record { give = λ key of. other.rows.give key of ∙ one.rows.give key of } }

claim_stays : (key : Key) (value : ℤ) (names more : Environment) → of_rows key ≡ false → claim key value names ≡ Some more → Stay names more
claim_stays key value names more plain is =
    let it = claim_came key value names more is in
    record { kept = it.kept; rows = record { give = λ other of. it.same other (apart_from_rows key other plain of) } }

-- no name of rows stands in an expression to be told
not_in : (key : Key) (term : Term) → of_rows key ≡ true → has_key key term ≡ false
not_in key term of = by (has_key key term) refl
  where
    by : (test : Bool) → has_key key term ≡ test → test ≡ false
    by true has = absurd (let wrong : true ≡ false = sym of ∙ plain_in key term has in cc)
    by false absent = refl

module _ (here : Here) where
  abbrev Stays : Environment → Step → Type 0
  Stays names step = Stay names step.names

  number_stays : (form : NumForm) (width : ℤ) (fixed : Option Term) (names : Environment) (at : ℕ) (late : Late) (step : Step) → number_step here form width fixed names at late ≡ Some step → Stays names step
  number_stays form width None names at late step is =
      let it = mapped (λ n. record { value = Some (trees.Number n); after = at + nat_abs width; names = names; late = late_behind late (nat_abs width) false }) (number_at here.all at (nat_abs width)) step is in
      subst (Stays names) it.2 (stay_same names)
  number_stays form width (Some term) names at late step is =
      let one = and_then _ (number_at here.all at (nat_abs width)) step is in
      let two = and_then _ (solve_all (with_near here) (λ key now. solved_at (length here.all) (nat_abs width) key (seen_at here now at) term one.0) term names) step one.2 in
      let more : Environment = two.0 in
      let three = if_some (is_stored form width (value_of term (seen_at here more at)) one.0)
      (record { value = None; after = at + nat_abs width; names = more; late = late_behind late (nat_abs width) (is_late here.met late term (seen_at here more at)) }) step two.2 in
      let solved = all_solved (with_near here) (λ key now. solved_at (length here.all) (nat_abs width) key (seen_at here now at) term one.0) (near_keeps here) term names more two.1 in
      subst (Stays names) three.1 (record { kept = solved.kept; rows = record { give = λ key of. solved.same key (not_in key term of) } })

  early_stays : (text : PlainText) (names : Environment) (at : ℕ) (late : Late) (step : Step) → early_text here text names at late ≡ Some step → Stays names step
  early_stays text names at late step is =
      let one = and_then (λ size. sized_text here text size names at late) (size_read text.form text.size (seen_at here names at)) step is in
      let two = and_then (sized_step here text one.0 names at late) (size_here here names text.form one.0 text.fixed at) step one.2 in
      let came = mapped (λ value. record { value = value; after = at + 8 * two.0; names = names; late = late_behind late (8 * two.0) false })
      (text_value here.known (seen_at here names at) here.all text one.0 two.0 at) step two.2 in
      subst (Stays names) came.2 (stay_same names)

  text_stays : (text : PlainText) (names : Environment) (at : ℕ) (late : Late) (step : Step) → text_step here text names at late ≡ Some step → Stays names step
  text_stays text names at late step = by (is_one_late here.met late (terms_of_text text) (seen_at here names at))
    where
      by : (test : Bool) → (if test then None else early_text here text names at late) ≡ Some step → Stays names step
      by true is = absurd (none_is step is)
      by false is = early_stays text names at late step is

  zeros_stay : (count : ℕ) (names : Environment) (at : ℕ) (late : Late) (step : Step) → zeros_step here.all count names at late ≡ Some step → Stays names step
  zeros_stay count names at late step is =
      let one = and_then _ (number_at here.all at count) step is in
      let two = if_some (one.0 == 0) (record { value = None; after = at + count; names = names; late = late_behind late count false }) step one.2 in
      subst (Stays names) two.1 (stay_same names)

  label_stays : (name : Word) (names : Environment) (at : ℕ) (late : Late) (step : Step) → label_step name names at late ≡ Some step → Stays names step
  label_stays name names at late step is =
      let it = mapped (λ more. record { value = None; after = at; names = more; late = late }) (claim (place_key name.bytes) (pos at) names) step is in
      subst (Stays names) it.2 (claim_stays (place_key name.bytes) (pos at) names it.0 refl it.1)

  piece_stays : (piece : Piece) (names : Environment) (at : ℕ) (late : Late) (step : Step) → piece_step here piece names at late ≡ Some step → Stays names step
  piece_stays (OneNumber number) names at late step is = number_stays number.form number.width number.fixed names at late step is
  piece_stays (OneText text) names at late step is = text_stays text names at late step is
  piece_stays (Zeros count) names at late step is = zeros_stay count names at late step is
  piece_stays (Filler unit) names at late step is = zeros_stay (missing unit at) names at late step is
  piece_stays (Place name) names at late step is = label_stays name names at late step is

  pieces_stay : (pieces : List Piece) (names : Environment) (at : ℕ) (late : Late) (found : Found) → pieces_found here pieces names at late ≡ Some found → Stay names found.names
  pieces_stay [] names at late found is =
      subst (λ (f : Found). Stay names f.names) (some_same (record { row = []; after = at; names = names; late = late }) found is) (stay_same names)
  pieces_stay (piece ∷ pieces) names at late found is =
      let one = and_then (λ step. with_value step.value (pieces_found here pieces step.names step.after step.late)) (piece_step here piece names at late) found is in
      let step : Step = one.0 in
      let more = mapped (λ f. record { row = put step.value f.row; after = f.after; names = f.names; late = f.late }) (pieces_found here pieces step.names step.after step.late) found one.2 in
      let inner : Found = more.0 in
      subst (λ (f : Found). Stay names f.names) more.2 (stay_then names step.names inner.names (piece_stays piece names at late step one.1) (pieces_stay pieces step.names step.after step.late inner more.1))

  pub of_pieces_stays : (field : PlainField) (names : Environment) (at : ℕ) (late : Late) (step : Step) → field_of_pieces here field names at late ≡ Some step → Stays names step
  of_pieces_stays field names at late step is =
      let it = mapped (λ f. record { value = value_of_field field f.row; after = f.after; names = f.names; late = f.late }) (pieces_found here (pieces_of field) names at late) step is in
      let found : Found = it.0 in
      subst (Stays names) it.2 (pieces_stay (pieces_of field) names at late found it.1)

-- Fields.

-- the name of an array has the number of its rows
pub count_stays : (name : Option Word) (rows : ℕ) (names more : Environment) → claim_count name rows names ≡ Some more → Stay names more
count_stays None rows names more is = subst (Stay names) (some_same names more is) (stay_same names)
count_stays (Some name) rows names more is = claim_stays (count_key name.bytes) (pos rows) names more refl is

module _ (facts : Facts) (all : List Bool) where
  pub cases_stay : (met : Names) (cases : PlainCases) (names : Environment) (at : ℕ) (late : Late) (step : Step) → case_found facts all met cases names at late ≡ Some step → Stay names step.names
  cases_stay met no_cases names at late step is = absurd (none_is step is)
  cases_stay met (case_and name row others) names at late step is =
      if_either (has_keys all at (case_keys row)) _ (case_found facts all met others names at late) step
      (λ chosen.
      let it = mapped (λ f. record { value = Some (trees.Choice name f.row); after = f.after; names = names; late = f.late }) (body_found facts all (met_inside row met) row (names_inside None row names) at late) step chosen in
      subst (λ (s : Step). Stay names s.names) it.2 (stay_same names))
      (λ later. cases_stay met others names at late step later) is

  -- after a field the names of rows that it doesn't give have the values that they had
  pub field_stays : (rest : PlainBody) (met : Names) (field : PlainField) (names : Environment) (at : ℕ) (late : Late) (step : Step) → field_found facts all rest met field names at late ≡ Some step
      → (key : Key) → of_rows key ≡ true → gives_key field key ≡ false → step.names.give key ≡ names.give key
  field_stays rest met (Number number) names at late step is key of none = (of_pieces_stays (here_at facts all (Number number) rest at met) (Number number) names at late step is).rows.give key of
  field_stays rest met (Text text) names at late step is key of none = (of_pieces_stays (here_at facts all (Text text) rest at met) (Text text) names at late step is).rows.give key of
  field_stays rest met (Points points) names at late step is key of none = (of_pieces_stays (here_at facts all (Points points) rest at met) (Points points) names at late step is).rows.give key of
  field_stays rest met (Fill unit count) names at late step is key of none = (of_pieces_stays (here_at facts all (Fill unit count) rest at met) (Fill unit count) names at late step is).rows.give key of
  field_stays rest met (Align unit) names at late step is key of none = (of_pieces_stays (here_at facts all (Align unit) rest at met) (Align unit) names at late step is).rows.give key of
  field_stays rest met (Label name) names at late step is key of none = (of_pieces_stays (here_at facts all (Label name) rest at met) (Label name) names at late step is).rows.give key of
  field_stays rest met (Array name count row) names at late step is key of none =
      let reads : ReadsRow = λ number place marks. line_of (body_found facts all (met_inside row met) row (names_inside (row_of name number) row names) place marks) in
      let one = and_then (λ lines. option_map (λ more. record { value = Some (trees.Rows lines.rows); after = lines.after; names = also_rows row lines.ends more; late = lines.late }) (claim_count name (length lines.rows) names))
      (rows_by reads (length all) rest names (count_known names name count) at late) step is in
      let lines : Lines = one.0 in
      let two = mapped (λ more. record { value = Some (trees.Rows lines.rows); after = lines.after; names = also_rows row lines.ends more; late = lines.late }) (claim_count name (length lines.rows) names) step one.2 in
      let more : Environment = two.0 in
      let absent : gives_rows row key ≡ false = (neither (gives_count name key) (gives_rows row key) none).1 in
      ap (λ (s : Step). s.names.give key) (sym two.2)
      ∙ if_false (gives_rows row key) (rows_give lines.ends key) (more.give key) absent
      ∙ (count_stays name (length lines.rows) names more two.1).rows.give key of
  field_stays rest met (Switch cases) names at late step is key of none = (cases_stay met cases names at late step is).rows.give key of

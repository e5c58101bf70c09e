use denote.Param.Weighed.{at_most}
use Rattle.std.proofs.Common.{rules, inl, inr, ◌≡◌, ℕ, ℤ, ◌+◌, ◌-◌, ◌≤◌, ◌∷◌, ◌++◌, [], Bool, true, false, length, drop, IfOk, IfSome, List, Option, Some, None, refl, sym, ap, ◌∙◌, subst, arith}
use Rattle.std.specs.Prelude.{option_and_then, option_map}
use Rattle.std.proofs.lemmas.List.{length-append}
use Rattle.rz_bits.specs.View.{seen}
use Rattle.rz_types_fields.specs.declared.field.Field.{Field}
use Rattle.rz_types_fields.specs.declared.field.Field.TheViews.{out-ArrayField, size-Case}
use Rattle.rz_types_fields.proofs.Bodies.{array_is, case_is}
use Rattle.rz_types_fields.specs.declared.tree.Tree.{Tree}
use Rattle.rz_types_fields.specs.declared.tree.Tree.TheVariants as trees
use Rattle.rz_types_fields.specs.Spells.{values_in}
use Rattle.rz_types.specs.Field.{plain_body, plain_case, plain_cases, plain_field, PlainBody, PlainCase, PlainField}
use Rattle.rz_unlay.specs.Came.{array_row, chosen, line_at, line_in, lines_in, row_at, row_body, AreLines}
use Rattle.rz_unlay_pieces.specs.Came.{met_of, step_of}
use Rattle.rz_unlay.specs.Cursor.{body_found, count_known, field_found, goes_on, most_rows, rows_by, rows_until, until_of, ReadsRow}
use Rattle.rz_unlay_pieces.specs.Seen.{met_counted, met_in_rows}
use Rattle.rz_unlay_pieces.specs.Pieces.{claim_count, Step}
use Rattle.rz_types_fields.specs.Front.{names_inside}
use Rattle.rz_types_fields.specs.Known.{known, met, which_of}
use Rattle.rz_types_fields.specs.Passed.{met_behind, met_inside}
use Rattle.rz_types_fields.specs.FlatRows.{AllPlacesAre, PlacesAre}
use Rattle.rz_types_fields.specs.RowLabels.{also_rows}
use Rattle.rz_types_fields.specs.Sees.{marked, Late}
use Rattle.rz_expr.specs.Environment.{Environment}
use Rattle.rz_unlay.specs.declared.rows.Until.{Until}
use Rattle.rz_unlay_pieces.specs.Few.{few, step_count, value_count}
use Rattle.rz_unlay.specs.Few.{found_count, line_count, lines_count, rows_count}
use Rattle.rz_unlay_pieces.specs.Names.{told}
use Rattle.rz_types_fields.specs.declared.names.Note.{Note}
use Rattle.rz_unlay.proofs.FewValues.{count_rows, first_within, row_push, rows_push}
use Rattle.rz_unlay.specs.Rows.{pushed}
use Rattle.rz_unlay_pieces.proofs.PieceSteps.{seen_length}
use Rattle.rz_unlay.proofs.FieldSteps.{are_lines, array_came, array_met, body_line, choice_few, field_more, fields_over, fits_next, is_line, leaf_found, leaf_met, leaf_of, no_array, no_field, no_row, none_before, not_claimed, row_more, rows_ended, rows_out, rows_start, spent_late, with_lines, with_row}
use Rattle.rz_types_fields.proofs.Noting.{grew_more}
use Rattle.rz_types_fields.proofs.RowEnds.{and_row_places}
use Rattle.rz_unlay.proofs.Labelled.{all_placed, field_keeps, field_label, none_placed, placed_more, Placed}
use Rattle.rz_unlay.proofs.RowsRead.{until_long}
use Rattle.rz_unlay.specs.declared.came.RowsCame.{RowsCame}
use Rattle.rz_unlay.proofs.KeyedCases.{case_is_at, case_read, fit_at, no_case_read}
use Rattle.rz_unlay.proofs.fields.Reader.+read.Goals as goal

of_some : {A : Type 0} (o : Option A) (x : A) (P : Type 0) → o ≡ Some x → IfSome o (λ s. P) → P
of_some None x P is holds = absurd cc
of_some (Some y) x P is holds = holds

some_so : {A : Type 0} (o : Option A) (P : Type 0) → P → IfSome o (λ s. P)
some_so None P holds = tt
some_so (Some x) P holds = holds

pub read_fields-loop-field-init : goal.read_fields-loop-field-init
read_fields-loop-field-init t c = record {
  read = none_before c.new-row.result _ c.new-row.ensures;
  left = search rules;
  within = c.requires.at;
  marks = c.requires.marks;
  fits = c.requires.fits;
  grew = search rules;
  behind = refl;
  placed = none_placed (known c.args.learnt.now.notes.items) c.args.fields.now c.new-places.result.items c.new-places.ensures.items;
}

-- what was read of a field stands after what was read before it
pub read_fields-loop-field-preserved : goal.read_fields-loop-field-preserved
read_fields-loop-field-preserved t c =
    let fs = c.args.fields.now in
    let i = c.loop-field.field-index in
    let all = seen c.args.self.now.view.now in
    let old = c.loop-field.learnt in
    let new = c.read_field.new.learnt in
    let one = c.in-Some.found in
    let sum : one.left + value_count one.value ≡ c.loop-field.more = subst (λ o. IfSome o (λ m. m.left + value_count m.value ≡ c.loop-field.more)) c.in-Some.is c.in_ok-found.ensures.left in
    let others = plain_body (drop (i + 1) fs) in
    let met_now : met new.notes.items ≡ met_behind (plain_field c.field-item.result) (met old.notes.items) = of_some _ one _ c.in-Some.is c.in_ok-found.ensures.met in
    let step_is : Some (met_of new one) ≡ few step_count c.loop-field.more (field_found c.args.self.now.facts.now all others (met old.notes.items) (plain_field c.field-item.result) (known old.notes.items) c.loop-field.end (marked c.loop-field.end old.marks)) =
    ap (option_map (met_of new)) (sym c.in-Some.is) ∙ c.in_ok-found.ensures.step
    ∙ ap (λ (x : List Field). few step_count c.loop-field.more (field_found c.args.self.now.facts.now all (plain_body x) (met old.notes.items) (plain_field c.field-item.result) (known old.notes.items) c.loop-field.end (marked c.loop-field.end old.marks)))
    (c.tail.ensures ∙ ap (λ n. drop (n + 1) fs) c.loop-field.invariant.behind) in
    let found = (first_within step_count c.loop-field.more (field_found c.args.self.now.facts.now all others (met old.notes.items) (plain_field c.field-item.result) (known old.notes.items) c.loop-field.end (marked c.loop-field.end old.marks)) (met_of new one) step_is).0 in
    record {
      read =
          ap (λ (r : List Tree). with_row r (few found_count one.left (body_found c.args.self.now.facts.now all (met new.notes.items) others (known new.notes.items) one.after (marked one.after new.marks)))) c.in_ok-push_value-in-Some.ensures
          ∙ (λ i. with_row (pushed c.loop-field.row one.value) (few found_count one.left (body_found c.args.self.now.facts.now all (met_now i) others (known new.notes.items) one.after (marked one.after new.marks))))
          ∙ field_more c.args.self.now.facts.now all (met old.notes.items) fs i c.field-item.result (omega arith) c.field-item.is c.loop-field.row (known old.notes.items) c.loop-field.end (marked c.loop-field.end old.marks) c.loop-field.more _
          c.loop-field.invariant.read one.left (met_of new one) step_is sum;
      left = let n = ap values_in c.in_ok-push_value-in-Some.ensures ∙ row_push c.loop-field.row one.value in omega (arith, n, sum, c.loop-field.invariant.left);
      within = subst (λ o. IfSome o (λ m. m.after ≤ length all)) c.in-Some.is c.in_ok-found.ensures.within;
      marks = subst (λ o. IfSome o (λ m. length new.marks ≤ m.after)) c.in-Some.is c.in_ok-found.ensures.marks;
      fits = (fits_next fs i c.field-item.result (omega arith) c.field-item.is c.loop-field.invariant.fits).1;
      grew = grew_more c.args.learnt.now.notes.items old.notes.items new.notes.items c.loop-field.invariant.grew (of_some _ one _ c.in-Some.is c.in_ok-found.ensures.grew);
      behind = omega (arith, c.loop-field.invariant.behind);
      placed = subst (λ (ps : List ℤ). Placed (known new.notes.items) fs (i + 1) ps) (sym c.in_ok-push_label.ensures)
          (placed_more fs i c.field-item.result (omega arith) c.field-item.is c.loop-field.places.items (known old.notes.items) (known new.notes.items) c.loop-field.end
          (field_keeps c.args.self.now.facts.now all others (met old.notes.items) (plain_field c.field-item.result) (known old.notes.items) c.loop-field.end (marked c.loop-field.end old.marks) (met_of new one) found)
          (field_label c.args.self.now.facts.now all others (met old.notes.items) (plain_field c.field-item.result) (known old.notes.items) c.loop-field.end (marked c.loop-field.end old.marks) (met_of new one) found)
          c.loop-field.invariant.placed);
    }

pub read_fields-returns-in-None-clause-row : goal.read_fields-returns-in-None-clause-row
read_fields-returns-in-None-clause-row t c =
    let fs = c.args.fields.now in
    let i = c.loop-field.field-index in
    let all = seen c.args.self.now.view.now in
    let old = c.loop-field.learnt in
    no_field c.args.self.now.facts.now all (met old.notes.items) fs i c.field-item.result (omega arith) c.field-item.is c.loop-field.row (known old.notes.items) c.loop-field.end (marked c.loop-field.end old.marks) c.loop-field.more _
    c.loop-field.invariant.read
    (ap (option_map (met_of c.read_field.new.learnt)) (sym c.in-None.is) ∙ c.in_ok-found.ensures.step
    ∙ ap (λ (x : List Field). few step_count c.loop-field.more (field_found c.args.self.now.facts.now all (plain_body x) (met old.notes.items) (plain_field c.field-item.result) (known old.notes.items) c.loop-field.end (marked c.loop-field.end old.marks)))
    (c.tail.ensures ∙ ap (λ n. drop (n + 1) fs) c.loop-field.invariant.behind))

pub read_fields-returns-clause-row : goal.read_fields-returns-clause-row
read_fields-returns-clause-row t c =
    let old = c.loop-field.learnt in
    fields_over c.args.self.now.facts.now (seen c.args.self.now.view.now) (met old.notes.items) c.args.fields.now c.loop-field.field-index (omega arith) c.loop-field.row (known old.notes.items) c.loop-field.end (marked c.loop-field.end old.marks)
    c.loop-field.more _ c.loop-field.invariant.read

pub read_fields-returns-clause-places : goal.read_fields-returns-clause-places
read_fields-returns-clause-places t c =
    all_placed c.args.fields.now c.loop-field.field-index (omega arith) c.loop-field.places.items (known c.loop-field.learnt.notes.items) c.loop-field.invariant.placed

pub read_body-returns-clause-row : goal.read_body-returns-clause-row
read_body-returns-clause-row t c =
    let all = seen c.args.self.now.view.now in
    let body = plain_body c.args.fields.now in
    let old = c.args.learnt.now in
    body_line body c.read_fields.new.learnt c.in_ok-came.came c.args.left
    (body_found c.args.self.now.facts.now all (met_inside body (met old.notes.items)) body (names_inside (which_of c.args.which) body (known old.notes.items)) c.args.at (marked c.args.at old.marks))
    (c.in_ok-came.ensures.row
    ∙ (λ i. few found_count c.args.left (body_found c.args.self.now.facts.now all (c.in_ok-enter.ensures.met i) body (c.in_ok-enter.ensures.known i) c.args.at (marked c.args.at (c.in_ok-enter.ensures.marks i)))))
    c.in_ok-came.ensures.places

pub read_rows-loop-turn-init : goal.read_rows-loop-turn-init
read_rows-loop-turn-init t c =
    let all = seen c.args.self.now.view.now in
    let old = c.args.learnt.now in
    let late = marked c.args.at old.marks in
    let row = array_row c.args.self.now.facts.now all c.args.array.now (met old.notes.items) (known old.notes.items) in
    let most = most_rows c.args.until (length all) in
    let start = rows_start (row_body c.args.array.now) c.new.result c.new-2.result.items (few lines_count c.args.left (rows_until row c.args.until most 0 c.args.at late)) c.new.ensures c.new-2.ensures.items in
    let none : length c.new.result ≡ 0 = ap length c.new.ensures in
    let turns : most - 0 ≡ most = omega arith in
    record {
      read = (start.0, start.1, (λ i. with_lines c.new.result start.0 (few lines_count c.args.left (rows_until row c.args.until (turns i) (none i) c.args.at late))) ∙ start.2);
      left = search rules;
      within = c.requires.at;
      marks = c.requires.marks;
      notes = refl;
    }

pub read_rows-returns-then-not-goes_on-clause-rows : goal.read_rows-returns-then-not-goes_on-clause-rows
read_rows-returns-then-not-goes_on-clause-rows t c =
    let all = seen c.args.self.now.view.now in
    let row = array_row c.args.self.now.facts.now all c.args.array.now (met c.args.learnt.now.notes.items) (known c.args.learnt.now.notes.items) in
    let so_far = c.loop-turn.so_far in
    let off : goes_on c.args.until (length so_far.rows) so_far.after ≡ false = search rules in
    let inv = c.loop-turn.invariant.read in
    are_lines (row_body c.args.array.now) c.loop-turn.learnt.marks _ c.over.result _ (sym c.over.ensures)
    (rows_ended (row_body c.args.array.now) row c.args.until c.loop-turn.learnt.marks so_far (most_rows c.args.until (length all) - c.loop-turn._turn) _ (inr off) inv.0 inv.1 inv.2)

pub read_rows-returns-then-so_far-eq0-clause-rows : goal.read_rows-returns-then-so_far-eq0-clause-rows
read_rows-returns-then-so_far-eq0-clause-rows t c =
    let all = seen c.args.self.now.view.now in
    let row = array_row c.args.self.now.facts.now all c.args.array.now (met c.args.learnt.now.notes.items) (known c.args.learnt.now.notes.items) in
    let so_far = c.loop-turn.so_far in
    let on : goes_on c.args.until (length so_far.rows) so_far.after ≡ true = search rules in
    let inv = c.loop-turn.invariant.read in
    rows_out row c.args.until so_far.rows inv.0 _ (most_rows c.args.until (length all) - c.loop-turn._turn) (length so_far.rows) so_far.after (marked so_far.after c.loop-turn.learnt.marks) so_far.left
    (let most = c.most-turn-end.ensures in omega (arith, most)) c.if-so_far-eq0.true on inv.2

pub read_rows-returns-in-Ok-None-clause-rows : goal.read_rows-returns-in-Ok-None-clause-rows
read_rows-returns-in-Ok-None-clause-rows t c =
    let all = seen c.args.self.now.view.now in
    let row = array_row c.args.self.now.facts.now all c.args.array.now (met c.args.learnt.now.notes.items) (known c.args.learnt.now.notes.items) in
    let so_far = c.loop-turn.so_far in
    let late = marked so_far.after c.loop-turn.learnt.marks in
    let on : goes_on c.args.until (length so_far.rows) so_far.after ≡ true = search rules in
    let inv = c.loop-turn.invariant.read in
    no_row row c.args.until so_far.rows inv.0 _ (most_rows c.args.until (length all) - c.loop-turn._turn) (length so_far.rows) so_far.after late so_far.left
    (let most = c.most-turn-end.ensures in omega (arith, most)) (let other = c.if-so_far-eq0.false in omega (arith, other)) on
    (is_line (plain_body c.as_slice-fields.result.now) c.read_body.new.learnt.marks _ None _ c.in-Ok-None.field-0-is c.in-Ok-None.ensures.row
    ∙ (λ i. few line_count (so_far.left - 1) (line_at c.args.self.now.facts.now all (c.row_after-which.ensures i) (plain_body (c.as_slice-fields.ensures i)) (met (c.loop-turn.invariant.notes i)) (known (c.loop-turn.invariant.notes i)) so_far.after late)))
    inv.2

pub read_rows-loop-turn-preserved : goal.read_rows-loop-turn-preserved
read_rows-loop-turn-preserved t c =
    let all = seen c.args.self.now.view.now in
    let row = array_row c.args.self.now.facts.now all c.args.array.now (met c.args.learnt.now.notes.items) (known c.args.learnt.now.notes.items) in
    let so_far = c.loop-turn.so_far in
    let late = marked so_far.after c.loop-turn.learnt.marks in
    let found = c.in-Ok-Some.ensures in
    let is = c.in-Ok-Some.field-0-is in
    let came = c.in-Ok-Some.came in
    let new = c.read_body.new.learnt in
    let pushed = c.in_ok-push_row-in-Ok-Some.ensures in
    let on : goes_on c.args.until (length so_far.rows) so_far.after ≡ true = search rules in
    let sum : came.left + values_in came.row ≡ so_far.left - 1 = subst (λ o. IfSome o (λ r. r.left + values_in r.row ≡ so_far.left - 1)) is found.left in
    let some : 1 ≤ so_far.left = let other = c.if-so_far-eq0.false in omega (arith, other) in
    let most = most_rows c.args.until (length all) in
    let turns : most - (c.loop-turn._turn + 1) ≡ most - c.loop-turn._turn - 1 = omega arith in
    let inv = c.loop-turn.invariant.read in
    let fields = c.as_slice-fields.result.now in
    let line = is_line (plain_body fields) new.marks _ (Some came) _ is found.row in
    let own_places : PlacesAre line.0 (row_body c.args.array.now) came.places.items = subst (λ (fs : List Field). PlacesAre line.0 (plain_body fs) came.places.items) c.as_slice-fields.ensures line.2 in
    let number : length c.push_row.new.rows.rows ≡ length so_far.rows + 1 = ap length pushed.rows ∙ length-append so_far.rows (came.row ∷ []) in
    record {
      read = (
        inv.0 ++ line.0 ∷ [],
        subst (λ (ps : List ℤ). AllPlacesAre (row_body c.args.array.now) (inv.0 ++ line.0 ∷ []) ps) (sym pushed.places) (and_row_places (row_body c.args.array.now) inv.0 line.0 so_far.places.items came.places.items inv.1 own_places),
        (λ i. with_lines (pushed.rows i) (inv.0 ++ line.0 ∷ []) (few lines_count (pushed.left i) (rows_until row c.args.until (turns i) (number i) (pushed.after i) (marked (pushed.after i) new.marks))))
            ∙ row_more row c.args.until so_far.rows inv.0 _ (most - c.loop-turn._turn) (length so_far.rows) so_far.after late so_far.left came.left (line_in new.marks came line.0)
            (let end = c.most-turn-end.ensures in omega (arith, end)) some on
            (line.1
            ∙ (λ i. few line_count (so_far.left - 1) (line_at c.args.self.now.facts.now all (c.row_after-which.ensures i) (plain_body (c.as_slice-fields.ensures i)) (met (c.loop-turn.invariant.notes i)) (known (c.loop-turn.invariant.notes i)) so_far.after late)))
            sum inv.2,
      );
      left = let n = ap rows_count pushed.rows ∙ rows_push so_far.rows came.row in let left = pushed.left in omega (arith, n, sum, some, left, c.loop-turn.invariant.left);
      within = subst (λ n. n ≤ length all) (sym pushed.after) (subst (λ o. IfSome o (λ r. r.after ≤ length all)) is found.within);
      marks = subst (λ n. length new.marks ≤ n) (sym pushed.after) (subst (λ o. IfSome o (λ r. length new.marks ≤ r.after)) is found.marks);
      notes = of_some _ came _ is found.notes ∙ c.loop-turn.invariant.notes;
    }

pub read_rows-returns-clause-rows : goal.read_rows-returns-clause-rows
read_rows-returns-clause-rows t c =
    let all = seen c.args.self.now.view.now in
    let row = array_row c.args.self.now.facts.now all c.args.array.now (met c.args.learnt.now.notes.items) (known c.args.learnt.now.notes.items) in
    let over : most_rows c.args.until (length all) - c.loop-turn._turn ≡ 0 = let end = c.most-turn-end.ensures in omega (arith, end) in
    let inv = c.loop-turn.invariant.read in
    are_lines (row_body c.args.array.now) c.loop-turn.learnt.marks _ c.over-2.result _ (sym c.over-2.ensures)
    (rows_ended (row_body c.args.array.now) row c.args.until c.loop-turn.learnt.marks c.loop-turn.so_far (most_rows c.args.until (length all) - c.loop-turn._turn) _ (inl over) inv.0 inv.1 inv.2)

-- what names have at the end of each row that came
ends_of : (body : PlainBody) (row : ReadsRow) (until : Until) (marks : List Bool) (most n at : ℕ) (late : Late) (o : Option RowsCame) (came : RowsCame) → o ≡ Some came
    → AreLines body marks o (few lines_count most (rows_until row until n 0 at late))
    → (ends : List Environment) × (Some (lines_in marks came ends) ≡ few lines_count most (rows_until row until n 0 at late)) × AllPlacesAre body ends came.places.items × (length ends ≡ length came.rows)
ends_of body row until marks most n at late o came is rows =
    let it = are_lines body marks o (Some came) (few lines_count most (rows_until row until n 0 at late)) is rows in
    let lines = lines_in marks came it.0 in
    (it.0, it.1, it.2, until_long row until n 0 at late lines (first_within lines_count most (rows_until row until n 0 at late) lines it.1).0)

-- the rows up to the end that the fields after the array tell
ends_known : (row : ReadsRow) (len : ℕ) (rest : PlainBody) (names : Environment) (count : Option ℤ) (until : Until) (at : ℕ) (late : Late) → Some until ≡ until_of len rest names count
    → rows_until row until (most_rows until len) 0 at late ≡ rows_by row len rest names count at late
ends_known row len rest names count until at late is = ap (option_and_then (λ until. rows_until row until (most_rows until len) 0 at late)) is

pub read_array-returns-in-None-2-clause-step : goal.read_array-returns-in-None-2-clause-step
read_array-returns-in-None-2-clause-step t c =
    let all = seen c.args.self.now.view.now in
    let a = out-ArrayField c.args.array.now in
    let old = c.args.learnt.now in
    let names = known old.notes.items in
    let rest = plain_body c.args.rest.now in
    let late = marked c.args.at old.marks in
    let row = row_at c.args.self.now.facts.now all a.name (plain_body a.row) (met old.notes.items) names in
    let ends : Some c.in-Some.until ≡ until_of (length all) rest names (count_known names a.name a.count) =
    c.in-Some.ensures in
    no_array a.name (plain_body a.row) names (rows_by row (length all) rest names (count_known names a.name a.count) c.args.at late) c.args.left
    (are_lines (row_body c.args.array.now) c.read_rows.new.learnt.marks _ None _ c.in-None-2.is c.in_ok-came.ensures.rows
    ∙ ap (few lines_count c.args.left) (ends_known row (length all) rest names (count_known names a.name a.count) c.in-Some.until c.args.at late ends))
    ∙ ap (λ (f : PlainField). few step_count c.args.left (field_found c.args.self.now.facts.now all rest (met old.notes.items) f names c.args.at late)) (sym (array_is c.args.array.now))

pub read_array-returns-clause-step : goal.read_array-returns-clause-step
read_array-returns-clause-step t c =
    let all = seen c.args.self.now.view.now in
    let a = out-ArrayField c.args.array.now in
    let old = c.args.learnt.now in
    let names = known old.notes.items in
    let rest = plain_body c.args.rest.now in
    let late = marked c.args.at old.marks in
    let row = row_at c.args.self.now.facts.now all a.name (plain_body a.row) (met old.notes.items) names in
    let came = c.in-Some-2.came in
    let new = c.claim_count.new.learnt in
    let ends : Some c.in-Some.until ≡ until_of (length all) rest names (count_known names a.name a.count) =
    c.in-Some.ensures in
    let it = ends_of (row_body c.args.array.now) row c.in-Some.until c.read_rows.new.learnt.marks c.args.left (most_rows c.in-Some.until (length all)) c.args.at late _ came c.in-Some-2.is c.in_ok-came.ensures.rows in
    let counted : length it.0 ≡ c.len-count.result = it.3 ∙ sym c.len-count.ensures in
    let stand = subst (λ (fs : List Field). AllPlacesAre (plain_body fs) it.0 came.places.items) (sym c.as_slice.ensures) it.2 in
    let told_more = c.in_ok-learn_rows.ensures.known it.0 counted stand ∙ (λ i. also_rows (plain_body (c.as_slice.ensures i)) it.0 (known new.notes.items)) in
    let marks = c.in_ok-learn_rows.ensures.marks ∙ c.in-Ok-true.ensures.marks in
    (λ i. Some (record { value = Some (trees.Rows came.rows); after = came.after; names = told_more i; late = marked came.after (marks i) }))
    ∙ array_came a.name (plain_body a.row) names (rows_by row (length all) rest names (count_known names a.name a.count) c.args.at late) c.args.left (lines_in c.read_rows.new.learnt.marks came it.0) (known new.notes.items)
    (it.1
    ∙ ap (few lines_count c.args.left) (ends_known row (length all) rest names (count_known names a.name a.count) c.in-Some.until c.args.at late ends))
    (ap (λ b. told b (known new.notes.items)) (sym c.in-Ok-true.field-0-test) ∙ c.in-Ok-true.ensures.known
    ∙ (λ i. claim_count a.name (c.len-count.ensures i) (known (of_some _ came _ c.in-Some-2.is c.in_ok-came.ensures.notes i))))
    ∙ ap (λ (f : PlainField). few step_count c.args.left (field_found c.args.self.now.facts.now all rest (met old.notes.items) f names c.args.at late)) (sym (array_is c.args.array.now))

pub read_array-returns-in-Ok-false-clause-step : goal.read_array-returns-in-Ok-false-clause-step
read_array-returns-in-Ok-false-clause-step t c =
    let all = seen c.args.self.now.view.now in
    let a = out-ArrayField c.args.array.now in
    let old = c.args.learnt.now in
    let names = known old.notes.items in
    let rest = plain_body c.args.rest.now in
    let late = marked c.args.at old.marks in
    let row = row_at c.args.self.now.facts.now all a.name (plain_body a.row) (met old.notes.items) names in
    let came = c.in-Some-2.came in
    let new = c.claim_count.new.learnt in
    let ends : Some c.in-Some.until ≡ until_of (length all) rest names (count_known names a.name a.count) =
    c.in-Some.ensures in
    let it = ends_of (row_body c.args.array.now) row c.in-Some.until c.read_rows.new.learnt.marks c.args.left (most_rows c.in-Some.until (length all)) c.args.at late _ came c.in-Some-2.is c.in_ok-came.ensures.rows in
    not_claimed a.name (plain_body a.row) names (rows_by row (length all) rest names (count_known names a.name a.count) c.args.at late) c.args.left (lines_in c.read_rows.new.learnt.marks came it.0)
    (it.1 ∙ ap (few lines_count c.args.left) (ends_known row (length all) rest names (count_known names a.name a.count) c.in-Some.until c.args.at late ends))
    (ap (λ b. told b (known new.notes.items)) (sym c.in-Ok-false.field-0-test) ∙ c.in-Ok-false.ensures.known
    ∙ (λ i. claim_count a.name (c.len-count.ensures i) (known (of_some _ came _ c.in-Some-2.is c.in_ok-came.ensures.notes i))))
    ∙ ap (λ (f : PlainField). few step_count c.args.left (field_found c.args.self.now.facts.now all rest (met old.notes.items) f names c.args.at late)) (sym (array_is c.args.array.now))

pub read_array-returns-clause-left : goal.read_array-returns-clause-left
read_array-returns-clause-left t c =
    let came = c.in-Some-2.came in
    let n = count_rows came.rows in
    let left : came.left + rows_count came.rows ≡ c.args.left = subst (λ o. IfSome o (λ r. r.left + rows_count r.rows ≡ c.args.left)) c.in-Some-2.is c.in_ok-came.ensures.left in
    omega (arith, n, left)

pub read_array-returns-clause-met : goal.read_array-returns-clause-met
read_array-returns-clause-met t c =
    let a = out-ArrayField c.args.array.now in
    let old = c.args.learnt.now in
    let same = of_some _ c.in-Some-2.came _ c.in-Some-2.is c.in_ok-came.ensures.notes in
    c.in_ok-learn_rows.ensures.met
    ∙ (λ i. met_in_rows (plain_body (c.as_slice.ensures i)) ((c.in-Ok-true.ensures.met c.in-Ok-true.field-0-test ∙ ap (λ (ns : List Note). met_counted a.name (met ns)) same) i))
    ∙ array_met a.name a.count (plain_body a.row) (met old.notes.items)
    ∙ ap (λ (f : PlainField). met_behind f (met old.notes.items)) (sym (array_is c.args.array.now))

pub read_case-read_choice-requires : goal.read_case-read_choice-requires
read_case-read_choice-requires t c =
    let one = c.index-cases-position.result in
    let deep = at_most size-Case c.args.cases.now c.in-Some.position one c.in-Some.ensures.within in
    let same = ap size-Case c.index-cases-position.is in (
      omega (arith, deep, same),
      (fit_at c.args.cases.now c.in-Some.position one c.in-Some.ensures.within c.index-cases-position.is c.requires.fits, (c.requires.at, c.requires.marks)),
    )

pub read_case-returns-in-Some-clause-step : goal.read_case-returns-in-Some-clause-step
read_case-returns-in-Some-clause-step t c =
    let all = seen c.args.self.now.view.now in
    let old = c.args.learnt.now in
    let one = c.index-cases-position.result in
    subst (λ (o : Option Step). IfOk c.read_choice.result (λ found. option_map (met_of c.read_choice.new.learnt) found ≡ few step_count c.args.left o))
    (sym (case_read c.args.self.now.facts.now all (met old.notes.items) (known old.notes.items) c.args.at (marked c.args.at old.marks) (plain_cases c.args.cases.now) (plain_case one)
    (c.in-Some.ensures.there ∙ case_is_at c.args.cases.now c.in-Some.position one c.in-Some.ensures.within c.index-cases-position.is)))
    c.read_choice.ensures.step

pub read_case-returns-in-None-clause-step : goal.read_case-returns-in-None-clause-step
read_case-returns-in-None-clause-step t c =
    let old = c.args.learnt.now in
    ap (few step_count c.args.left)
    (sym (no_case_read c.args.self.now.facts.now (seen c.args.self.now.view.now) (met old.notes.items) (known old.notes.items) c.args.at (marked c.args.at old.marks) (plain_cases c.args.cases.now)
    c.in-None.ensures.there))

pub read_choice-returns-in_ok-name-in-Some-clause-step : goal.read_choice-returns-in_ok-name-in-Some-clause-step
read_choice-returns-in_ok-name-in-Some-clause-step t c =
    let all = seen c.args.self.now.view.now in
    let old = c.args.learnt.now in
    let new = c.read_body.new.learnt in
    let one = c.args.case.now in
    let came = c.in-Some.came in
    let names = known old.notes.items in
    let late = marked c.args.at old.marks in
    let row : plain_body c.as_slice-fields.result.now ≡ (plain_case one).row = ap plain_body c.as_slice-fields.ensures ∙ ap (λ (p : PlainCase). p.row) (sym (case_is one)) in
    let name : c.in_ok-name-in-Some.name ≡ (plain_case one).name = c.in_ok-name-in-Some.ensures ∙ ap (λ (p : PlainCase). p.name) (sym (case_is one)) in
    let line = is_line (plain_body c.as_slice-fields.result.now) new.marks _ (Some came) _ c.in-Some.is c.in_ok-came.ensures.row in
    (λ i. Some (record { value = Some (trees.Choice (name i) came.row); after = came.after; names = known (of_some _ came _ c.in-Some.is c.in_ok-came.ensures.notes i); late = marked came.after new.marks }))
    ∙ ap (chosen (plain_case one).name names) (line.1 ∙ (λ i. few line_count c.args.left (line_at c.args.self.now.facts.now all None (row i) (met old.notes.items) names c.args.at late)))
    ∙ sym (choice_few (plain_case one).name names (line_at c.args.self.now.facts.now all None (plain_case one).row (met old.notes.items) names c.args.at late) c.args.left)

pub read_choice-returns-in-None-clause-step : goal.read_choice-returns-in-None-clause-step
read_choice-returns-in-None-clause-step t c =
    let all = seen c.args.self.now.view.now in
    let old = c.args.learnt.now in
    let one = c.args.case.now in
    let names = known old.notes.items in
    let late = marked c.args.at old.marks in
    let row : plain_body c.as_slice-fields.result.now ≡ (plain_case one).row = ap plain_body c.as_slice-fields.ensures ∙ ap (λ (p : PlainCase). p.row) (sym (case_is one)) in
    ap (chosen (plain_case one).name names)
    (is_line (plain_body c.as_slice-fields.result.now) c.read_body.new.learnt.marks _ None _ c.in-None.is c.in_ok-came.ensures.row
    ∙ (λ i. few line_count c.args.left (line_at c.args.self.now.facts.now all None (row i) (met old.notes.items) names c.args.at late)))
    ∙ sym (choice_few (plain_case one).name names (line_at c.args.self.now.facts.now all None (plain_case one).row (met old.notes.items) names c.args.at late) c.args.left)

pub read_field-returns-in-Some-clause-step : goal.read_field-returns-in-Some-clause-step
read_field-returns-in-Some-clause-step t c =
    let all = seen c.args.self.now.view.now in
    let rest = plain_body c.args.rest.now in
    let field = plain_field c.args.field.now in
    let old = c.args.learnt.now in
    let new = c.read_pieces.new.learnt in
    let late = marked c.args.at old.marks in
    spent_late new c.spend.result c.in-Some.came.after c.spend.ensures.after
    ∙ c.spend.ensures.met (known new.notes.items) (marked c.in-Some.came.after new.marks)
    ∙ ap (few step_count c.args.left)
    (ap (option_map (step_of new)) (sym c.in-Some.is) ∙ c.in_ok-came-in-Num.ensures.step
    ∙ leaf_found c.args.self.now.facts.now all (plain_body c.args.here.now) rest (met old.notes.items) field (known old.notes.items) c.args.at late (leaf_of c.args.field.now c.in-Num.is) c.requires.here)

pub read_field-returns-in-Some-clause-met : goal.read_field-returns-in-Some-clause-met
read_field-returns-in-Some-clause-met t c =
    let field = plain_field c.args.field.now in
    let old = c.args.learnt.now in
    some_so c.spend.result (met c.read_pieces.new.learnt.notes.items ≡ met_behind field (met old.notes.items))
    (of_some _ c.in-Some.came _ c.in-Some.is c.in_ok-came-in-Num.ensures.met ∙ leaf_met field (met old.notes.items) (leaf_of c.args.field.now c.in-Num.is))

pub read_field-returns-in-None-clause-step : goal.read_field-returns-in-None-clause-step
read_field-returns-in-None-clause-step t c =
    let all = seen c.args.self.now.view.now in
    let rest = plain_body c.args.rest.now in
    let field = plain_field c.args.field.now in
    let old = c.args.learnt.now in
    let late = marked c.args.at old.marks in
    ap (few step_count c.args.left)
    (ap (option_map (step_of c.read_pieces.new.learnt)) (sym c.in-None.is) ∙ c.in_ok-came-in-Num.ensures.step
    ∙ leaf_found c.args.self.now.facts.now all (plain_body c.args.here.now) rest (met old.notes.items) field (known old.notes.items) c.args.at late (leaf_of c.args.field.now c.in-Num.is) c.requires.here)

pub read_fields-push_label-requires : goal.read_fields-push_label-requires
read_fields-push_label-requires t c =
    let long = seen_length c.args.self.now.view.now.bytes.now in
    let short = c.args.self.now.view.now.short in
    let within = c.loop-field.invariant.within in
    omega (arith, long, short, within)

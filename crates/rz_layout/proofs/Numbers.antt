-- The faults of rows.
use Rattle.std.proofs.Common.{◌≡◌, ℕ, zero, suc, ◌+◌, ◌<◌, ℤ, pos, negsuc, Bool, true, false, ◌||◌, List, [], ◌∷◌, length, Option, Some, None, Result, Ok, Err, refl, sym, ap, subst, ◌∙◌, arith}
use Rattle.std.specs.Prelude.{if◌then◌else◌, int_le, nat_lt, nat_abs, option_and_then, slice_get}
use Rattle.std.proofs.lemmas.Bool.Decides.{nat_tests}
use Rattle.std.specs.List.{list_any, AllByRecursion}
use Rattle.std.specs.Option.{is_some, option_to_list}
use Rattle.rz_core.proofs.Tests.{by_test, or_false, true_false}
use Rattle.rz_core.specs.Stop.{◌>>=◌}
use Rattle.rz_core.specs.declared.facts.Facts.{Facts}
use Rattle.rz_bits.specs.Bits.{bytes_of}
use Rattle.rz_bits.specs.BitBuf.{filled, zeros}
use Rattle.rz_expr.specs.Environment.{count_key, count_of, place_in, place_of, row_in, row_key, rows_of, Environment, Key, Sight}
use Rattle.rz_core.specs.declared.resource.Word.{Word}
use Rattle.rz_expr.specs.Term.{Term}
use Rattle.rz_expr.specs.Value.{value_of}
use Rattle.rz_expr.specs.declared.value.EvalFault.{EvalFault}
use Rattle.rz_types_fields.proofs.RowKeys.{undeclared as around_undeclared}
use Rattle.rz_types_fields.specs.declared.field.NumForm.{NumForm}
use Rattle.rz_types_fields.specs.declared.tree.Tree.{Tree}
use Rattle.rz_types_fields.specs.Field.{case_and, field_and, no_cases, no_fields, takes_value, Align, Array, Fill, Label, Number, PlainBody, PlainCases, PlainField, Points, Switch, Text}
use Rattle.rz_types_fields.specs.Laid.{behind_rows, body_laid, case_laid, closing, draft_sight, early, enter, field_laid, fill, first_value, fixed_form, grown, in_order, laid, late_at, late_bits, later, lay, line_in, met_in, nothing_laid, now, number_form, other_values, patched, piece_form, pieces_laid, placed, ranged, reads_late, row_ended, row_laid, rows_in, rows_laid, takes_one, text_laid, too_long, value_refusal, valued, with_form, with_room, AllRows, Draft, Form, LateNumber, Refusal}
use Rattle.rz_types_fields.specs.Passed.{declares, gives_rows, has_label, outside}
use Rattle.rz_types_fields.specs.RowLabels.{also_rows, is_row, row_number, row_of, rows_give, RowOf}
use Rattle.rz_layout.specs.Places.{AreStanding}
use Rattle.rz_types_fields.specs.Piece.{integers, pieces_of, points_terms, terms_of_text, Filler, OneNumber, OneText, Piece, Place, Zeros}
use Rattle.rz_types_fields.specs.Sees.{names_later, sees}
use Rattle.rz_types_fields.specs.Spells.{is_case, most_bits, values_for}
use Rattle.rz_types.specs.Kept.{AreCasesKept, AreKept, IsKept, IsKeptWithin}
use Rattle.rz_types.specs.Names.{FillsRows, GivesCounts, GivesNumbers, GivesOwn, NamesNothing}
use Rattle.rz_types.specs.Readable.{all_known}
use Rattle.rz_types.specs.Rules.{unknown_in, unknown_name}
use Rattle.rz_types.specs.Walk.{and_names, around_names, names_of, no_names, Own}
use Rattle.rz_layout.proofs.EachRow.{drafted, row_drafted, row_end, rows_drafted}
use Rattle.rz_layout.proofs.LabelsStand.{ends_stand, standing_label}
use Rattle.rz_layout.proofs.Sees.{is_in_row}
use Rattle.rz_layout.proofs.Unmet.{rows_given}
use Rattle.rz_layout.proofs.Filled.{Each}
use Rattle.rz_layout.proofs.Fitting.{piece_alone, piece_is, placed_is, placed_none}
use Rattle.rz_layout.proofs.Giving.{case_scope, closing_given, each_append, each_mapped, entered_counts, entered_fills, entered_numbers, entered_some, is_valued, or_left, outside_fills, outside_numbers, outside_own, row_scope, some_value, IsEnded, IsGiven, IsScope}
use Rattle.rz_layout.proofs.Labels.{entered_row, gives_place, gives_places, is_around, label_key, places_labels, row_is_around}
use Rattle.rz_layout.specs.Compiled.{is_compile_fault}
use Rattle.rz_layout.proofs.Faults.{each_named, point_pieces, ranged_known, text_known, then_known, value_known, valued_known, HasNames, HasTerms, IsNamed, Known}

-- Places in rows.

some_same : (one other : ℤ) → ◌≡◌ {A = Option ℤ} (Some one) (Some other) → one ≡ other
some_same one other is = cc is

end_place : (row : PlainBody) (ends : List Environment) → AllByRecursion (λ own. AreStanding own row) ends → (label : List ℕ) → has_label row label ≡ true → (j : ℕ) → j < length ends
    → (place : ℤ) × (option_and_then (λ own. own.give (place_of label)) (slice_get ends j) ≡ Some place)
end_place row [] stand label own j less = absurd (omega (arith, less))
end_place row (end ∷ ends) stand label own zero less = standing_label row end label stand.0 own
end_place row (end ∷ ends) stand label own (suc j) less = end_place row ends stand.1 label own j (omega (arith, less))

-- a label in rows has a place in each of them
place_given : (row : PlainBody) (ends : List Environment) → AllByRecursion (λ own. AreStanding own row) ends → (label : List ℕ) (number : ℤ) → has_label row label ≡ true → int_le (pos 1) number ≡ true
    → int_le number (pos (length ends)) ≡ true → (place : ℤ) × (rows_give ends (place_in label number) ≡ Some place)
place_given row ends stand label (negsuc n) own low high = absurd (true_false (sym low))
place_given row ends stand label (pos zero) own low high = absurd (true_false (sym low))
place_given row ends stand label (pos (suc j)) own low high = let less : j < length ends = grind (arith, nat_tests, high) in end_place row ends stand label own j less

around_single : (key : Key) → is_around key ≡ true → is_in_row key ≡ false
around_single (place_of name) is = refl
around_single (count_of name) is = refl
around_single (rows_of name) is = refl
around_single (place_in name number) is = absurd (true_false (sym is))
around_single (row_in name) is = refl

label_single : (in_rows : Bool) (name : List ℕ) → is_in_row (label_key in_rows name) ≡ false
label_single false name = refl
label_single true name = refl

has_number : (which : Option RowOf) (key : Key) → is_row which key ≡ true → is_some (row_number which) ≡ true
has_number None key at_row = absurd (true_false (sym at_row))
has_number (Some row) key at_row = refl

-- With the values of expressions.
module _ (values : (scope : Own) (sight : Sight) (term : Term) → GivesNumbers scope.around sight.names → FillsRows sight.names → unknown_name scope term ≡ None
    → all_known (met_in sight.names) (met_in sight.names) term ≡ true → NamesNothing (value_of term sight))
    (names_end : (scope : Own) (names : Environment) (term : Term) → GivesOwn scope names → unknown_name scope term ≡ None → all_known (met_in names) (met_in names) term ≡ true)
    (names_early : (scope : Own) (names : Environment) (term : Term) → GivesCounts scope.arrays names → unknown_name scope term ≡ None → names_later (met_in names) term ≡ false → all_known (met_in names) (met_in names) term ≡ true)
    (known : Facts) where
  -- what stands in a draft: numbers of rows and of the rows around, places in all rows, and names for late numbers
  record Ready (scope : Own) (draft : Draft) : Type 0 where
    counts : GivesCounts scope.arrays draft.known
    around : GivesNumbers scope.around draft.known
    fills : FillsRows draft.known
    numbers : Each (IsGiven known scope) draft.numbers

  -- after a step nothing that had a value has none, and these labels have one
  record Next (scope : Own) (labels : Key → Bool) (draft next : Draft) : Type 0 where
    grows : (key : Key) → is_in_row key ≡ false → is_some (draft.known.give key) ≡ true → is_some (next.known.give key) ≡ true
    given : (in_rows : Bool) (name : List ℕ) → labels (label_key in_rows name) ≡ true → is_some (next.known.give (label_key in_rows name)) ≡ true
    fills : FillsRows next.known
    numbers : Each (IsGiven known scope) next.numbers

  abbrev Tells : Own → (Key → Bool) → Draft → Result Draft Refusal → Type 0
  Tells scope labels draft (Ok next) = Next scope labels draft next
  Tells scope labels draft (Err fault) = is_compile_fault fault.number ≡ true

  ready_next : (scope : Own) (labels : Key → Bool) (draft next : Draft) → Ready scope draft → Next scope labels draft next → Ready scope next
  ready_next scope labels draft next ready it = record {
    counts = record { give = λ name among. let given = ready.counts.give name among in some_value (next.known.give (count_key name)) (it.grows (count_key name) refl (is_valued (draft.known.give (count_key name)) given.0 given.1)) };
    around = record { give = λ name among. let given = ready.around.give name among in some_value (next.known.give (row_key name)) (it.grows (row_key name) refl (is_valued (draft.known.give (row_key name)) given.0 given.1)) };
    fills = it.fills;
    numbers = it.numbers;
  }

  both_tell : (scope : Own) (one two : Key → Bool) (draft next : Draft) → Next scope one draft next → (result : Result Draft Refusal) → Tells scope two next result → Tells scope (λ key. one key || two key) draft result
  both_tell scope one two draft next it (Ok after) more = record {
    grows = λ key single is. more.grows key single (it.grows key single is);
    given = λ in_rows name is. by_test (is_some (after.known.give (label_key in_rows name)) ≡ true) (two (label_key in_rows name)) (λ own. more.given in_rows name own)
        (λ none. more.grows (label_key in_rows name) (label_single in_rows name) (it.given in_rows name (or_left (one (label_key in_rows name)) (two (label_key in_rows name)) is none)));
    fills = more.fills;
    numbers = more.numbers;
  }
  both_tell scope one two draft next it (Err fault) more = more

  then_tells : (scope : Own) (one two : Key → Bool) (draft : Draft) (result : Result Draft Refusal) (others : Draft → Result Draft Refusal) → Ready scope draft → Tells scope one draft result
      → ((next : Draft) → Ready scope next → Tells scope two next (others next)) → Tells scope (λ key. one key || two key) draft (result >>= others)
  then_tells scope one two draft (Ok next) others ready it more = both_tell scope one two draft next it (others next) (more next (ready_next scope one draft next ready it))
  then_tells scope one two draft (Err fault) others ready it more = it

  done_tells : (scope : Own) (draft : Draft) → Ready scope draft → Tells scope (λ key. false) draft (Ok draft)
  done_tells scope draft ready = record { grows = λ key single is. is; given = λ in_rows name is. absurd (true_false (sym is)); fills = ready.fills; numbers = ready.numbers }

  fewer_tell : (scope : Own) (one two : Key → Bool) (draft : Draft) (result : Result Draft Refusal) → ((key : Key) → two key ≡ true → one key ≡ true) → Tells scope one draft result → Tells scope two draft result
  fewer_tell scope one two draft (Ok next) fewer it = record { grows = it.grows; given = λ in_rows name is. it.given in_rows name (fewer (label_key in_rows name) is); fills = it.fills; numbers = it.numbers }
  fewer_tell scope one two draft (Err fault) fewer it = it

  -- Pieces.

  abbrev FormTells : Own → Result Form Refusal → Type 0
  FormTells scope (Ok (now bits)) = Unit {0}
  FormTells scope (Ok (later form width term)) = IsNamed scope term
  FormTells scope (Err fault) = is_compile_fault fault.number ≡ true

  bits_tell : (scope : Own) (bits : Result (List Bool) Refusal) → Known bits → FormTells scope (bits >>= λ bits. Ok (now bits))
  bits_tell scope (Ok bits) is = tt
  bits_tell scope (Err fault) is = is

  module _ (scope : Own) (draft : Draft) (ready : Ready scope draft) where
    seen_names : (term : Term) → IsNamed scope term → names_later (met_in draft.known) term ≡ false → HasNames known draft term
    seen_names term named early = values scope (draft_sight known draft) term ready.around ready.fills named (names_early scope draft.known term ready.counts named early)

    fixed_tells : (form : NumForm) (width : ℤ) (term : Term) → IsNamed scope term → (found : Result ℤ EvalFault) → NamesNothing found → FormTells scope (fixed_form draft form width term found)
    fixed_tells form width term named (Ok value) is = bits_tell scope (ranged draft.piece form width value) (ranged_known draft.piece form width value)
    fixed_tells form width term named (Err fault) is = by (reads_late (length draft.bits) fault)
      where
        by : (test : Bool) → FormTells scope (if test then Ok (later form width term) else Err (value_refusal draft.piece fault))
        by true = named
        by false = value_known draft.piece fault is

    number_tells : (form : NumForm) (width : ℤ) (fixed : Option Term) → AllByRecursion (IsNamed scope) (option_to_list fixed) → (value : Option Tree) → FormTells scope (number_form known draft form width fixed value)
    number_tells form width None named value = tt
    number_tells form width (Some term) named value = by (names_later (met_in draft.known) term) refl
      where
        by : (test : Bool) → names_later (met_in draft.known) term ≡ test
            → FormTells scope (if test then Ok (later form width term) else fixed_form draft form width term (value_of term (draft_sight known draft)))
        by true is = named.0
        by false is = fixed_tells form width term named.0 (value_of term (draft_sight known draft)) (seen_names term named.0 is)

    all_names : (terms : List Term) → AllByRecursion (IsNamed scope) terms → list_any (names_later (met_in draft.known)) terms ≡ false → AllByRecursion (HasNames known draft) terms
    all_names [] named none = tt
    all_names (term ∷ terms) named none =
        let each = or_false (names_later (met_in draft.known) term) (list_any (names_later (met_in draft.known)) terms) none in
        (seen_names term named.0 each.0, all_names terms named.1 each.1)

    form_tells : (piece : Piece) → HasTerms scope piece → (value : Option Tree) → FormTells scope (piece_form known draft piece value)
    form_tells (OneNumber number) named value = number_tells number.form number.width number.fixed named value
    form_tells (OneText text) named value = bits_tell scope (text_laid known draft text value) (text_known known draft text value (all_names (terms_of_text text) named))
    form_tells (Zeros count) named value = tt
    form_tells (Filler unit) named value = tt
    form_tells (Place name) named value = tt

    grown_tells : (piece : Piece) (bits : List Bool) (is_late : Bool) (numbers : List LateNumber) → Each (IsGiven known scope) numbers → Next scope (piece_is piece) draft (grown piece draft bits is_late numbers)
    grown_tells piece bits is_late numbers each = record {
      grows = λ key single is. by key is (piece_is piece key) refl;
      given = λ in_rows name is. ap is_some (placed_is piece (length draft.bits) draft.known (label_key in_rows name) is);
      fills = record {
        give = λ label rows number has low high.
            let there = ready.fills.give label rows number (sym (placed_none piece (length draft.bits) draft.known (rows_of label) (piece_alone piece (rows_of label) refl)) ∙ has) low high in
            (there.0, placed_none piece (length draft.bits) draft.known (place_in label number) (piece_alone piece (place_in label number) refl) ∙ there.1);
      };
      numbers = each_append (IsGiven known scope) draft.numbers numbers ready.numbers each;
    }
      where
        by : (key : Key) → is_some (draft.known.give key) ≡ true → (test : Bool) → piece_is piece key ≡ test → is_some ((placed piece (length draft.bits) draft.known).give key) ≡ true
        by key is true own = ap is_some (placed_is piece (length draft.bits) draft.known key own)
        by key is false own = ap is_some (placed_none piece (length draft.bits) draft.known key own) ∙ is

    room_tells : (piece : Piece) (count : ℕ) (next : Draft) → Next scope (piece_is piece) draft next → Tells scope (piece_is piece) draft (with_room draft count next)
    room_tells piece count next it = by (nat_lt most_bits (length draft.bits + count))
      where
        by : (test : Bool) → Tells scope (piece_is piece) draft (if test then Err (too_long draft (length draft.bits + count)) else Ok next)
        by true = refl
        by false = it

    laid_tells : (piece : Piece) (form : Result Form Refusal) → FormTells scope form → Tells scope (piece_is piece) draft (form >>= with_form draft piece)
    laid_tells piece (Ok (now bits)) is = room_tells piece (length bits) (grown piece draft bits false []) (grown_tells piece bits false [] tt)
    laid_tells piece (Ok (later form width term)) is =
        let one = late_at draft form width term in
        room_tells piece (nat_abs width) (grown piece draft (zeros (nat_abs width)) true (one ∷ []))
        (grown_tells piece (zeros (nat_abs width)) true (one ∷ []) ((λ names gives numbers fills bits. values scope (sees known bits names (length draft.bits)) term numbers fills is (names_end scope names term gives is)), tt))
    laid_tells piece (Err fault) is = is

    lay_tells : (piece : Piece) → HasTerms scope piece → (value : Option Tree) → Tells scope (piece_is piece) draft (lay known draft piece value)
    lay_tells piece named value = laid_tells piece (piece_form known draft piece value) (form_tells piece named value)

  abbrev pieces_are : List Piece → Key → Bool
  pieces_are [] key = false
  pieces_are (piece ∷ pieces) key = piece_is piece key || pieces_are pieces key

  pieces_tell : (scope : Own) (pieces : List Piece) → AllByRecursion (HasTerms scope) pieces → (draft : Draft) → Ready scope draft → (vs : List Tree) → Tells scope (pieces_are pieces) draft (in_order takes_one (lay known) draft pieces vs)
  pieces_tell scope [] named draft ready vs = done_tells scope draft ready
  pieces_tell scope (piece ∷ pieces) named draft ready vs =
      let value = first_value (takes_one piece) vs in
      then_tells scope (piece_is piece) (pieces_are pieces) draft (lay known draft piece value) (λ next. in_order takes_one (lay known) next pieces (other_values (takes_one piece) vs)) ready
      (lay_tells scope draft ready piece named.0 value) (λ next more. pieces_tell scope pieces named.1 next more (other_values (takes_one piece) vs))

  none_tell : (scope : Own) (pieces : List Piece) → AllByRecursion (HasTerms scope) pieces → (draft : Draft) → Ready scope draft → (vs : List Tree) → Tells scope (λ key. false) draft (in_order takes_one (lay known) draft pieces vs)
  none_tell scope pieces named draft ready vs =
      fewer_tell scope (pieces_are pieces) (λ key. false) draft (in_order takes_one (lay known) draft pieces vs) (λ key is. absurd (true_false (sym is))) (pieces_tell scope pieces named draft ready vs)

  -- Rows.

  abbrev BodyTells : Own → PlainBody → Type 0
  BodyTells scope body = (draft : Draft) → Ready scope draft → (vs : List Tree) → Tells scope (gives_places body) draft (body_laid known draft body vs)

  abbrev FieldTells : Own → PlainField → Type 0
  FieldTells scope field = (draft : Draft) → Ready scope draft → (value : Option Tree) → Tells scope (gives_place field) draft (field_laid known draft field value)

  abbrev CasesTell : Own → PlainCases → Type 0
  CasesTell scope cases = (draft : Draft) → Ready scope draft → (value : Option Tree) → Tells scope (λ key. false) draft (case_laid known draft cases value)

  ended : (scope inner : Own) (which : Option RowOf) (row : PlainBody) (line : List Tree) (draft next : Draft) → Next inner (gives_places row) (enter which row line draft) next → IsEnded which row next.known
  ended scope inner which row line draft next it = record { gives = declared; number = numbered; fills = it.fills }
    where
      declared : (key : Key) → is_in_row key ≡ false → declares row key ≡ true → is_some (next.known.give key) ≡ true
      declared (place_of name) single is = it.given false name (sym (places_labels row false name) ∙ is)
      declared (count_of name) single is = it.grows (count_of name) refl (entered_some which row line draft.known name is)
      declared (rows_of name) single is = it.given true name (sym (places_labels row true name) ∙ is)
      declared (place_in name number) single is = absurd (true_false single)
      declared (row_in name) single is = absurd (true_false (sym is ∙ around_undeclared row name))

      numbered : (key : Key) → is_row which key ≡ true → is_some (next.known.give key) ≡ true
      numbered key at_row = it.grows key (around_single key (row_is_around which key at_row)) (ap is_some (entered_row which row line draft.known key at_row) ∙ has_number which key at_row)

  leave_tells : (scope inner : Own) (which : Option RowOf) (row : PlainBody) → IsScope scope inner which row → (line : List Tree) (draft : Draft) → Ready scope draft → (result : Result Draft Refusal)
      → Tells inner (gives_places row) (enter which row line draft) result → Tells scope (λ key. false) draft (row_drafted (result >>= λ next. Ok (row_end which row draft next)))
  leave_tells scope inner which row is line draft ready (Ok next) it = record {
    grows = λ key single has. has;
    given = λ in_rows name is. absurd (true_false (sym is));
    fills = ready.fills;
    numbers = each_append (IsGiven known scope) draft.numbers _ ready.numbers
        (each_mapped (IsGiven known inner) (IsGiven known scope) (closing which row next.known)
        (closing_given known scope inner which row is next.known (ended scope inner which row line draft next it)) next.numbers it.numbers);
  }
  leave_tells scope inner which row is line draft ready (Err fault) it = it

  inside_tells : (scope inner : Own) (which : Option RowOf) (row : PlainBody) → IsScope scope inner which row → BodyTells inner row → (draft : Draft) → Ready scope draft → (line : List Tree)
      → Tells scope (λ key. false) draft (row_laid known which row draft line)
  inside_tells scope inner which row is tells draft ready line =
      leave_tells scope inner which row is line draft ready (body_laid known (enter which row line draft) row line)
      (tells (enter which row line draft) (record {
        counts = entered_counts scope inner which row is line draft.known ready.counts;
        around = entered_numbers scope inner which row is line draft.known ready.around;
        fills = entered_fills which row line draft.known ready.fills;
        numbers = tt;
      }) line)

  rows_tell : (scope inner : Own) (name : Option Word) (row : PlainBody) → ((number : ℕ) → IsScope scope inner (row_of name number) row) → BodyTells inner row → (number : ℕ) (draft : Draft) → Ready scope draft → (rows : List (List Tree))
      → Tells scope (λ key. false) draft (drafted (rows_laid (λ number. row_ended known (row_of name number) row) number draft rows))
  rows_tell scope inner name row is tells number draft ready [] = done_tells scope draft ready
  rows_tell scope inner name row is tells number draft ready (line ∷ rows) =
      let lay = λ (number : ℕ). row_ended known (row_of name number) row in
      subst (Tells scope (λ key. false) draft) (sym (rows_drafted (lay number draft line) (λ next. rows_laid lay (number + 1) next rows)))
      (then_tells scope (λ key. false) (λ key. false) draft (row_laid known (row_of name number) row draft line) (λ next. drafted (rows_laid lay (number + 1) next rows)) ready
      (inside_tells scope inner (row_of name number) row (is number) tells draft ready line) (λ next more. rows_tell scope inner name row is tells (number + 1) next more rows))

  -- after an array the labels in its rows have places in each of them
  behind_fills : (row : PlainBody) (ends : List Environment) (names : Environment) → AllByRecursion (λ own. AreStanding own row) ends → FillsRows names → FillsRows (also_rows row ends names)
  behind_fills row ends names stand fills = record { give = λ label rows number has low high. by label rows number has low high (has_label row label) refl }
    where
      by : (label : List ℕ) (rows number : ℤ) → (if has_label row label then Some (pos (length ends)) else names.give (rows_of label)) ≡ Some rows → int_le (pos 1) number ≡ true → int_le number rows ≡ true
          → (test : Bool) → has_label row label ≡ test → (place : ℤ) × ((if has_label row label then rows_give ends (place_in label number) else names.give (place_in label number)) ≡ Some place)
      by label rows number has low high true own =
          let same : pos (length ends) ≡ rows = some_same (pos (length ends)) rows (sym (ap (λ (test : Bool). if test then Some (pos (length ends)) else names.give (rows_of label)) own) ∙ has) in
          let there = place_given row ends stand label number own low (subst (λ (r : ℤ). int_le number r ≡ true) (sym same) high) in
          (there.0, ap (λ (test : Bool). if test then rows_give ends (place_in label number) else names.give (place_in label number)) own ∙ there.1)
      by label rows number has low high false own =
          let there = fills.give label rows number (sym (ap (λ (test : Bool). if test then Some (pos (length ends)) else names.give (rows_of label)) own) ∙ has) low high in
          (there.0, ap (λ (test : Bool). if test then rows_give ends (place_in label number) else names.give (place_in label number)) own ∙ there.1)

  behind_grows : (row : PlainBody) (ends : List Environment) (names : Environment) (key : Key) → is_in_row key ≡ false → is_some (names.give key) ≡ true → is_some ((also_rows row ends names).give key) ≡ true
  behind_grows row ends names (place_of name) single has = has
  behind_grows row ends names (count_of name) single has = has
  behind_grows row ends names (rows_of name) single has = by (has_label row name)
    where
      by : (test : Bool) → is_some (if test then Some (pos (length ends)) else names.give (rows_of name)) ≡ true
      by true = refl
      by false = has
  behind_grows row ends names (place_in name number) single has = absurd (true_false single)
  behind_grows row ends names (row_in name) single has = has

  array_tells : (scope : Own) (row : PlainBody) (draft : Draft) (result : Result AllRows Refusal) → ((rows : AllRows) → result ≡ Ok rows → AllByRecursion (λ own. AreStanding own row) rows.ends)
      → Tells scope (λ key. false) draft (drafted result) → Tells scope (gives_rows row) draft (result >>= λ rows. Ok (behind_rows row rows))
  array_tells scope row draft (Ok rows) stand it = record {
    grows = λ key single has. behind_grows row rows.ends rows.draft.known key single (it.grows key single has);
    given = rows_given row rows.ends rows.draft.known;
    fills = behind_fills row rows.ends rows.draft.known (stand rows refl) it.fills;
    numbers = it.numbers;
  }
  array_tells scope row draft (Err fault) stand it = it

  either_tells : (scope : Own) (draft : Draft) (test : Bool) (this other : Result Draft Refusal) → Tells scope (λ key. false) draft this → Tells scope (λ key. false) draft other → Tells scope (λ key. false) draft (if test then this else other)
  either_tells scope draft true this other one more = one
  either_tells scope draft false this other one more = more

  mutual
    field_tells : (scope : Own) (field : PlainField) → unknown_in scope field ≡ None → IsKeptWithin scope field → FieldTells scope field
    field_tells scope (Number number) none kept draft ready value = none_tell scope (OneNumber number ∷ []) (each_named scope (option_to_list number.fixed) none, tt) draft ready (option_to_list value)
    field_tells scope (Text text) none kept draft ready value = none_tell scope (OneText text ∷ []) (each_named scope (terms_of_text text) none, tt) draft ready (option_to_list value)
    field_tells scope (Points points) none kept draft ready value =
        none_tell scope (integers points.rect points.fixed) (point_pieces scope points.rect points.fixed (each_named scope (points_terms points.fixed) none)) draft ready (values_for (Points points) value)
    field_tells scope (Fill unit count) none kept draft ready value = none_tell scope (pieces_of (Fill unit count)) (tt, tt) draft ready (option_to_list value)
    field_tells scope (Align unit) none kept draft ready value = none_tell scope (pieces_of (Align unit)) (tt, tt) draft ready (option_to_list value)
    field_tells scope (Label name) none kept draft ready value =
        fewer_tell scope (pieces_are (Place name ∷ [])) (gives_place (Label name)) draft (pieces_laid known draft (Label name) value) (λ key is. ap (λ (test : Bool). test || false) is)
        (pieces_tell scope (Place name ∷ []) (tt, tt) draft ready (option_to_list value))
    field_tells scope (Array name count row) none kept draft ready value =
        let inner = and_names (and_names scope (around_names name)) (names_of row) in
        let lay = λ (number : ℕ). row_ended known (row_of name number) row in
        array_tells scope row draft (rows_laid lay 1 draft (rows_in value)) (λ rows is. ends_stand known name row 1 (rows_in value) draft rows is)
        (rows_tell scope inner name row (λ number. row_scope scope name number row) (body_tells inner row kept.2) 1 draft ready (rows_in value))
    field_tells scope (Switch cases) none kept draft ready value = cases_tell scope cases kept.1 draft ready value

    cases_tell : (scope : Own) (cases : PlainCases) → AreCasesKept scope cases → CasesTell scope cases
    cases_tell scope no_cases kept draft ready value = done_tells scope draft ready
    cases_tell scope (case_and name row others) kept draft ready value =
        let inner = and_names scope (names_of row) in
        either_tells scope draft (is_case name value) (row_laid known None row draft (line_in value)) (case_laid known draft others value)
        (inside_tells scope inner None row (case_scope scope row) (body_tells inner row kept.1) draft ready (line_in value))
        (cases_tell scope others kept.2 draft ready value)

    body_tells : (scope : Own) (body : PlainBody) → AreKept scope body → BodyTells scope body
    body_tells scope no_fields kept draft ready vs = done_tells scope draft ready
    body_tells scope (field_and field fields) kept draft ready vs =
        let value = first_value (takes_value field) vs in
        then_tells scope (gives_place field) (gives_places fields) draft (field_laid known draft field value) (λ next. body_laid known next fields (other_values (takes_value field) vs)) ready
        (field_tells scope field kept.1 kept.2 draft ready value) (λ next more. body_tells scope fields kept.3 next more (other_values (takes_value field) vs))

  -- The second pass.

  fill_known : (scope : Own) (names : Environment) → GivesOwn scope names → GivesNumbers scope.around names → FillsRows names → (numbers : List LateNumber) → Each (IsGiven known scope) numbers → (bits : List Bool)
      → Known (fill known names numbers bits)
  fill_known scope names gives around fills [] each bits = tt
  fill_known scope names gives around fills (one ∷ others) each bits =
      let sight = sees known bits (one.names names) one.at in
      then_known (late_bits known names one bits) (λ own. fill known names others (patched one.at own bits))
      (then_known (valued one.piece (value_of one.term sight)) (λ value. ranged one.piece one.form one.width value)
      (valued_known one.piece (value_of one.term sight) (each.0 names gives around fills bits)) (λ value. ranged_known one.piece one.form one.width value))
      (λ own. fill_known scope names gives around fills others each.1 (patched one.at own bits))

  filled_known : (draft : Draft) (result : Result Draft Refusal) → Tells no_names (λ key. false) draft result
      → Known (result >>= λ next. fill known outside next.numbers next.bits >>= λ bits. Ok (bytes_of (filled 8 bits)))
  filled_known draft (Ok next) it =
      then_known (fill known outside next.numbers next.bits) (λ bits. Ok (bytes_of (filled 8 bits))) (fill_known no_names outside outside_own outside_numbers outside_fills next.numbers it.numbers next.bits) (λ bits. tt)
  filled_known draft (Err fault) it = it

  pub row_known : (body : PlainBody) (row : List Tree) → IsKept body → Known (laid known body row)
  row_known body row kept =
      filled_known nothing_laid (row_laid known None body nothing_laid row)
      (inside_tells no_names (names_of body) None body (case_scope no_names body) (body_tells (names_of body) body kept.1) nothing_laid
      (record { counts = outside_own.counts; around = outside_numbers; fills = outside_fills; numbers = tt }) row)

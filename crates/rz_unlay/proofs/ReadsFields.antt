-- What is spelled plainly is read.
use Rattle.std.proofs.Common.{◌≡◌, ℕ, ◌+◌, ◌%◌, ◌^◌, ◌<◌, ◌≤◌, ◌==◌, Bool, true, false, ◌&&◌, List, [], length, take, drop, Option, Some, None, refl, sym, ap, ◌∙◌, subst, arith}
use Rattle.std.specs.Prelude.{if◌then◌else◌, nat_le, nat_lt, option_and_then, option_map, slice_index}
use Rattle.std.proofs.lemmas.List.{drop_at, length-append, length-take-le}
use Rattle.std.proofs.Math.Nat.{mod-eq_of_lt}
use Rattle.rz_core.specs.declared.facts.Facts.{Facts}
use Rattle.rz_core.specs.declared.resource.Word.{Word}
use Rattle.rz_expr.specs.Environment.{count_of, place_of, Environment, IsPartOf}
use Rattle.rz_bits.specs.Bits.{bits_of, bytes_of, number_bits, number_of}
use Rattle.rz_bits.specs.BitBuf.{filled, missing, zeros}
use Rattle.rz_types_fields.specs.declared.tree.Tree.{Tree}
use Rattle.rz_types_fields.specs.declared.tree.Tree.TheVariants as trees
use Rattle.rz_types_fields.specs.Field.{case_and, field_and, no_cases, no_fields, Align, Array, Fill, Label, Number, PlainBody, PlainCases, PlainField, Points, Switch, Text}
use Rattle.rz_types_fields.specs.Front.{names_inside}
use Rattle.rz_types_fields.specs.Passed.{at_field, at_front, behind, has_label, met_behind, met_inside, nothing_passed, outside, Names, Passed}
use Rattle.rz_types_fields.specs.Sees.{Late}
use Rattle.rz_types_fields.specs.Shape.{are_cases_shaped, are_shaped, body_depth, deepest_body, is_none_or, is_own_name, is_shaped, is_well_shaped}
use Rattle.rz_types_fields.specs.RowLabels.{also_rows, row_of}
use Rattle.rz_types_fields.specs.Spells.{is_case, plainly, put, values_in, AreRows, BodySpells, CaseSpells, FieldSpells, HasPlace, Inside, SpellsPlainly}
use Rattle.rz_types_fields.specs.Width.{case_keys}
use Rattle.rz_types.specs.Kept.{AreCasesApart, AreKeysApart, AreKeysApartIn}
use Rattle.rz_types.specs.Readable.{are_cases_read, are_read, is_read, is_readable, least_widths, rows_end}
use Rattle.rz_unlay.specs.Pieces.{with_value, Found}
use Rattle.rz_unlay_pieces.specs.Pieces.{claim_count, Step}
use Rattle.rz_unlay.specs.Came.{row_at}
use Rattle.rz_unlay.specs.Cursor.{body_found, case_found, count_known, ended, field_found, has_keys, line_of, reading, rows_by, Lines}
use Rattle.rz_unlay.proofs.Ahead.{Ahead, HasPlaces}
use Rattle.rz_unlay.proofs.AheadOf.{ahead_of}
use Rattle.rz_unlay.proofs.Asked.{not_near}
use Rattle.rz_unlay.proofs.Labelled.{body_labels, AreLabelled}
use Rattle.rz_unlay.proofs.MetBehind.{met_field}
use Rattle.rz_unlay.proofs.ReadsBits.{length_zeros, number_zeros}
use Rattle.rz_unlay.proofs.ReadsKeys.{case_keys_there, keys_absent, keys_found}
use Rattle.rz_unlay.proofs.ReadsNames.{known_inside, known_outside, knows_inside, knows_outside, places_inside, places_outside}
use Rattle.rz_unlay.proofs.ReadsNumber.{Knows, Steps}
use Rattle.rz_unlay.proofs.ReadsPieces.{align_field, fill_field, label_field, number_field, points_field, text_field}
use Rattle.rz_unlay.proofs.ReadsRows.{count_claims, rows_go, rows_known, rows_met, RowHas}
use Rattle.rz_unlay.proofs.ReadsTests.{at_most, below, both_true, if_false, if_true}
use Rattle.rz_unlay.proofs.ReadsText.{EndsAt}
use Rattle.rz_unlay.proofs.ReadsWidths.{body_wide, by_choice}
use Rattle.rz_unlay.proofs.Sees.{IsKnownOf}

-- the reader is after a body, with its row
record Reaches (facts : Facts) (all : List Bool) (met : Names) (body : PlainBody) (names env : Environment) (line : List Tree) (at : ℕ) (late : Late) (after : ℕ) (late_after : Late) : Type 0 where
  more : Environment
  is : body_found facts all met body names at late ≡ Some (record { row = line; after = after; names = more; late = late_after })
  part : IsPartOf more env

-- outside of a row its labels have their places by its number
row_has : (row : PlainBody) (name : Option Word) (names own more : Environment) (number : ℕ) → IsPartOf more own → AreLabelled row more → ((label : List ℕ) → has_label row label ≡ true → HasPlace (row_of name number) label names own)
    → RowHas row names number more
row_has row name names own more number part labels has = record { give = λ label is. let it = labels label is in (it.0, it.1, has label is ∙ part.give (place_of label) it.0 it.1) }

not_outer : false ≡ true → ⊥
not_outer is = cc is

back_of : ((width number : ℕ) → number_of (number_bits width number) ≡ number % 2 ^ width) → (width number : ℕ) → number < 2 ^ width → number_of (number_bits width number) ≡ number
back_of read width number small = read width number ∙ mod-eq_of_lt small

-- An array, a body and a case, where what stands within them is read.

abbrev rows_step : PlainBody → Option Word → Environment → Lines → Option Step
rows_step row name names lines =
    option_map (λ more. record { value = Some (trees.Rows lines.rows); after = lines.after; names = also_rows row lines.ends more; late = lines.late }) (claim_count name (length lines.rows) names)

array_found : (found : Option Lines) (row : PlainBody) (rows : List (List Tree)) (lasts : List Environment) (after : ℕ) (late : Late) (name : Option Word) (names more : Environment) (value : Option Tree)
    → found ≡ Some (record { rows = rows; ends = lasts; after = after; late = late }) → claim_count name (length rows) names ≡ Some more → value ≡ Some (trees.Rows rows)
    → option_and_then (rows_step row name names) found ≡ Some (record { value = value; after = after; names = also_rows row lasts more; late = late })
array_found found row rows lasts after late name names more value are claimed is =
    ap (option_and_then (rows_step row name names)) are
    ∙ ap (option_map (λ more. let step : Step = record { value = Some (trees.Rows rows); after = after; names = also_rows row lasts more; late = late } in step)) claimed
    ∙ (λ i. Some (record { value = sym is i; after = after; names = also_rows row lasts more; late = late }))

-- a body, where its first field and the others are read
abbrev others_of : Facts → List Bool → Names → PlainBody → Step → Option Found
others_of facts all met fields step = with_value step.value (body_found facts all met fields step.names step.after step.late)

fields_found : (facts : Facts) (all : List Bool) (met inner : Names) (fields : PlainBody) (found : Option Step) (value : Option Tree) (others line : List Tree) (names more : Environment)
    (mid : ℕ) (late_mid : Late) (after : ℕ) (late : Late) → found ≡ Some (record { value = value; after = mid; names = names; late = late_mid }) → inner ≡ met
    → body_found facts all inner fields names mid late_mid ≡ Some (record { row = others; after = after; names = more; late = late }) → line ≡ put value others
    → option_and_then (others_of facts all met fields) found ≡ Some (record { row = line; after = after; names = more; late = late })
fields_found facts all met inner fields found value others line names more mid late_mid after late is same rest own =
    ap (option_and_then (others_of facts all met fields)) is
    ∙ ap (λ (met : Names). with_value value (body_found facts all met fields names mid late_mid)) (sym same)
    ∙ ap (with_value value) rest
    ∙ (λ i. Some (record { row = sym own i; after = after; names = more; late = late }))

abbrev choice_of : Word → Environment → Option Found → Option Step
choice_of name names found = option_map (λ f. record { value = Some (trees.Choice name f.row); after = f.after; names = names; late = f.late }) found

choice_found : (name : Word) (names : Environment) (found : Option Found) (line : List Tree) (after : ℕ) (late : Late) (more : Environment) (value : Option Tree)
    → found ≡ Some (record { row = line; after = after; names = more; late = late }) → value ≡ Some (trees.Choice name line)
    → choice_of name names found ≡ Some (record { value = value; after = after; names = names; late = late })
choice_found name names found line after late more value is own =
    ap (choice_of name names) is ∙ (λ i. Some (record { value = sym own i; after = after; names = names; late = late }))

module _ (read : (width number : ℕ) → number_of (number_bits width number) ≡ number % 2 ^ width) (written : (bits : List Bool) → number_bits (length bits) (number_of bits) ≡ bits)
    (again : (bytes : List ℕ) → ((k : ℕ) → slice_index bytes k < 256) → bytes_of (bits_of bytes) ≡ bytes) (facts : Facts) (all : List Bool) where
  abbrev back : (width number : ℕ) → number < 2 ^ width → number_of (number_bits width number) ≡ number
  back = back_of read

  mutual
    step_goes : (outermost in_case : Bool) (field : PlainField) (rest : PlainBody) (env : Environment) (passed : Passed) (names : Environment) (value : Option Tree)
        (at : ℕ) (late : Late) (after : ℕ) (late_after : Late) → is_shaped in_case field ≡ true → AreKeysApartIn field → is_read outermost rest (at_field (field_and field rest) passed) field ≡ true
        → HasPlaces env → Ahead all field rest env at after → Knows passed names → IsKnownOf names env → FieldSpells plainly facts all field env (at_field (field_and field rest) passed) value at late after late_after
        → after ≤ length all → EndsAt outermost all rest after
        → Steps (behind field (at_field (field_and field rest) passed)) env value after late_after (field_found facts all rest passed.met field names at late)
    step_goes outermost in_case (Number number) rest env passed names value at late after late_after shaped apart reads places ahead knows part it within end =
        number_field read written again back facts all env outermost rest passed names knows part value at late after late_after within number ahead reads it
    step_goes outermost in_case (Text text) rest env passed names value at late after late_after shaped apart reads places ahead knows part it within end =
        text_field read written again back facts all env outermost rest passed names knows part value at late after late_after within text ahead reads end it
    step_goes outermost in_case (Points points) rest env passed names value at late after late_after shaped apart reads places ahead knows part it within end =
        points_field read written again back facts all env outermost rest passed names knows part value at late after late_after within points ahead reads it
    step_goes outermost in_case (Fill unit count) rest env passed names value at late after late_after shaped apart reads places ahead knows part it within end =
        fill_field read written again back facts all env outermost rest passed names knows part value at late after late_after within unit count it
    step_goes outermost in_case (Align unit) rest env passed names value at late after late_after shaped apart reads places ahead knows part it within end =
        align_field read written again back facts all env outermost rest passed names knows part value at late after late_after within unit it
    step_goes outermost in_case (Label name) rest env passed names value at late after late_after shaped apart reads places ahead knows part it within end =
        label_field read written again back facts all env outermost rest passed names knows part value at late after late_after within name it
    step_goes outermost in_case (Array name count row) rest env passed names value at late after late_after shaped apart reads places ahead knows part it within end =
        let here = at_field (field_and (Array name count row) rest) passed in
        let test = both_true (is_none_or is_own_name name) (are_shaped false row) shaped in
        let can = both_true (rows_end outermost rest here name count row) (are_read false (at_front row here) row) reads in
        let lines = rows_go row env (row_at facts all name row passed.met names)
        (λ number line. Inside row (row_of name number) env (λ own. BodySpells plainly facts all row own (at_front row here) line)) (least_widths row) (length all)
        (λ number line at late after late_after below inside.
        let goes = reaches false false row inside.0 (at_front row here) (names_inside (row_of name number) row names) line at late after late_after test.1 apart can.1
        (places_inside false row (row_of name number) env inside.0 test.1 inside.1 places) (knows_inside row (row_of name number) here names knows)
        (known_inside facts all row (row_of name number) names env inside.0 (at_front row here) line at late after late_after part inside.1 inside.2) inside.2 below (λ is. absurd (not_outer is)) in
        record {
          own = goes.more;
          is = ap line_of goes.is;
          has = row_has row name env inside.0 goes.more number goes.part
              (body_labels facts all row (at_front row here).met (names_inside (row_of name number) row names) at late (record { row = line; after = after; names = goes.more; late = late_after }) goes.is) inside.1.places;
        })
        (λ number line at late after late_after inside.
        (body_wide facts all false row inside.0 (at_front row here) line at late after late_after test.1 (places_inside false row (row_of name number) env inside.0 test.1 inside.1 places) inside.2).grows)
        outermost all rest name it.0 names here at late after late_after refl (λ own. not_near (field_and (Array name count row) rest) (count_of own) refl) knows part it.5 within within
        count can.0 it.2 it.3 ahead.lies ahead.stops end in
        let claims = count_claims here env name (length it.0) names knows part it.3 in
        record {
          names = also_rows row lines.lasts claims.more;
          is = array_found (rows_by (row_at facts all name row passed.met names) (length all) rest names (count_known names name count) at late) row it.0 lines.lasts after late_after name names claims.more value lines.is claims.is it.1;
          knows = rows_met row lines.lasts here name count claims.more claims.knows;
          part = rows_known row lines.lasts claims.more env (subst (λ (n : ℕ). AreRows row n env) (sym lines.long) it.4) lines.have claims.part;
        }
    step_goes outermost in_case (Switch cases) rest env passed names value at late after late_after shaped apart reads places ahead knows part it within end = record {
      names = names;
      is = cases_go cases env (at_field (field_and (Switch cases) rest) passed) names value at late after late_after shaped apart reads places knows part it within;
      knows = knows;
      part = part;
    }

    cases_go : (cases : PlainCases) (env : Environment) (passed : Passed) (names : Environment) (value : Option Tree) (at : ℕ) (late : Late) (after : ℕ) (late_after : Late)
        → are_cases_shaped cases ≡ true → AreCasesApart cases → are_cases_read passed cases ≡ true → HasPlaces env → Knows passed names → IsKnownOf names env
        → CaseSpells plainly facts all cases env passed value at late after late_after → after ≤ length all
        → case_found facts all passed.met cases names at late ≡ Some (record { value = value; after = after; names = names; late = late_after })
    cases_go no_cases env passed names value at late after late_after shaped apart reads places knows part it within = absurd it
    cases_go (case_and name row others) env passed names value at late after late_after shaped apart reads places knows part it within =
        let test = both_true (is_own_name name) (are_shaped true row && are_cases_shaped others) shaped in
        let both = both_true (are_shaped true row) (are_cases_shaped others) test.1 in
        let can = both_true (are_read false (at_front row passed) row) (are_cases_read passed others) reads in
        let own = body_found facts all (met_inside row passed.met) row (names_inside None row names) at late in
        let more = case_found facts all passed.met others names at late in
        by_choice (case_found facts all passed.met (case_and name row others) names at late ≡ Some (record { value = value; after = after; names = names; late = late_after })) _ _
        (λ this.
        let inside = this.2 in
        let inner = places_inside true row None env inside.0 both.0 inside.1 places in
        let goes = reaches false true row inside.0 (at_front row passed) (names_inside None row names) this.0 at late after late_after both.0 apart.1 can.0 inner (knows_inside row None passed names knows)
        (known_inside facts all row None names env inside.0 (at_front row passed) this.0 at late after late_after part inside.1 inside.2) inside.2 within (λ is. absurd (not_outer is)) in
        if_true (has_keys all at (case_keys row)) (choice_of name names own) more
        (keys_found all at row others apart.0 (case_keys_there back facts all row inside.0 (at_front row passed) this.0 at late after late_after both.0 inner inside.2 within))
        ∙ choice_found name names own this.0 after late_after goes.more value goes.is this.1)
        (λ other.
        if_false (has_keys all at (case_keys row)) (choice_of name names own) more (keys_absent back facts all row others apart.0 env passed value at late after late_after both.1 places apart.2 other within)
        ∙ cases_go others env passed names value at late after late_after both.1 apart.2 can.1 places knows part other within)
        (is_case name value) it

    reaches : (outermost in_case : Bool) (body : PlainBody) (env : Environment) (passed : Passed) (names : Environment) (line : List Tree) (at : ℕ) (late : Late) (after : ℕ) (late_after : Late)
        → are_shaped in_case body ≡ true → AreKeysApart body → are_read outermost passed body ≡ true → HasPlaces env → Knows passed names → IsKnownOf names env
        → BodySpells plainly facts all body env passed line at late after late_after → after ≤ length all → (outermost ≡ true → length all < after + 8)
        → Reaches facts all passed.met body names env line at late after late_after
    reaches outermost in_case no_fields env passed names line at late after late_after shaped apart reads places knows part it within over =
        record { more = names; is = λ i. Some (record { row = sym it.0 i; after = sym it.1 i; names = names; late = sym it.2 i }); part = part.part }
    reaches outermost in_case (field_and field fields) env passed names line at late after late_after shaped apart reads places knows part it within over =
        let test = both_true (is_shaped in_case field) (are_shaped in_case fields) shaped in
        let here = at_field (field_and field fields) passed in
        let can = both_true (is_read outermost fields here field) (are_read outermost (behind field here) fields) reads in
        let wide = body_wide facts all in_case fields env (behind field here) it.1 it.2 it.3 after late_after test.1 places it.6 in
        let grows = wide.grows in
        let end : EndsAt outermost all fields it.2 = λ width outer fixed. (let e = wide.is width fixed in let o = over outer in (omega (arith, e, within), omega (arith, e, o))) in
        let one = step_goes outermost in_case field fields env passed names it.0 at late it.2 it.3 test.0 apart.0 can.0 places
        (ahead_of facts all env places in_case field fields passed line at late after late_after shaped it within) knows part it.5 (omega (arith, grows, within)) end in
        let others = reaches outermost in_case fields env (behind field here) one.names it.1 it.2 it.3 after late_after test.1 apart.1 can.1 places one.knows one.part it.6 within over in
        record {
          more = others.more;
          is = fields_found facts all (met_behind field passed.met) (behind field here).met fields (field_found facts all fields passed.met field names at late) it.0 it.1 line one.names others.more
              it.2 it.3 after late_after one.is (met_field field here) others.is it.4;
          part = others.part;
        }

-- The end.

module _ (fewer : (unit place : ℕ) → 0 < unit → missing unit place < unit) (all : List Bool) (end : ℕ) (within : end ≤ length all) (is : all ≡ filled 8 (take end all)) where
  left_zeros : drop end all ≡ zeros (missing 8 (length (take end all)))
  left_zeros = ap (drop end) is ∙ drop_at (take end all) (zeros (missing 8 (length (take end all)))) end (length-take-le end all within)

  left_is : number_of (drop end all) ≡ 0
  left_is = ap number_of left_zeros ∙ number_zeros (missing 8 (length (take end all)))

  pub left_few : length all < end + 8
  left_few =
      let long : length all ≡ length (take end all) + missing 8 (length (take end all)) =
      ap length is ∙ length-append (take end all) (zeros (missing 8 (length (take end all)))) ∙ ap (λ (n : ℕ). length (take end all) + n) (length_zeros (missing 8 (length (take end all)))) in
      let size = length-take-le end all within in
      let few = fewer 8 (length (take end all)) (omega (arith)) in
      omega (arith, long, size, few)

  ended_is : (row : List Tree) (more : Environment) (late : Late) → values_in row ≤ 1048576 → ended all (Some (record { row = row; after = end; names = more; late = late })) ≡ Some row
  ended_is row more late few =
      let a : nat_le end (length all) ≡ true = at_most end (length all) within in
      let b : nat_lt (length all) (end + 8) ≡ true = below (length all) (end + 8) left_few in
      let c : (number_of (drop end all) == 0) ≡ true = ap (λ (n : ℕ). n == 0) left_is in
      let d : nat_le (values_in row) 1048576 ≡ true = at_most (values_in row) 1048576 few in
      ap (λ (test : Bool). if test then Some row else None) (λ i. a i && b i && c i && d i)

-- Whole resources.

pub plain_row_read : ((width number : ℕ) → number_of (number_bits width number) ≡ number % 2 ^ width) → ((bits : List Bool) → number_bits (length bits) (number_of bits) ≡ bits)
    → ((bytes : List ℕ) → ((k : ℕ) → slice_index bytes k < 256) → bytes_of (bits_of bytes) ≡ bytes) → ((unit place : ℕ) → 0 < unit → missing unit place < unit)
    → (known : Facts) (body : PlainBody) (row : List Tree) (bytes : List ℕ) → is_well_shaped body ≡ true → AreKeysApart body → is_readable body ≡ true → SpellsPlainly known body row bytes
    → reading known body bytes ≡ Some row
plain_row_read read written again fewer known body row bytes shaped apart reads plain =
    let it = plain.spelling in
    let shape = (both_true (are_shaped false body) (nat_le (body_depth body) deepest_body) shaped).0 in
    let goes = reaches read written again known (bits_of bytes) true false body it.names (at_front body nothing_passed) (names_inside None body outside) row 0 [] it.end it.late shape apart reads
    (places_inside false body None outside it.names shape it.own places_outside) (knows_inside body None nothing_passed outside knows_outside)
    (known_inside known (bits_of bytes) body None outside outside it.names (at_front body nothing_passed) row 0 [] it.end it.late known_outside it.own it.fields) it.fields it.within
    (λ outer. left_few fewer (bits_of bytes) it.end it.within it.filled) in
    ap (ended (bits_of bytes)) goes.is ∙ ended_is fewer (bits_of bytes) it.end it.within it.filled row goes.more it.late plain.few

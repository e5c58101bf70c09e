-- Fields with fields within them: the item is of it, or has a fault, exactly as is computed.
use Rattle.std.proofs.Common.{◌≡◌, ℕ, ◌+◌, ◌<◌, ◌≤◌, ℤ, pos, Bool, true, false, ◌||◌, List, ◌∷◌, ◌++◌, length, Option, Some, None, inl, inr, refl, sym, ap, subst, ◌∙◌, arith}
use Rattle.std.specs.Prelude.{Ok, Err, if◌then◌else◌}
use Rattle.std.specs.Cmp.{signed_Decides}
use Rattle.std.specs.Ordering.{int_eq}
use Rattle.std.specs.Str.{str_eq_ignore_ascii_case}
use Rattle.std.specs.declared.result.Result.{Result}
use Rattle.rz_core.specs.Stop.{◌>>=◌}
use Rattle.rz_core.specs.declared.facts.Facts.{Facts}
use Rattle.rz_core.specs.declared.fault.Fault.{Fault}
use Rattle.rz_core.specs.declared.fault.Mark.{Mark}
use Rattle.rz_core.specs.declared.resource.Word.{Word}
use Rattle.rz_stmt_items.specs.Item.{Braced, Named, Number, PlainItem, Text}
use Rattle.rz_stmt_items.specs.Fits.{list_of, Fits, IsCaseOf, IsItemOf, NextFits}
use Rattle.rz_stmt_items.specs.Matched.{case_matched, choice, counted, is_stated, item_for, row_matched, rows_matched, stated_of, whole_matched}
use Rattle.rz_stmt_items.specs.Unfit.{no_case, other_count, wrong_kind, IsCaseFault, IsItemFault, IsOtherCount, RowUnfit, WholeUnfit}
use Rattle.rz_stmt_items.proofs.EachItem.{none_given, none_sounds, number_given, number_sounds, points_given, points_sound, text_given, text_sounds}
use Rattle.rz_stmt_items.proofs.Lines.{end_given, end_sounds, next_given, next_sounds, OneGiven, OneSound, RowGiven, RowSound}
use Rattle.rz_stmt_items.proofs.Results.{if_err, if_ok, ok_err, same_err, same_ok, then_err, then_ok}
use Rattle.rz_stmt_items.proofs.RowLists.{rows_blamed, rows_blames, rows_complete, rows_sound, whole_blamed, whole_blames, whole_complete, whole_sound}
use Rattle.rz_types_fields.specs.declared.tree.Tree.{Tree}
use Rattle.rz_types_fields.specs.declared.tree.Tree.TheVariants as trees
use Rattle.rz_types_fields.specs.Row.{By, IsStated}
use Rattle.rz_types.specs.Field as fields
use Rattle.rz_types.specs.Field.{takes_value, PlainBody, PlainCases, PlainField}
use Rattle.rz_types.specs.Kept.{AreCasesKept, AreKept, IsKeptWithin}
use Rattle.rz_types.specs.Rules.{has_values}
use Rattle.rz_types.specs.Walk.{and_names, around_names, names_of, Own}

-- Numbers of rows.

never : (test : Bool) → test ≡ true → test ≡ false → ⊥
never true holds fails = cc
never false holds fails = cc

not_so : (test : Bool) → (test ≡ true → ⊥) → test ≡ false
not_so true fails = absurd (fails refl)
not_so false fails = refl

stated_so : (count : Option ℤ) (given : ℕ) → is_stated count given ≡ true → IsStated count given
stated_so None given is = tt
stated_so (Some stated) given is = (signed_Decides stated (pos given)).0 is

so_stated : (count : Option ℤ) (given : ℕ) → IsStated count given → is_stated count given ≡ true
so_stated None given is = refl
so_stated (Some stated) given is = (signed_Decides stated (pos given)).1 is

other_so : (place : Mark) (count : Option ℤ) (given : ℕ) (fault : Fault) → is_stated count given ≡ false → other_count place (stated_of count) given ≡ fault → IsOtherCount place count given fault
other_so place None given fault is same = absurd cc
other_so place (Some stated) given fault is same = ((λ one. never (int_eq stated (pos given)) ((signed_Decides stated (pos given)).1 one) is), sym same)

so_other : (place : Mark) (count : Option ℤ) (given : ℕ) (fault : Fault) → IsOtherCount place count given fault
    → (is_stated count given ≡ false) × (fault ≡ other_count place (stated_of count) given)
so_other place None given fault is = absurd is
so_other place (Some stated) given fault is = (not_so (int_eq stated (pos given)) (λ so. is.0 ((signed_Decides stated (pos given)).0 so)), is.1)

module _ (known : Facts) where
  -- A row that takes a value uses an item.

  uses_next : (takes : Bool) (field : PlainField) (others : PlainBody) → ((front : List PlainItem) (values : List Tree) → has_values others ≡ true → Fits known others front values → 0 < length front)
      → (takes || has_values others) ≡ true → (front : List PlainItem) (values : List Tree) → NextFits takes (IsItemOf known field) (Fits known others) front values → 0 < length front
  uses_next true field others so has front values (item, rest, value, more, are, has_row, is, fits) = subst (λ (xs : List PlainItem). 0 < length xs) (sym are) (omega arith)
  uses_next false field others so has front values fits = so front values has fits

  uses_item : (row : PlainBody) (front : List PlainItem) (values : List Tree) → has_values row ≡ true → Fits known row front values → 0 < length front
  uses_item fields.no_fields front values has fits = absurd cc
  uses_item (fields.field_and field others) front values has fits = uses_next (takes_value field) field others (uses_item others) has front values fits

  -- Arrays.

  abbrev IsArray : Option Word → Option ℤ → PlainBody → PlainField
  IsArray name count row = fields.Array name count row

  -- What is computed is so.

  module _ (name : Option Word) (count : Option ℤ) (row : PlainBody) (has : has_values row ≡ true)
      (agree : (place : Mark) (all : List PlainItem) → RowSound (row_matched known row place all) (Fits known row) (RowUnfit known row place all)) where
    uses : (front : List PlainItem) (values : List Tree) → Fits known row front values → 0 < length front
    uses front values fits = uses_item row front values has fits

    array_sound : (position : ℕ) (item : PlainItem) (value : Tree) → item_for known (IsArray name count row) position item ≡ Ok value → IsItemOf known (IsArray name count row) item value
    array_sound position (Braced items mark) value e =
        let all = list_of items in
        let first = then_ok (rows_matched (row_matched known row mark all) (length all) 0 all) (counted mark count) value e in
        let test = if_ok (is_stated count (length first.0)) (trees.Rows first.0) value (other_count mark (stated_of count) (length first.0)) first.2 in (
          first.0,
          rows_sound (row_matched known row mark all) (Fits known row) (RowUnfit known row mark all) (agree mark all) uses (length all) 0 all first.0 (omega arith) first.1,
          stated_so count (length first.0) test.0,
          sym test.1,
        )
    array_sound position (Number term mark) value e = absurd (ok_err value (wrong_kind position mark) (sym e))
    array_sound position (Text parts mark) value e = absurd (ok_err value (wrong_kind position mark) (sym e))
    array_sound position (Named own items mark) value e = absurd (ok_err value (wrong_kind position mark) (sym e))

    array_blamed : (position : ℕ) (item : PlainItem) (fault : Fault) → item_for known (IsArray name count row) position item ≡ Err fault → IsItemFault known (IsArray name count row) position item fault
    array_blamed position (Braced items mark) fault e =
        let all = list_of items in
        elim (then_err (rows_matched (row_matched known row mark all) (length all) 0 all) (counted mark count) fault e) [
          | inl broken ↦
              let there = rows_blamed (row_matched known row mark all) (Fits known row) (RowUnfit known row mark all) (agree mark all) uses (length all) 0 all fault (omega arith) broken in
              inl (
                there.front,
                there.item,
                there.rest,
                there.rows,
                there.are,
                there.fit,
                subst (λ n. RowUnfit known row mark all n (there.item ∷ there.rest) fault) (let same : 0 + length there.front ≡ length there.front = omega arith in same) there.breaks,
              )
          | inr first ↦
              let test = if_err (is_stated count (length first.0)) (trees.Rows first.0) (other_count mark (stated_of count) (length first.0)) fault first.2 in
              inr (
                first.0,
                rows_sound (row_matched known row mark all) (Fits known row) (RowUnfit known row mark all) (agree mark all) uses (length all) 0 all first.0 (omega arith) first.1,
                other_so mark count (length first.0) fault test.0 test.1,
              )
        ]
    array_blamed position (Number term mark) fault e = sym (same_err {X = Tree} (wrong_kind position mark) fault e)
    array_blamed position (Text parts mark) fault e = sym (same_err {X = Tree} (wrong_kind position mark) fault e)
    array_blamed position (Named own items mark) fault e = sym (same_err {X = Tree} (wrong_kind position mark) fault e)

    array_sounds : OneSound (item_for known (IsArray name count row)) (IsItemOf known (IsArray name count row)) (IsItemFault known (IsArray name count row))
    array_sounds = record { sound = array_sound; blamed = array_blamed }

  record CasesSound (cases : PlainCases) : Type 0 where
    sound : (mark : Mark) (name : List ℕ) (items : List PlainItem) (value : Tree) → case_matched known cases mark name items ≡ Ok value → IsCaseOf known cases name items value
    blamed : (mark : Mark) (name : List ℕ) (items : List PlainItem) (fault : Fault) → case_matched known cases mark name items ≡ Err fault → IsCaseFault known cases mark name items fault

  no_cases_sound : CasesSound fields.no_cases
  no_cases_sound = record {
    sound = λ mark name items value e. ok_err value (no_case mark name) (sym e);
    blamed = λ mark name items fault e. sym (same_err {X = Tree} (no_case mark name) fault e);
  }

  module _ (own : Word) (row : PlainBody) (others : PlainCases)
      (agree : (place : Mark) (all : List PlainItem) → RowSound (row_matched known row place all) (Fits known row) (RowUnfit known row place all)) (rest : CasesSound others) where
    abbrev tested : Bool → Mark → List ℕ → List PlainItem → Result Tree Fault
    tested test mark name items =
        if test then whole_matched (row_matched known row mark items) items >>= choice own else case_matched known others mark name items

    case_sound : (test : Bool) (mark : Mark) (name : List ℕ) (items : List PlainItem) (value : Tree) → tested test mark name items ≡ Ok value
        → By test ((line : List Tree) × Fits known row items line × (value ≡ trees.Choice own line)) (IsCaseOf known others name items value)
    case_sound true mark name items value e =
        let first = then_ok (whole_matched (row_matched known row mark items) items) (choice own) value e in (
          first.0,
          whole_sound (row_matched known row mark items) (Fits known row) (RowUnfit known row mark items) (agree mark items) items first.0 first.1,
          sym (same_ok (trees.Choice own first.0) value first.2),
        )
    case_sound false mark name items value e = rest.sound mark name items value e

    case_blamed : (test : Bool) (mark : Mark) (name : List ℕ) (items : List PlainItem) (fault : Fault) → tested test mark name items ≡ Err fault
        → By test (WholeUnfit (Fits known row) (RowUnfit known row mark items) items fault) (IsCaseFault known others mark name items fault)
    case_blamed true mark name items fault e =
        elim (then_err (whole_matched (row_matched known row mark items) items) (choice own) fault e) [
          | inl broken ↦ whole_blamed (row_matched known row mark items) (Fits known row) (RowUnfit known row mark items) (agree mark items) items fault broken
          | inr first ↦ absurd (ok_err (trees.Choice own first.0) fault first.2)
        ]
    case_blamed false mark name items fault e = rest.blamed mark name items fault e

    case_sounds : CasesSound (fields.case_and own row others)
    case_sounds = record {
      sound = λ mark name items value e. case_sound (str_eq_ignore_ascii_case own.bytes name) mark name items value e;
      blamed = λ mark name items fault e. case_blamed (str_eq_ignore_ascii_case own.bytes name) mark name items fault e;
    }

  module _ (cases : PlainCases) (agree : CasesSound cases) where
    switch_sound : (position : ℕ) (item : PlainItem) (value : Tree) → item_for known (fields.Switch cases) position item ≡ Ok value → IsItemOf known (fields.Switch cases) item value
    switch_sound position (Named name items mark) value e = agree.sound mark name (list_of items) value e
    switch_sound position (Number term mark) value e = absurd (ok_err value (wrong_kind position mark) (sym e))
    switch_sound position (Text parts mark) value e = absurd (ok_err value (wrong_kind position mark) (sym e))
    switch_sound position (Braced items mark) value e = absurd (ok_err value (wrong_kind position mark) (sym e))

    switch_blamed : (position : ℕ) (item : PlainItem) (fault : Fault) → item_for known (fields.Switch cases) position item ≡ Err fault → IsItemFault known (fields.Switch cases) position item fault
    switch_blamed position (Named name items mark) fault e = agree.blamed mark name (list_of items) fault e
    switch_blamed position (Number term mark) fault e = sym (same_err {X = Tree} (wrong_kind position mark) fault e)
    switch_blamed position (Text parts mark) fault e = sym (same_err {X = Tree} (wrong_kind position mark) fault e)
    switch_blamed position (Braced items mark) fault e = sym (same_err {X = Tree} (wrong_kind position mark) fault e)

    switch_sounds : OneSound (item_for known (fields.Switch cases)) (IsItemOf known (fields.Switch cases)) (IsItemFault known (fields.Switch cases))
    switch_sounds = record { sound = switch_sound; blamed = switch_blamed }

  mutual
    item_sounds : (scope : Own) (field : PlainField) → IsKeptWithin scope field → OneSound (item_for known field) (IsItemOf known field) (IsItemFault known field)
    item_sounds scope (fields.Number number) kept = number_sounds known number
    item_sounds scope (fields.Text text) kept = text_sounds known text
    item_sounds scope (fields.Points points) kept = points_sound known points
    item_sounds scope (fields.Fill unit count) kept = none_sounds
    item_sounds scope (fields.Align unit) kept = none_sounds
    item_sounds scope (fields.Label name) kept = none_sounds
    item_sounds scope (fields.Array name count row) kept = array_sounds name count row kept.0 (λ place all. row_sounds (and_names (and_names scope (around_names name)) (names_of row)) row place all kept.2)
    item_sounds scope (fields.Switch cases) kept = switch_sounds cases (cases_sound scope cases kept.1)

    cases_sound : (scope : Own) (cases : PlainCases) → AreCasesKept scope cases → CasesSound cases
    cases_sound scope fields.no_cases kept = no_cases_sound
    cases_sound scope (fields.case_and own row others) kept =
        case_sounds own row others (λ place all. row_sounds (and_names scope (names_of row)) row place all kept.1) (cases_sound scope others kept.2)

    pub row_sounds : (scope : Own) (body : PlainBody) (place : Mark) (all : List PlainItem) → AreKept scope body
        → RowSound (row_matched known body place all) (Fits known body) (RowUnfit known body place all)
    row_sounds scope fields.no_fields place all kept = end_sounds
    row_sounds scope (fields.field_and field others) place all kept =
        next_sounds (item_for known field) (IsItemOf known field) (IsItemFault known field) (row_matched known others place all) (Fits known others) (RowUnfit known others place all) place all
        (item_sounds scope field kept.2) (row_sounds scope others place all kept.3) (takes_value field)

  -- What is so is computed.

  module _ (name : Option Word) (count : Option ℤ) (row : PlainBody)
      (agree : (place : Mark) (all : List PlainItem) → RowGiven (row_matched known row place all) (Fits known row) (RowUnfit known row place all)) where
    array_complete : (position : ℕ) (item : PlainItem) (value : Tree) → IsItemOf known (IsArray name count row) item value → item_for known (IsArray name count row) position item ≡ Ok value
    array_complete position (Braced items mark) value (rows, fit, stated, is) =
        let all = list_of items in
        ap (λ (r : Result (List (List Tree)) Fault). r >>= counted mark count)
        (rows_complete (row_matched known row mark all) (Fits known row) (RowUnfit known row mark all) (agree mark all) (length all) 0 all rows (omega arith) fit)
        ∙ ap (λ (test : Bool). if test then Ok (trees.Rows rows) else Err (other_count mark (stated_of count) (length rows))) (so_stated count (length rows) stated)
        ∙ ap (λ (t : Tree). Ok t) (sym is)
    array_complete position (Number term mark) value is = absurd is
    array_complete position (Text parts mark) value is = absurd is
    array_complete position (Named own items mark) value is = absurd is

    array_blames : (position : ℕ) (item : PlainItem) (fault : Fault) → IsItemFault known (IsArray name count row) position item fault → item_for known (IsArray name count row) position item ≡ Err fault
    array_blames position (Braced items mark) fault (inl (front, item, rest, rows, are, fit, breaks)) =
        let all = list_of items in
        let here : length front ≡ 0 + length front = omega arith in
        let enough : length (front ++ item ∷ rest) ≤ length all = (let long : length all ≡ length (front ++ item ∷ rest) = ap length are in omega (arith, long)) in
        ap (λ (r : Result (List (List Tree)) Fault). r >>= counted mark count)
        (ap (rows_matched (row_matched known row mark all) (length all) 0) are
        ∙ rows_blames (row_matched known row mark all) (Fits known row) (RowUnfit known row mark all) (agree mark all) (length all) 0 front item rest rows fault enough fit
        (subst (λ n. RowUnfit known row mark all n (item ∷ rest) fault) here breaks))
    array_blames position (Braced items mark) fault (inr (rows, fit, is)) =
        let all = list_of items in
        let other = so_other mark count (length rows) fault is in
        ap (λ (r : Result (List (List Tree)) Fault). r >>= counted mark count)
        (rows_complete (row_matched known row mark all) (Fits known row) (RowUnfit known row mark all) (agree mark all) (length all) 0 all rows (omega arith) fit)
        ∙ ap (λ (test : Bool). if test then Ok (trees.Rows rows) else Err (other_count mark (stated_of count) (length rows))) other.0
        ∙ ap (λ (f : Fault). Err f) (sym other.1)
    array_blames position (Number term mark) fault is = ap (λ (f : Fault). Err f) (sym is)
    array_blames position (Text parts mark) fault is = ap (λ (f : Fault). Err f) (sym is)
    array_blames position (Named own items mark) fault is = ap (λ (f : Fault). Err f) (sym is)

    array_given : OneGiven (item_for known (IsArray name count row)) (IsItemOf known (IsArray name count row)) (IsItemFault known (IsArray name count row))
    array_given = record { complete = array_complete; blames = array_blames }

  record CasesGiven (cases : PlainCases) : Type 0 where
    complete : (mark : Mark) (name : List ℕ) (items : List PlainItem) (value : Tree) → IsCaseOf known cases name items value → case_matched known cases mark name items ≡ Ok value
    blames : (mark : Mark) (name : List ℕ) (items : List PlainItem) (fault : Fault) → IsCaseFault known cases mark name items fault → case_matched known cases mark name items ≡ Err fault

  no_cases_given : CasesGiven fields.no_cases
  no_cases_given = record {
    complete = λ mark name items value is. absurd is;
    blames = λ mark name items fault is. ap (λ (f : Fault). Err f) (sym is);
  }

  module _ (own : Word) (row : PlainBody) (others : PlainCases)
      (agree : (place : Mark) (all : List PlainItem) → RowGiven (row_matched known row place all) (Fits known row) (RowUnfit known row place all)) (rest : CasesGiven others) where
    abbrev by_test : Bool → Mark → List ℕ → List PlainItem → Result Tree Fault
    by_test test mark name items =
        if test then whole_matched (row_matched known row mark items) items >>= choice own else case_matched known others mark name items

    case_complete : (test : Bool) (mark : Mark) (name : List ℕ) (items : List PlainItem) (value : Tree)
        → By test ((line : List Tree) × Fits known row items line × (value ≡ trees.Choice own line)) (IsCaseOf known others name items value) → by_test test mark name items ≡ Ok value
    case_complete true mark name items value (line, fits, is) =
        ap (λ (r : Result (List Tree) Fault). r >>= choice own)
        (whole_complete (row_matched known row mark items) (Fits known row) (RowUnfit known row mark items) (agree mark items) items line fits)
        ∙ ap (λ (t : Tree). Ok t) (sym is)
    case_complete false mark name items value is = rest.complete mark name items value is

    case_blames : (test : Bool) (mark : Mark) (name : List ℕ) (items : List PlainItem) (fault : Fault)
        → By test (WholeUnfit (Fits known row) (RowUnfit known row mark items) items fault) (IsCaseFault known others mark name items fault) → by_test test mark name items ≡ Err fault
    case_blames true mark name items fault is =
        ap (λ (r : Result (List Tree) Fault). r >>= choice own)
        (whole_blames (row_matched known row mark items) (Fits known row) (RowUnfit known row mark items) (agree mark items) items fault is)
    case_blames false mark name items fault is = rest.blames mark name items fault is

    case_given : CasesGiven (fields.case_and own row others)
    case_given = record {
      complete = λ mark name items value is. case_complete (str_eq_ignore_ascii_case own.bytes name) mark name items value is;
      blames = λ mark name items fault is. case_blames (str_eq_ignore_ascii_case own.bytes name) mark name items fault is;
    }

  module _ (cases : PlainCases) (agree : CasesGiven cases) where
    switch_complete : (position : ℕ) (item : PlainItem) (value : Tree) → IsItemOf known (fields.Switch cases) item value → item_for known (fields.Switch cases) position item ≡ Ok value
    switch_complete position (Named name items mark) value is = agree.complete mark name (list_of items) value is
    switch_complete position (Number term mark) value is = absurd is
    switch_complete position (Text parts mark) value is = absurd is
    switch_complete position (Braced items mark) value is = absurd is

    switch_blames : (position : ℕ) (item : PlainItem) (fault : Fault) → IsItemFault known (fields.Switch cases) position item fault → item_for known (fields.Switch cases) position item ≡ Err fault
    switch_blames position (Named name items mark) fault is = agree.blames mark name (list_of items) fault is
    switch_blames position (Number term mark) fault is = ap (λ (f : Fault). Err f) (sym is)
    switch_blames position (Text parts mark) fault is = ap (λ (f : Fault). Err f) (sym is)
    switch_blames position (Braced items mark) fault is = ap (λ (f : Fault). Err f) (sym is)

    switch_given : OneGiven (item_for known (fields.Switch cases)) (IsItemOf known (fields.Switch cases)) (IsItemFault known (fields.Switch cases))
    switch_given = record { complete = switch_complete; blames = switch_blames }

  mutual
    item_given : (field : PlainField) → OneGiven (item_for known field) (IsItemOf known field) (IsItemFault known field)
    item_given (fields.Number number) = number_given known number
    item_given (fields.Text text) = text_given known text
    item_given (fields.Points points) = points_given known points
    item_given (fields.Fill unit count) = none_given
    item_given (fields.Align unit) = none_given
    item_given (fields.Label name) = none_given
    item_given (fields.Array name count row) = array_given name count row (row_given row)
    item_given (fields.Switch cases) = switch_given cases (cases_given cases)

    cases_given : (cases : PlainCases) → CasesGiven cases
    cases_given fields.no_cases = no_cases_given
    cases_given (fields.case_and own row others) = case_given own row others (row_given row) (cases_given others)

    pub row_given : (body : PlainBody) (place : Mark) (all : List PlainItem) → RowGiven (row_matched known body place all) (Fits known body) (RowUnfit known body place all)
    row_given fields.no_fields place all = end_given
    row_given (fields.field_and field others) place all =
        next_given (item_for known field) (IsItemOf known field) (IsItemFault known field) (row_matched known others place all) (Fits known others) (RowUnfit known others place all) place all
        (item_given field) (row_given others place all) (takes_value field)

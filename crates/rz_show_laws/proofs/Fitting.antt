-- The items of a row that is shown fit the row.
use Rattle.std.proofs.Common.{◌≡◌, inl, inr, ℕ, ◌<◌, Bool, true, false, ◌&&◌, ◌||◌, List, [], ◌∷◌, ◌++◌, length, map, Option, Some, None, Ok, refl, sym, ap, subst, ◌∙◌, arith, append-nil}
use Rattle.std.specs.Prelude.{if◌then◌else◌, replicate}
use Rattle.std.specs.List.{AllByRecursion}
use Rattle.std.specs.Str.{str_eq_ignore_ascii_case}
use Rattle.rz_core.proofs.Tests.{both, true_false}
use Rattle.rz_core.specs.declared.facts.Facts.{Facts}
use Rattle.rz_core.specs.declared.fault.Mark.{Mark}
use Rattle.rz_core.specs.declared.resource.Word.{Word}
use Rattle.rz_types_fields.specs.declared.tree.Tree.{Tree}
use Rattle.rz_types_fields.specs.declared.tree.Tree.TheVariants as trees
use Rattle.rz_stmt_items.specs.Item as item
use Rattle.rz_stmt_items.specs.Item.{items_of, PlainItem}
use Rattle.rz_stmt_items.specs.Fits.{exceeds, list_of, AreNumbersOf, FitAll, Fits, IsCaseOf, IsItemOf, IsNumberOf, IsTextOf, NextFits, RowsFit, WithList, WithNamed}
use Rattle.rz_types_fields.specs.Laid.{first_value, line_in, number_in, other_values, rows_in, text_in}
use Rattle.rz_types_fields.specs.Row.{By, IsChoice, IsFront, IsRow, IsStated, IsValue}
use Rattle.rz_types_fields.specs.Spells.{choice_in, group_in, is_case}
use Rattle.rz_types.specs.Field.{case_and, field_and, no_cases, no_fields, takes_value, Align, Array, Fill, Label, Number, PlainBody, PlainCases, PlainField, PlainText, Points, Switch, Text}
use Rattle.rz_types.specs.Kept.{AreCasesKept, AreKept, Differ, IsKept, IsKeptWithin}
use Rattle.rz_types.specs.Rules.{bad_width, case_names, has_values}
use Rattle.rz_types.specs.Shape.{are_cases_shaped, are_shaped, is_none_or, is_own_name, is_shaped, is_well_shaped, numbers_of}
use Rattle.rz_types.specs.Piece.{integer}
use Rattle.rz_types.specs.Walk.{and_names, around_names, names_of, Own}
use Rattle.rz_show_laws.proofs.Items.{ArePrintedItems, IsPrintedItem, IsSingleItem}
use Rattle.rz_show.specs.Number.{number_shown}
use Rattle.rz_show_lines.specs.Print.{in_group, named_block, no_prints, signed_number, Print, Prints}
use Rattle.rz_show_laws.specs.Short.{AreShortTexts, IsShortCase, IsShortText}
use Rattle.rz_show_lines.specs.Pieces.{piece_size, text_pieces}
use Rattle.rz_show.specs.Shown.{case_print, field_print, print_if, row_prints, rows_prints, text_print}
use Rattle.rz_show_lines.proofs.Texts.{all_pieces, pieces_join}
use Rattle.rz_show_laws.proofs.Texts.{pieces_read}
use Rattle.rz_show.proofs.Trees.{choice_chosen, choice_differs, choice_is, fronted, group_is, line_is, number_is, rows_are, same_name, text_is}
use Rattle.rz_show.proofs.Widths.{fields_shaped}
use Rattle.rz_show_laws.proofs.Values.{formed, group_items, number_item}

list_again : (items : List PlainItem) → list_of (items_of items) ≡ items
list_again [] = refl
list_again (first ∷ items) = ap (λ (xs : List PlainItem). first ∷ xs) (list_again items)

by_true : (test : Bool) (A B : Type 0) → test ≡ true → A → By test A B
by_true true A B is a = a
by_true false A B is a = absurd (true_false (sym is))

by_false : (test : Bool) (A B : Type 0) → test ≡ false → B → By test A B
by_false true A B is b = absurd (true_false is)
by_false false A B is b = b

chosen : (test : Bool) (A B : Type 0) → By test A B → test ≡ true → A
chosen true A B has is = has
chosen false A B has is = absurd (true_false (sym is))

passed : (test : Bool) (A B : Type 0) → By test A B → test ≡ false → B
passed true A B has is = absurd (true_false is)
passed false A B has is = has

first_print : (test : Bool) (here there : Print) (one : PlainItem) → test ≡ true → IsPrintedItem (if test then here else there) one → IsPrintedItem here one
first_print true here there one is printed = printed
first_print false here there one is printed = absurd (true_false (sym is))

later_print : (test : Bool) (here there : Print) (one : PlainItem) → test ≡ false → IsPrintedItem (if test then here else there) one → IsPrintedItem there one
later_print true here there one is printed = absurd (true_false is)
later_print false here there one is printed = printed

-- the items in front fit the row, and those after are those of more
pub record Front (Fit : List PlainItem → List Tree → Type 0) (row : List Tree) (more : Prints) (items : List PlainItem) : Type 0 where
  pub front : List PlainItem
  pub rest : List PlainItem
  pub are : items ≡ front ++ rest
  pub fits : Fit front row
  pub others : ArePrintedItems more rest

-- Rows one after the other.

one_row : (Fit : List PlainItem → List Tree → Type 0) (front rest items : List PlainItem) (row : List Tree) (rows : List (List Tree)) → items ≡ front ++ rest → Fit front row → 0 < length front
    → RowsFit Fit rest rows → RowsFit Fit items (row ∷ rows)
one_row Fit [] rest items row rows are fits some behind = absurd (omega (arith, some))
one_row Fit (first ∷ front) rest items row rows are fits some behind = (first, front, rest, are, fits, behind)

rows_fit : (go : List Tree → Prints → Prints) (Fit : List PlainItem → List Tree → Type 0) (P : List Tree → Type 0)
    → ((row : List Tree) (more : Prints) (items : List PlainItem) → P row → ArePrintedItems (go row more) items → Front Fit row more items)
    → ((front : List PlainItem) (row : List Tree) → Fit front row → 0 < length front)
    → (rows : List (List Tree)) (items : List PlainItem) → AllByRecursion P rows → ArePrintedItems (rows_prints go rows) items → RowsFit Fit items rows
rows_fit go Fit P each uses [] items all printed = printed
rows_fit go Fit P each uses (row ∷ rows) items all printed =
    let one = each row (rows_prints go rows) items all.0 printed in
    one_row Fit one.front one.rest items row rows one.are one.fits (uses one.front row one.fits) (rows_fit go Fit P each uses rows one.rest all.1 one.others)

-- One field more.

next_fits : (takes : Bool) (IsOne : Tree → Type 0) (IsShort : Option Tree → Type 0) (IsIt : PlainItem → Tree → Type 0) (Others : List PlainItem → List Tree → Type 0)
    (shown : Option Tree → Print) (behind : List Tree → Prints) (more : Prints) (row rest : List Tree) (items : List PlainItem)
    → ((v : Tree) (one : PlainItem) → IsOne v → IsShort (Some v) → IsPrintedItem (shown (Some v)) one → IsIt one v)
    → ((items : List PlainItem) → ArePrintedItems (behind rest) items → Front Others rest more items)
    → IsFront takes IsOne row rest → IsShort (first_value takes row)
    → ArePrintedItems (print_if takes (shown (first_value takes row)) (behind (other_values takes row))) items → Front (NextFits takes IsIt Others) row more items
next_fits true IsOne IsShort IsIt Others shown behind more row rest items each later (v, one, is) short printed =
    subst (λ (r : List Tree). IsShort (first_value true r) → ArePrintedItems (print_if true (shown (first_value true r)) (behind (other_values true r))) items → Front (NextFits true IsIt Others) r more items)
    (sym is) here short printed
  where
    here : IsShort (Some v) → ArePrintedItems (print_if true (shown (Some v)) (behind rest)) items → Front (NextFits true IsIt Others) (v ∷ rest) more items
    here short (first, others, are, is_first, are_others) = let back = later others are_others in record {
      front = first ∷ back.front;
      rest = back.rest;
      are = are ∙ ap (λ (xs : List PlainItem). first ∷ xs) back.are;
      fits = (first, back.front, v, rest, refl, refl, each v first one short is_first, back.fits);
      others = back.others;
    }
next_fits false IsOne IsShort IsIt Others shown behind more row rest items each later is short printed =
    let back = later items (subst (λ (r : List Tree). ArePrintedItems (behind r) items) is printed) in record {
      front = back.front;
      rest = back.rest;
      are = back.are;
      fits = subst (Others back.front) (sym is) back.fits;
      others = back.others;
    }

module _ (known : Facts) where
  -- A row that takes a value uses an item.

  uses_next : (takes : Bool) (field : PlainField) (others : PlainBody) → ((front : List PlainItem) (values : List Tree) → has_values others ≡ true → Fits known others front values → 0 < length front)
      → (takes || has_values others) ≡ true → (front : List PlainItem) (values : List Tree) → NextFits takes (IsItemOf known field) (Fits known others) front values → 0 < length front
  uses_next true field others so has front values (item, rest, value, more, are, has_row, is, fits) = subst (λ (xs : List PlainItem). 0 < length xs) (sym are) (omega arith)
  uses_next false field others so has front values fits = so front values has fits

  uses_item : (row : PlainBody) (front : List PlainItem) (values : List Tree) → has_values row ≡ true → Fits known row front values → 0 < length front
  uses_item no_fields front values has fits = absurd cc
  uses_item (field_and field others) front values has fits = uses_next (takes_value field) field others (uses_item others) has front values fits

  -- Texts.

  text_fits : (text : PlainText) (bytes : List ℕ) (one : PlainItem) → exceeds text bytes ≡ false → IsPrintedItem (text_print text.hex bytes) one → IsTextOf known text one bytes
  text_fits text bytes one short (mark, is) =
      subst (λ (x : PlainItem). IsTextOf known text x bytes) (sym is)
      (pieces_read mark known (all_pieces (text_pieces text.hex bytes)) ∙ ap (λ (x : List ℕ). Ok x) (pieces_join (piece_size text.hex) (piece_size text.hex) bytes), short)

  -- Points.

  group_fits : (rect : Bool) (numbers : List ℕ) (one : PlainItem) → length numbers ≡ numbers_of rect → AllByRecursion (λ n. n < 65536) numbers
      → IsSingleItem (in_group (map (signed_number 16) numbers)) one → AreNumbersOf known rect one numbers
  group_fits rect numbers one long all (items, mark, is, are) =
      subst (λ (x : PlainItem). AreNumbersOf known rect x numbers) (sym is)
      (subst (λ (xs : List PlainItem). FitAll (IsNumberOf known) (replicate (numbers_of rect) (integer None)) xs numbers) (sym (list_again items)) (group_items known (numbers_of rect) numbers items long all are))

  -- Lists in braces, with a name or without.

  with_list : (IsSo : List PlainItem → Type 0) (items : List PlainItem) (mark : Mark) (one : PlainItem) → one ≡ item.Braced (items_of items) mark → IsSo items → WithList one IsSo
  with_list IsSo items mark one is so = subst (λ (x : PlainItem). WithList x IsSo) (sym is) (subst IsSo (sym (list_again items)) so)

  with_named : (IsSo : List ℕ → List PlainItem → Type 0) (name : List ℕ) (items : List PlainItem) (mark : Mark) (one : PlainItem) → one ≡ item.Named name (items_of items) mark → IsSo name items → WithNamed one IsSo
  with_named IsSo name items mark one is so = subst (λ (x : PlainItem). WithNamed x IsSo) (sym is) (subst (IsSo name) (sym (list_again items)) so)

  -- the case that a value chooses, by the name that its item has
  record Chosen (cases : PlainCases) (v : Tree) (one : PlainItem) : Type 0 where
    name : List ℕ
    items : List PlainItem
    mark : Mark
    is : one ≡ item.Named name (items_of items) mark
    own : choice_in (Some v) ≡ name
    fits : IsCaseOf known cases name items v

  all_items : (body : PlainBody) (row : List Tree) (items : List PlainItem) → Front (Fits known body) row no_prints items → Fits known body items row
  all_items body row items one =
      let whole : items ≡ one.front = one.are ∙ ap (λ (xs : List PlainItem). one.front ++ xs) one.others ∙ append-nil one.front in
      subst (λ (xs : List PlainItem). Fits known body xs row) (sym whole) one.fits

  -- a row of these fields whose texts are short
  record IsSpelled (body : PlainBody) (row : List Tree) : Type 0 where
    is : IsRow body row
    short : AreShortTexts body row

  all_spelled : (body : PlainBody) (rows : List (List Tree)) → AllByRecursion (IsRow body) rows → AllByRecursion (AreShortTexts body) rows → AllByRecursion (IsSpelled body) rows
  all_spelled body [] are short = tt
  all_spelled body (row ∷ rows) are short = (record { is = are.0; short = short.0 }, all_spelled body rows are.1 short.1)

  first_case : (name : Word) (row : PlainBody) (others : PlainCases) (v : Tree) (line : List Tree) (one : PlainItem) (items : List PlainItem) (mark : Mark) → v ≡ trees.Choice name line
      → one ≡ item.Named name.bytes (items_of items) mark → Fits known row items line → Chosen (case_and name row others) v one
  first_case name row others v line one items mark choice is fits = record {
    name = name.bytes;
    items = items;
    mark = mark;
    is = is;
    own = ap (λ (t : Tree). choice_in (Some t)) choice ∙ choice_is name line;
    fits = by_true (str_eq_ignore_ascii_case name.bytes name.bytes) _ _ (same_name name.bytes) (line, fits, choice);
  }

  later_case : (name : Word) (row : PlainBody) (others : PlainCases) (v : Tree) (one : PlainItem) → is_case name (Some v) ≡ false → Chosen others v one → Chosen (case_and name row others) v one
  later_case name row others v one other it = record {
    name = it.name;
    items = it.items;
    mark = it.mark;
    is = it.is;
    own = it.own;
    fits = by_false (str_eq_ignore_ascii_case name.bytes it.name) _ _ (ap (str_eq_ignore_ascii_case name.bytes) (sym it.own) ∙ other) it.fits;
  }

  module _ (hidden : List ℕ → Bool) where
    mutual
      field_fits : (scope : Own) (in_case : Bool) (field : PlainField) → is_shaped in_case field ≡ true → bad_width field ≡ None → IsKeptWithin scope field
          → (v : Tree) (one : PlainItem) → IsValue field v → IsShortText field (Some v) → IsPrintedItem (field_print hidden field (Some v)) one → IsItemOf known field one v
      field_fits scope in_case (Number number) shaped wide kept v one (n, is, less) short printed =
          let here : number_in (Some v) ≡ n = ap (λ (t : Tree). number_in (Some t)) is ∙ number_is n in
          (n, number_item known hidden number n one (formed in_case number shaped wide) less (subst (λ (m : ℕ). IsSingleItem (number_shown hidden number m) one) here printed), is)
      field_fits scope in_case (Text text) shaped wide kept v one (bytes, is) short printed =
          let here : text_in (Some v) ≡ bytes = ap (λ (t : Tree). text_in (Some t)) is ∙ text_is bytes in
          (bytes, text_fits text bytes one (subst (λ (bs : List ℕ). exceeds text bs ≡ false) here short) (subst (λ (bs : List ℕ). IsPrintedItem (text_print text.hex bs) one) here printed), is)
      field_fits scope in_case (Points points) shaped wide kept v one (numbers, is, long, all) short printed =
          let here : group_in (Some v) ≡ numbers = ap (λ (t : Tree). group_in (Some t)) is ∙ group_is numbers in
          (numbers, group_fits points.rect numbers one long all (subst (λ (ns : List ℕ). IsSingleItem (in_group (map (signed_number 16) ns)) one) here printed), is)
      field_fits scope in_case (Fill unit count) shaped wide kept v one value short printed = value
      field_fits scope in_case (Align unit) shaped wide kept v one value short printed = value
      field_fits scope in_case (Label name) shaped wide kept v one value short printed = value
      field_fits scope in_case (Array name count row) shaped wide kept v one (rows, is, stated, all) short (items, mark, braced, printed) =
          let here : rows_in (Some v) ≡ rows = ap (λ (t : Tree). rows_in (Some t)) is ∙ rows_are rows in
          with_list (λ items. (rows : List (List Tree)) × RowsFit (Fits known row) items rows × IsStated count (length rows) × (v ≡ trees.Rows rows)) items mark one braced (
            rows,
            rows_fit (row_prints hidden row) (Fits known row) (IsSpelled row)
                (λ line more items spelled are. row_fits (and_names (and_names scope (around_names name)) (names_of row)) false row (both (is_none_or is_own_name name) (are_shaped false row) shaped).1 kept.2 line more items spelled are)
                (λ front line fits. uses_item row front line kept.0 fits)
                rows items (all_spelled row rows all (subst (AllByRecursion (AreShortTexts row)) here short)) (subst (λ (rs : List (List Tree)). ArePrintedItems (rows_prints (row_prints hidden row) rs) items) here printed),
            stated,
            is,
          )
      field_fits scope in_case (Switch cases) shaped wide kept v one value short printed =
          let it = case_fits scope cases shaped kept.0 kept.1 v one value short printed in
          with_named (λ name items. IsCaseOf known cases name items v) it.name it.items it.mark one it.is it.fits

      case_fits : (scope : Own) (cases : PlainCases) → are_cases_shaped cases ≡ true → Differ (case_names cases) → AreCasesKept scope cases
          → (v : Tree) (one : PlainItem) → IsChoice cases v → IsShortCase cases (Some v) → IsPrintedItem (case_print hidden cases (Some v)) one → Chosen cases v one
      case_fits scope no_cases shaped differ kept v one value short printed = absurd value
      case_fits scope (case_and name row others) shaped differ kept v one (inl (line, choice, are)) short printed =
          let all = both (is_own_name name) (are_shaped true row && are_cases_shaped others) shaped in
          let each = both (are_shaped true row) (are_cases_shaped others) all.1 in
          let is : is_case name (Some v) ≡ true = ap (λ (t : Tree). is_case name (Some t)) choice ∙ choice_chosen name line in
          let here : line_in (Some v) ≡ line = ap (λ (t : Tree). line_in (Some t)) choice ∙ line_is name line in
          let short_line : AreShortTexts row line = subst (AreShortTexts row) here (chosen (is_case name (Some v)) _ _ short is) in
          let shown = first_print (is_case name (Some v)) (named_block name.bytes (row_prints hidden row (line_in (Some v)) no_prints)) (case_print hidden others (Some v)) one is printed in
          let spelled : IsSpelled row line = record { is = are; short = short_line } in
          let printed_line = subst (λ (l : List Tree). ArePrintedItems (row_prints hidden row l no_prints) shown.0) here shown.3 in
          first_case name row others v line one shown.0 shown.1 choice shown.2
          (all_items row line shown.0 (row_fits (and_names scope (names_of row)) true row each.0 kept.1 line no_prints shown.0 spelled printed_line))
      case_fits scope (case_and name row others) shaped differ kept v one (inr value) short printed =
          let all = both (is_own_name name) (are_shaped true row && are_cases_shaped others) shaped in
          let each = both (are_shaped true row) (are_cases_shaped others) all.1 in
          let other : is_case name (Some v) ≡ false = choice_differs name others differ.0 v value in
          later_case name row others v one other
          (case_fits scope others each.1 differ.1 kept.2 v one value (passed (is_case name (Some v)) _ _ short other) (later_print (is_case name (Some v)) (named_block name.bytes (row_prints hidden row (line_in (Some v)) no_prints)) (case_print hidden others (Some v)) one other printed))

      row_fits : (scope : Own) (in_case : Bool) (body : PlainBody) → are_shaped in_case body ≡ true → AreKept scope body
          → (row : List Tree) (more : Prints) (items : List PlainItem) → IsSpelled body row → ArePrintedItems (row_prints hidden body row more) items → Front (Fits known body) row more items
      row_fits scope in_case no_fields shaped kept row more items spelled printed = record { front = []; rest = items; are = refl; fits = (refl, spelled.is); others = printed }
      row_fits scope in_case (field_and field fields) shaped kept row more items spelled printed =
          let each = both (is_shaped in_case field) (are_shaped in_case fields) shaped in
          let rest = spelled.is.0 in
          let front = fronted (takes_value field) (IsValue field) row rest spelled.is.1 in
          let behind : IsSpelled fields rest = record { is = spelled.is.2; short = subst (AreShortTexts fields) (sym front.others) spelled.short.1 } in
          next_fits (takes_value field) (IsValue field) (IsShortText field) (IsItemOf known field) (Fits known fields) (field_print hidden field) (λ values. row_prints hidden fields values more) more row rest items
          (λ v one value short is. field_fits scope in_case field each.0 kept.0 kept.2 v one value short is)
          (λ items are. row_fits scope in_case fields each.1 kept.3 rest more items behind are)
          spelled.is.1 spelled.short.0 printed

pub fitting : (known : Facts) (hidden : List ℕ → Bool) (body : PlainBody) (row : List Tree) (items : List PlainItem) → is_well_shaped body ≡ true → IsKept body → IsRow body row → AreShortTexts body row
    → ArePrintedItems (row_prints hidden body row no_prints) items → Fits known body items row
fitting known hidden body row items shaped kept is short printed =
    all_items known body row items (row_fits known hidden (names_of body) false body (fields_shaped body shaped) kept.1 row no_prints items (record { is = is; short = short }) printed)

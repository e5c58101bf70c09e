-- Lists and names that hold items, and the rows that are computed of them.
use Rattle.std.proofs.Common.{◌≡◌, ℕ, zero, suc, ◌+◌, ◌<◌, ℤ, List, [], ◌∷◌, ◌++◌, drop, length, Ok, Err, refl, sym, ap, ◌∙◌, append_assoc, arith}
use Rattle.std.specs.Prelude.{Option}
use Rattle.std.specs.declared.result.Result.{Result}
use Rattle.rz_stmt_items.specs.Line.{line_of}
use Rattle.rz_core.specs.Stop.{◌>>=◌, Gives, seen}
use Rattle.rz_core.specs.declared.facts.Facts.{Facts}
use Rattle.rz_core.specs.declared.fault.Fault.{Fault}
use Rattle.rz_core.specs.declared.fault.Mark.{Mark}
use Rattle.rz_core.specs.declared.resource.Word.{Word}
use Rattle.rz_core.specs.declared.stop.Stop.{Stop}
use Rattle.rz_core.specs.declared.stop.Stop.TheVariants.{NoMemory, Refused}
use Rattle.rz_stmt_items.specs.Item.{items_of, plain_item, plain_items, Braced, Named, PlainItem}
use Rattle.rz_stmt_items.specs.declared.item.Item.{Item}
use Rattle.rz_stmt_items.specs.declared.item.Item.TheFolds.{fold-roll-Item}
use Rattle.rz_stmt_items.specs.declared.item.Item.TheOpen.{Item-F}
use Rattle.rz_stmt_items.specs.declared.item.Item.TheVariants as variants
use Rattle.rz_stmt_items.specs.Fits.{list_of}
use Rattle.rz_stmt_items.specs.Matched.{counted, item_for, row_matched, rows_matched, Line}
use Rattle.rz_stmt_items.proofs.Lines.{RowMatched}
use Rattle.rz_stmt_items.proofs.Steps.{rows_behind}
use Rattle.rz_types_fields.specs.declared.field.ArrayField.{ArrayField}
use Rattle.rz_types_fields.specs.declared.field.Field.TheFolds.{fold_out-ArrayField}
use Rattle.rz_types_fields.specs.declared.field.Field.TheViews.{out-ArrayField}
use Rattle.rz_types_fields.specs.declared.tree.Tree.{Tree}
use Rattle.rz_types.specs.Field.{array_step, case_step, field_step, plain_array, plain_body, Array, PlainBody, PlainCase, PlainField}

pub listed : (items : List PlainItem) → list_of (items_of items) ≡ items
listed [] = refl
listed (item ∷ items) = ap (λ (rest : List PlainItem). item ∷ rest) (listed items)

pub braced : (items : List Item) (mark : Mark) → plain_item (variants.List items mark) ≡ Braced (items_of (plain_items items)) mark
braced items mark = ap plain_item (sym (variants.rolls-List items mark)) ∙ fold-roll-Item PlainItem _ (Item-F.List items mark)

pub named : (name : Word) (items : List Item) (mark : Mark) → plain_item (variants.Named name items mark) ≡ Named name.bytes (items_of (plain_items items)) mark
named name items mark = ap plain_item (sym (variants.rolls-Named name items mark)) ∙ fold-roll-Item PlainItem _ (Item-F.Named name items mark)

pub array_is : (array : ArrayField) → plain_array array ≡ Array (out-ArrayField array).name (out-ArrayField array).count (plain_body (out-ArrayField array).row)
array_is array = fold_out-ArrayField PlainField PlainField PlainCase field_step array_step case_step array

-- One row more.

rows_more : (rows : List (List Tree)) (values : List Tree) (others : Result (List (List Tree)) Fault)
    → rows_behind rows (others >>= λ rows. Ok (values ∷ rows)) ≡ rows_behind (rows ++ values ∷ []) others
rows_more rows values (Ok others) = ap (λ rs. Ok rs) (sym (append_assoc rows (values ∷ []) others))
rows_more rows values (Err fault) = refl

module _ (row : RowMatched) (whole : Result (List (List Tree)) Fault) (rows : List (List Tree)) (count next before : ℕ) (one : count ≡ suc next)
    (items : List PlainItem) (item : PlainItem) (rest : List PlainItem) (are : items ≡ item ∷ rest) (so : rows_behind rows (rows_matched row count before items) ≡ whole) where
  abbrev with_others : Line → Result (List (List Tree)) Fault
  with_others line = rows_matched row next line.before line.rest >>= λ rows. Ok (line.row ∷ rows)

  row_is : rows_behind rows (row before items >>= with_others) ≡ whole
  row_is = ap (λ (xs : List PlainItem). rows_behind rows (row before xs >>= with_others)) are ∙ (λ i. rows_behind rows (rows_matched row (sym one i) before (sym are i))) ∙ so

  pub row_refused : (all : List Item) (stop : Stop Fault) → Gives (row before items) (seen (line_of all) (Err stop)) → Gives whole (Err stop)
  row_refused all (Refused fault) is = sym row_is ∙ ap (λ (r : Result Line Fault). rows_behind rows (r >>= with_others)) is
  row_refused all NoMemory is = tt

  pub row_given : (line : Line) → row before items ≡ Ok line → rows_behind (rows ++ line.row ∷ []) (rows_matched row next line.before line.rest) ≡ whole
  row_given line is =
      sym (rows_more rows line.row (rows_matched row next line.before line.rest))
      ∙ ap (λ (r : Result Line Fault). rows_behind rows (r >>= with_others)) (sym is)
      ∙ row_is

-- a list has a first item from each position on
pub from_position : {A : Type 0} (xs : List A) (i : ℕ) → i < length xs → (x : A) × (drop i xs ≡ x ∷ drop (i + 1) xs)
from_position [] i less = absurd (omega (arith, less))
from_position (x ∷ xs) zero less = (x, refl)
from_position (x ∷ xs) (suc i) less =
    let there = from_position xs i (omega (arith, less)) in
    let next : suc (i + 1) ≡ suc i + 1 = omega arith in (there.0, there.1 ∙ ap (λ n. there.0 ∷ drop n (x ∷ xs)) next)

pub items_from : (items : List Item) (i : ℕ) → i < length items → (item : PlainItem) × (plain_items (drop i items) ≡ item ∷ plain_items (drop (i + 1) items))
items_from items i less = let there = from_position items i less in (plain_item there.0, ap plain_items there.1)

-- Arrays.

module _ (known : Facts) (name : Option Word) (count : Option ℤ) (row : PlainBody) (position : ℕ) (item : PlainItem) (items : List PlainItem) (mark : Mark)
    (is : item ≡ Braced (items_of items) mark) where
  array_given : item_for known (Array name count row) position item ≡ (rows_matched (row_matched known row mark items) (length items) 0 items >>= counted mark count)
  array_given =
      ap (item_for known (Array name count row) position) is
      ∙ (λ i. rows_matched (row_matched known row mark (listed items i)) (length (listed items i)) 0 (listed items i) >>= counted mark count)

  pub array_rows : (rows : List (List Tree)) → rows_matched (row_matched known row mark items) (length items) 0 items ≡ Ok rows
      → item_for known (Array name count row) position item ≡ counted mark count rows
  array_rows rows given = array_given ∙ ap (λ (r : Result (List (List Tree)) Fault). r >>= counted mark count) given

  pub array_refused : (stop : Stop Fault) → Gives (rows_matched (row_matched known row mark items) (length items) 0 items) (Err stop)
      → Gives (item_for known (Array name count row) position item) (Err stop)
  array_refused (Refused fault) given = array_given ∙ ap (λ (r : Result (List (List Tree)) Fault). r >>= counted mark count) given
  array_refused NoMemory given = tt

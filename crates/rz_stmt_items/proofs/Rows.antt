-- Items give a row.
use Rattle.std.proofs.Common.{◌≡◌, ℕ, zero, suc, ◌^◌, ◌<◌, ℤ, nat_abs, Bool, true, false, List, [], ◌∷◌, length, inl, inr, refl, sym, ap, subst, arith}
use Rattle.std.proofs.Math.Pow.{pow_pos}
use Rattle.std.specs.List.{AllByRecursion}
use Rattle.std.specs.Prelude.{Option, None, Ok, Err, IfOk, replicate}
use Rattle.std.specs.Str.{str_eq_ignore_ascii_case}
use Rattle.std.specs.declared.result.Result.{Result}
use Rattle.rz_core.specs.Stop.{Meets}
use Rattle.rz_core.specs.declared.facts.Facts.{Facts}
use Rattle.rz_core.specs.declared.fault.Fault.{Fault}
use Rattle.rz_core.specs.declared.fault.Mark.{Mark}
use Rattle.rz_core.specs.declared.resource.Word.{Word}
use Rattle.rz_core.specs.declared.stop.Stop.{Stop}
use Rattle.rz_core.specs.declared.stop.Stop.TheVariants.{NoMemory, Refused}
use Rattle.rz_stmt_items.specs.Item.{Braced, Named, Number, PlainItem, Text}
use Rattle.rz_stmt_items.specs.Fits.{list_of, AreNumbersOf, FitAll, Fits, IsCaseOf, IsItemOf, IsNumberOf, NextFits, RowsFit}
use Rattle.rz_stmt_items.specs.Match.{IsMatch}
use Rattle.rz_types_fields.specs.declared.tree.Tree.{Tree}
use Rattle.rz_types_fields.specs.declared.tree.Tree.TheVariants as trees
use Rattle.rz_types_fields.specs.Row.{By, IsChoice, IsFront, IsRow, IsValue}
use Rattle.rz_types.specs.Field.{takes_value, PlainBody, PlainCases, PlainField}
use Rattle.rz_types.specs.Field as fields
use Rattle.rz_types.specs.Shape.{numbers_of}
use Rattle.rz_types.specs.Piece.{integer}
use Rattle.rz_types.specs.Stored.{stored_number}

-- a number is stored in its width
pub stored_below : (width : ℕ) (value : ℤ) → stored_number width value < 2 ^ width
stored_below width value = let some : 0 < 2 ^ width = pow_pos width in omega arith

pub below_of : (width n : ℕ) (value : ℤ) → n ≡ stored_number width value → n < 2 ^ width
below_of width n value is = subst (λ (m : ℕ). m < 2 ^ width) (sym is) (stored_below width value)

module _ (known : Facts) where
  numbers_row : (count : ℕ) (items : List PlainItem) (numbers : List ℕ) → FitAll (IsNumberOf known) (replicate count (integer None)) items numbers
      → (length numbers ≡ count) × AllByRecursion (λ n. n < 65536) numbers
  numbers_row zero [] [] fit = (refl, tt)
  numbers_row zero [] (n ∷ numbers) fit = absurd fit
  numbers_row zero (item ∷ items) numbers fit = absurd fit
  numbers_row (suc count) [] numbers fit = absurd fit
  numbers_row (suc count) (item ∷ items) [] fit = absurd fit
  numbers_row (suc count) (item ∷ items) (n ∷ numbers) fit =
      let rest = numbers_row count items numbers fit.1 in
      (ap suc rest.0, (below_of 16 n fit.0.0 fit.0.2, rest.1))

  group_row : (rect : Bool) (item : PlainItem) (numbers : List ℕ) → AreNumbersOf known rect item numbers
      → (length numbers ≡ numbers_of rect) × AllByRecursion (λ n. n < 65536) numbers
  group_row rect (Braced items mark) numbers are = numbers_row (numbers_of rect) (list_of items) numbers are
  group_row rect (Number term mark) numbers are = absurd are
  group_row rect (Text parts mark) numbers are = absurd are
  group_row rect (Named name items mark) numbers are = absurd are

  -- one field more
  next_row : (takes : Bool) (field : PlainField) (others : PlainBody) → ((item : PlainItem) (value : Tree) → IsItemOf known field item value → IsValue field value)
      → ((items : List PlainItem) (row : List Tree) → Fits known others items row → IsRow others row)
      → (items : List PlainItem) (row : List Tree) → NextFits takes (IsItemOf known field) (Fits known others) items row
      → (rest : List Tree) × IsFront takes (IsValue field) row rest × IsRow others rest
  next_row true field others one so items row (item, rest, value, more, are, has, is, fits) = (more, (value, one item value is, has), so rest more fits)
  next_row false field others one so items row fits = (row, refl, so items row fits)

  -- rows one after the other
  rows_are : (body : PlainBody) → ((items : List PlainItem) (row : List Tree) → Fits known body items row → IsRow body row)
      → (items : List PlainItem) (rows : List (List Tree)) → RowsFit (Fits known body) items rows → AllByRecursion (IsRow body) rows
  rows_are body so items [] fit = tt
  rows_are body so items (row ∷ rows) (first, front, rest, are, fits, others) = (so (first ∷ front) row fits, rows_are body so rest rows others)

  array_row : (name : Option Word) (count : Option ℤ) (body : PlainBody) → ((items : List PlainItem) (row : List Tree) → Fits known body items row → IsRow body row)
      → (item : PlainItem) (value : Tree) → IsItemOf known (fields.Array name count body) item value → IsValue (fields.Array name count body) value
  array_row name count body so (Braced items mark) value (rows, fit, stated, is) = (rows, is, stated, rows_are body so (list_of items) rows fit)
  array_row name count body so (Number term mark) value is = absurd is
  array_row name count body so (Text parts mark) value is = absurd is
  array_row name count body so (Named own items mark) value is = absurd is

  case_row : (test : Bool) (own : Word) (body : PlainBody) (others : PlainCases) → ((items : List PlainItem) (row : List Tree) → Fits known body items row → IsRow body row)
      → ((name : List ℕ) (items : List PlainItem) (value : Tree) → IsCaseOf known others name items value → IsChoice others value)
      → (name : List ℕ) (items : List PlainItem) (value : Tree)
      → By test ((line : List Tree) × Fits known body items line × (value ≡ trees.Choice own line)) (IsCaseOf known others name items value)
      → IsChoice (fields.case_and own body others) value
  case_row true own body others so rest name items value (line, fits, is) = inl (line, is, so items line fits)
  case_row false own body others so rest name items value is = inr (rest name items value is)

  switch_row : (cases : PlainCases) → ((name : List ℕ) (items : List PlainItem) (value : Tree) → IsCaseOf known cases name items value → IsChoice cases value)
      → (item : PlainItem) (value : Tree) → IsItemOf known (fields.Switch cases) item value → IsChoice cases value
  switch_row cases so (Named name items mark) value is = so name (list_of items) value is
  switch_row cases so (Number term mark) value is = absurd is
  switch_row cases so (Text parts mark) value is = absurd is
  switch_row cases so (Braced items mark) value is = absurd is

  mutual
    value_row : (field : PlainField) (item : PlainItem) (value : Tree) → IsItemOf known field item value → IsValue field value
    value_row (fields.Number number) item value is = (is.0, is.2, below_of (nat_abs number.width) is.0 is.1.0 is.1.2)
    value_row (fields.Text text) item value is = (is.0, is.2)
    value_row (fields.Points points) item value is =
        let row = group_row points.rect item is.0 is.1 in (is.0, is.2, row.0, row.1)
    value_row (fields.Fill unit count) item value is = absurd is
    value_row (fields.Align unit) item value is = absurd is
    value_row (fields.Label name) item value is = absurd is
    value_row (fields.Array name count body) item value is = array_row name count body (row_of body) item value is
    value_row (fields.Switch cases) item value is = switch_row cases (choice_of cases) item value is

    choice_of : (cases : PlainCases) (name : List ℕ) (items : List PlainItem) (value : Tree) → IsCaseOf known cases name items value → IsChoice cases value
    choice_of fields.no_cases name items value is = absurd is
    choice_of (fields.case_and own body others) name items value is =
        case_row (str_eq_ignore_ascii_case own.bytes name) own body others (row_of body) (choice_of others) name items value is

    pub row_of : (body : PlainBody) (items : List PlainItem) (row : List Tree) → Fits known body items row → IsRow body row
    row_of fields.no_fields items row fits = fits.1
    row_of (fields.field_and field others) items row fits = next_row (takes_value field) field others (value_row field) (row_of others) items row fits

pub met_row : (known : Facts) (place : Mark) (body : PlainBody) (items : List PlainItem) (result : Result (List Tree) (Stop Fault))
    → Meets result (IsMatch known place body items) → IfOk result (IsRow body)
met_row known place body items (Ok row) meets = row_of known body items row meets
met_row known place body items (Err (Refused fault)) meets = tt
met_row known place body items (Err NoMemory) meets = tt

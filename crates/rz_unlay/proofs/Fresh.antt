-- What arrays ahead in a body give by the labels in their rows isn't known before them.
use Rattle.std.proofs.Common.{◌≡◌, ℤ, true, false, List, Option, Some, None, refl, sym, ◌∙◌}
use Rattle.std.specs.Prelude.{if◌then◌else◌}
use Rattle.rz_core.proofs.Tests.{by_test, true_false}
use Rattle.rz_core.specs.declared.resource.Word.{Word}
use Rattle.rz_expr.specs.Environment.{count_of, place_in, place_of, row_in, rows_of, Environment, IsPartOf, Key}
use Rattle.rz_types_fields.proofs.RowKeys.{labelled_none, no_stated, place_in_none, undeclared}
use Rattle.rz_types_fields.specs.Field.{field_and, Array, PlainBody}
use Rattle.rz_types_fields.specs.Front.{names_inside, stated_in, value_inside}
use Rattle.rz_types_fields.specs.Passed.{declares, gives_count, gives_key, gives_rows}
use Rattle.rz_types_fields.specs.RowLabels.{also_rows, is_row, row_number, rows_give, RowOf}
use Rattle.rz_unlay.proofs.Asked.{of_rows}
use Rattle.rz_unlay.proofs.ReadsTests.{if_false, if_true, left_true, none_is, right_true}

-- none of the names of rows that these fields give is known
pub record Fresh (body : PlainBody) (names : Environment) : Type 0 where
  pub none : (key : Key) → of_rows key ≡ true → declares body key ≡ true → names.give key ≡ None

-- At the front of a body.

inside_none : (which : Option RowOf) (body : PlainBody) (key : Key) (other : Option ℤ) → is_row which key ≡ false → declares body key ≡ true → stated_in body key ≡ None
    → value_inside which body key other ≡ None
inside_none which body key other no_row own stated =
    if_false (is_row which key) (row_number which) (if declares body key then stated_in body key else other) no_row
    ∙ if_true (declares body key) (stated_in body key) other own ∙ stated

pub fresh_front : (which : Option RowOf) (body : PlainBody) (names : Environment) → Fresh body (names_inside which body names)
fresh_front which body names = record { none = front }
  where
    front : (key : Key) → of_rows key ≡ true → declares body key ≡ true → (names_inside which body names).give key ≡ None
    front (place_of name) of own = absurd (true_false (sym of))
    front (count_of name) of own = absurd (true_false (sym of))
    front (rows_of label) of own =
        inside_none which body (rows_of label) (names.give (rows_of label)) (labelled_none which label) own (no_stated (rows_of label) (λ name. refl) body)
    front (place_in label number) of own =
        inside_none which body (place_in label number) (names.give (place_in label number)) (place_in_none which label number) own (no_stated (place_in label number) (λ name. refl) body)
    front (row_in array) of own = absurd (true_false (sym own ∙ undeclared body array))

-- After a field.

rows_of_rows : (row : PlainBody) (key : Key) → gives_rows row key ≡ true → of_rows key ≡ true
rows_of_rows row (place_of name) gives = absurd (true_false (sym gives))
rows_of_rows row (count_of name) gives = absurd (true_false (sym gives))
rows_of_rows row (rows_of label) gives = refl
rows_of_rows row (place_in label number) gives = refl
rows_of_rows row (row_in array) gives = absurd (true_false (sym gives))

-- rows give names of rows alone
pub no_rows : (row : PlainBody) (key : Key) → of_rows key ≡ false → gives_rows row key ≡ false
no_rows row key plain =
    by_test (gives_rows row key ≡ false) (gives_rows row key) (λ gives. absurd (true_false (sym (rows_of_rows row key gives) ∙ plain))) (λ none. none)

-- what an array gives by the labels in its rows isn't known before it
pub rows_unknown : (name : Option Word) (count : Option ℤ) (row fields : PlainBody) (names : Environment) → Fresh (field_and (Array name count row) fields) names
    → (key : Key) → gives_rows row key ≡ true → names.give key ≡ None
rows_unknown name count row fields names fresh key gives =
    fresh.none key (rows_of_rows row key gives)
    (left_true (gives_key (Array name count row) key) (declares fields key) (right_true (gives_count name key) (gives_rows row key) gives))

-- so what is known stays known after the rows
pub rows_kept : (row : PlainBody) (ends : List Environment) (names more : Environment) → ((key : Key) → gives_rows row key ≡ true → names.give key ≡ None) → IsPartOf names more
    → IsPartOf names (also_rows row ends more)
rows_kept row ends names more unknown part = record { give = kept }
  where
    kept : (key : Key) (value : ℤ) → names.give key ≡ Some value → (also_rows row ends more).give key ≡ Some value
    kept key value is =
        by_test ((also_rows row ends more).give key ≡ Some value) (gives_rows row key)
        (λ gives. absurd (none_is value (sym (unknown key gives) ∙ is)))
        (λ other. if_false (gives_rows row key) (rows_give ends key) (more.give key) other ∙ part.give key value is)

-- The names of a body that is laid, by those around it.
use Rattle.std.proofs.Common.{◌≡◌, ℕ, ℤ, Bool, true, false, ◌||◌, not, List, Option, Some, refl, sym, ap, ◌∙◌}
use Rattle.std.specs.Prelude.{if◌then◌else◌}
use Rattle.rz_core.specs.declared.facts.Facts.{Facts}
use Rattle.rz_expr.specs.Environment.{count_of, place_in, place_of, rows_of, Environment, Key}
use Rattle.rz_types_fields.proofs.RowKeys.{placed_as_counted}
use Rattle.rz_types_fields.specs.declared.tree.Tree.{Tree}
use Rattle.rz_types_fields.specs.Field.{PlainBody}
use Rattle.rz_types_fields.specs.Front.{names_inside}
use Rattle.rz_types_fields.specs.Laid.{enter, entered, leave, outside_of, Draft}
use Rattle.rz_types_fields.specs.Passed.{declares, has_label, Names, Passed}
use Rattle.rz_types_fields.specs.Spells.{HasPlace, Within}
use Rattle.rz_types_fields.specs.RowLabels.{is_row, row_number, RowOf}
use Rattle.rz_layout.proofs.Adding.{Adds, FitsAll}
use Rattle.rz_layout.proofs.Counts.{counted_are, counted_moves, AreApart, AreCounted}
use Rattle.rz_layout.proofs.Labels.{around_no_place, counts_no_place, entered_none, entered_row, gives_places, inside_later, label_declared, later_all, met_all, met_front, no_row, row_is_around, undeclared}
use Rattle.rz_layout.proofs.Later.{is_later}
use Rattle.rz_layout.proofs.Placing.{place_moves}
use Rattle.rz_layout.proofs.Sees.{is_in_row, not_false, IsRowIn}

module _ (known : Facts) where
  module _ (row : PlainBody) (apart : AreApart row) (which : Option RowOf) (passed : Passed) (line : List Tree) (draft inner : Draft) (a : Adds (gives_places row) (enter which row line draft) inner)
      (all : List Bool) (names : Environment) (fits : FitsAll known all names passed.met (leave which row draft inner)) where
    abbrev own_names : Environment
    own_names = outside_of which row inner.known names

    abbrev row_met : Names
    row_met = met_all row (met_front row passed.met)

    -- what a body doesn't declare is as outside
    same_outside : (key : Key) → declares row key ≡ false → is_row which key ≡ false → inner.known.give key ≡ draft.known.give key
    same_outside key is at_row = a.names_are key (undeclared row key is) ∙ entered_none which row line draft.known key is at_row

    early_outside : (key : Key) → declares row key ≡ false → is_later row_met key ≡ false → is_later passed.met key ≡ false
    early_outside key is early = sym (inside_later row passed.met key is) ∙ sym (later_all row (met_front row passed.met) key (undeclared row key is)) ∙ early

    inside_names : (key : Key) → is_in_row key ≡ false → is_later row_met key ≡ false → (around test : Bool) → is_row which key ≡ around → declares row key ≡ test → inner.known.give key ≡ own_names.give key
    inside_names key single early true test at_row is = sym (ap (λ (c : Bool). if c || declares row key then inner.known.give key else names.give key) at_row)
    inside_names key single early false true at_row is = sym (λ i. if at_row i || is i then inner.known.give key else names.give key)
    inside_names key single early false false at_row is =
        same_outside key is at_row ∙ fits.names_are.names key single (early_outside key is early) ∙ sym (λ i. if at_row i || is i then inner.known.give key else names.give key)

    inside_places : (label : List ℕ) (rows number : ℤ) → row_met (rows_of label) ≡ true → own_names.give (rows_of label) ≡ Some rows → IsRowIn rows number → (test : Bool) → declares row (rows_of label) ≡ test
        → inner.known.give (place_in label number) ≡ own_names.give (place_in label number)
    inside_places label rows number was has inside true mine =
        let key : Key = place_in label number in
        let at_row : is_row which key ≡ false = no_row which key refl in
        let also : declares row key ≡ true = placed_as_counted row label number ∙ mine in
        sym (λ i. if at_row i || also i then inner.known.give key else names.give key)
    inside_places label rows number was has inside false mine =
        let key : Key = place_in label number in
        let at_row : is_row which key ≡ false = no_row which key refl in
        let also : declares row key ≡ false = placed_as_counted row label number ∙ mine in
        let around : is_row which (rows_of label) ≡ false = no_row which (rows_of label) refl in
        let outer : names.give (rows_of label) ≡ Some rows = sym (λ i. if around i || mine i then inner.known.give (rows_of label) else names.give (rows_of label)) ∙ has in
        let met : passed.met (rows_of label) ≡ true = not_false (passed.met (rows_of label)) (early_outside (rows_of label) mine (ap not was)) in
        same_outside key also at_row ∙ fits.names_are.places label rows number met outer inside ∙ sym (λ i. if at_row i || also i then inner.known.give key else names.give key)

    pub inside_fits : FitsAll known all own_names row_met inner
    inside_fits = record {
      bits = fits.bits;
      len = refl;
      late_is = refl;
      marks = fits.marks;
      within = fits.within;
      names_are = record {
        names = λ key single early. inside_names key single early (is_row which key) (declares row key) refl refl;
        places = λ label rows number was has inside. inside_places label rows number was has inside (declares row (rows_of label)) refl;
      };
    }

    pub inside_counts : AreCounted row line own_names
    inside_counts = counted_moves row line (entered which row line draft.known) own_names
        (λ name is. count_inside name (no_row which (count_of name) refl) is ∙ a.names_are (count_of name) (counts_no_place row name))
        (counted_are row line (names_inside which row draft.known) apart)
      where
        count_inside : (name : List ℕ) → is_row which (count_of name) ≡ false → declares row (count_of name) ≡ true → own_names.give (count_of name) ≡ inner.known.give (count_of name)
        count_inside name at_row is = λ i. if at_row i || is i then inner.known.give (count_of name) else names.give (count_of name)

    inside_number : (key : Key) → is_row which key ≡ true → own_names.give key ≡ row_number which
    inside_number key at_row =
        ap (λ (c : Bool). if c || declares row key then inner.known.give key else names.give key) at_row
        ∙ a.names_are key (around_no_place row key (row_is_around which key at_row)) ∙ entered_row which row line draft.known key at_row

    pub inside_within : ((label : List ℕ) → has_label row label ≡ true → HasPlace which label names inner.known) → Within row which names own_names
    inside_within has = record {
      give = λ key is at_row. λ i. if at_row i || is i then inner.known.give key else names.give key;
      number = inside_number;
      places = λ label is. place_moves which label names inner.known own_names (sym (own_place label (no_row which (place_of label) refl) (label_declared row label is))) (has label is);
    }
      where
        own_place : (label : List ℕ) → is_row which (place_of label) ≡ false → declares row (place_of label) ≡ true → own_names.give (place_of label) ≡ inner.known.give (place_of label)
        own_place label at_row is = λ i. if at_row i || is i then inner.known.give (place_of label) else names.give (place_of label)

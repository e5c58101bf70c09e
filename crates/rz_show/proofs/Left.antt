-- What is left of lists of items, one item less.
use Rattle.std.proofs.Common.{◌≡◌, ℕ, suc, Bool, true, false, List, [], ◌∷◌, length, refl, sym, ap, ◌∙◌, arith}
use Rattle.std.specs.Prelude.{◌==◌, not}
use Rattle.std.proofs.lemmas.Bool.Decides.{nat_tests}
use Rattle.rz_types_fields.specs.declared.field.Field.{Field}
use Rattle.rz_types_fields.specs.declared.tree.Tree.{Tree}
use Rattle.rz_types_fields.specs.Laid.{first_value, other_values}
use Rattle.rz_types.specs.Field.{plain_body, plain_field, PlainBody}
use Rattle.rz_show.specs.Lines.{comma_if, is_settled}
use Rattle.rz_show_lines.specs.Print.{comma}
use Rattle.rz_show.specs.Shown.{field_print, print_if, row_prints, rows_prints}

some : (n : ℕ) → (suc n == 0) ≡ false
some n = grind (arith, nat_tests)

-- fields that were passed, with the rows after them
pub settled_fields : (fields : List Field) (rows : List (List Tree)) → is_settled (plain_body fields) [] ≡ true → (length fields == 0) ≡ false → is_settled (plain_body fields) rows ≡ true
settled_fields [] rows front is = absurd (cc is)
settled_fields (field ∷ fields) rows front is = front

pub settled_end : (fields : List Field) (rows : List (List Tree)) → is_settled (plain_body fields) [] ≡ true → length rows ≡ 0 → is_settled (plain_body fields) rows ≡ true
settled_end fields [] front none = front
settled_end fields (row ∷ rows) front none = absurd (omega (arith, none))

-- whether an item is left
pub more_is : (hidden : List ℕ → Bool) (row : PlainBody) (fields : List Field) (values : List Tree) (rows : List (List Tree)) → is_settled (plain_body fields) rows ≡ true
    → comma (row_prints hidden (plain_body fields) values (rows_prints (row_prints hidden row) rows)) ≡ comma_if (not (length fields == 0))
more_is hidden row [] values [] settled = refl
more_is hidden row [] values (first ∷ rows) settled = absurd (cc settled)
more_is hidden row (field ∷ fields) values rows settled =
    ap (λ (t : Bool). comma (print_if t (field_print hidden (plain_field field) (first_value t values)) (row_prints hidden (plain_body fields) (other_values t values) (rows_prints (row_prints hidden row) rows)))) settled
    ∙ sym (ap (λ (b : Bool). comma_if (not b)) (some (length fields)))

-- Labels that weren't met before a field or a body.
use Rattle.std.proofs.Common.{◌≡◌, ℕ, pos, Bool, true, false, ◌&&◌, ◌||◌, not, List, length, Some, refl, sym, ap, ◌∙◌}
use Rattle.std.specs.Prelude.{if◌then◌else◌}
use Rattle.std.specs.Option.{is_some}
use Rattle.rz_core.proofs.Tests.{true_false}
use Rattle.rz_core.specs.declared.facts.Facts.{Facts}
use Rattle.rz_expr.specs.Environment.{count_of, place_in, place_of, row_in, rows_of, Environment, Key}
use Rattle.rz_types_fields.specs.Field.{field_and, PlainBody, PlainField}
use Rattle.rz_types_fields.specs.Passed.{declares, gives_key, gives_rows, has_label, Names}
use Rattle.rz_types_fields.specs.RowLabels.{also_rows}
use Rattle.rz_layout.proofs.Adding.{Still}
use Rattle.rz_layout.proofs.Coming.{Fresh}
use Rattle.rz_layout.proofs.Labels.{gives_place, gives_places, label_key, later_all, met_all, met_behind, met_front, or_first, or_true, placed_declared, undeclared, unmet_later}
use Rattle.rz_layout.proofs.Later.{is_later}

pub fresh_front : (row : PlainBody) (met : Names) → Fresh (gives_places row) (met_front row met)
fresh_front row met key is = ap (λ (test : Bool). not test && met key) (placed_declared row key is)

pub fresh_first : (field : PlainField) (fields : PlainBody) (met : Names) → Fresh (gives_places (field_and field fields)) met → Fresh (gives_place field) met
fresh_first field fields met fresh key is = fresh key (or_first (gives_place field key) (gives_places fields key) is)

pub fresh_rest : (field : PlainField) (fields : PlainBody) → ((key : Key) → gives_key field key ≡ true → declares fields key ≡ false) → (met : Names) → Fresh (gives_places (field_and field fields)) met → Fresh (gives_places fields) (met_behind field met)
fresh_rest field fields apart met fresh key is = by (gives_key field key) refl
  where
    by : (test : Bool) → gives_key field key ≡ test → (gives_key field key || met key) ≡ false
    by true own = absurd (true_false (sym is ∙ undeclared fields key (apart key own)))
    by false own = ap (λ (test : Bool). test || met key) own ∙ fresh key (or_true (gives_place field key) (gives_places fields key) is)

pub still_body : (known : Facts) (fields : PlainBody) (met : Names) → Fresh (gives_places fields) met → Still known met (gives_places fields) (met_all fields met)
still_body known fields met fresh key early = by (gives_places fields key) refl
  where
    by : (test : Bool) → gives_places fields key ≡ test → (gives_places fields key ≡ false) × (is_later (met_all fields met) key ≡ false)
    by true is = absurd (true_false (sym (unmet_later fields met fresh key is) ∙ early))
    by false is = (is, later_all fields met key is ∙ early)

rows_still : (row : PlainBody) (met : Names) → Fresh (gives_rows row) met → (name : List ℕ) → not (met (rows_of name)) ≡ false → (has_label row name ≡ false) × (not (has_label row name || met (rows_of name)) ≡ false)
rows_still row met fresh name early = by (has_label row name) refl
  where
    by : (test : Bool) → has_label row name ≡ test → (has_label row name ≡ false) × (not (has_label row name || met (rows_of name)) ≡ false)
    by true is = absurd (true_false (sym (ap not (fresh (rows_of name) is)) ∙ early))
    by false is = (is, ap (λ (test : Bool). not (test || met (rows_of name))) is ∙ early)

-- so after the rows of an array, whose labels weren't met
pub still_rows : (known : Facts) (row : PlainBody) (met : Names) → Fresh (gives_rows row) met → Still known met (gives_rows row) (λ key. gives_rows row key || met key)
still_rows known row met fresh (place_of name) early = (refl, early)
still_rows known row met fresh (count_of name) early = (refl, refl)
still_rows known row met fresh (rows_of name) early = rows_still row met fresh name early
still_rows known row met fresh (place_in name number) early = rows_still row met fresh name early
still_rows known row met fresh (row_in name) early = (refl, refl)

-- what is given after all rows
pub rows_given : (row : PlainBody) (ends : List Environment) (names : Environment) (in_rows : Bool) (name : List ℕ) → gives_rows row (label_key in_rows name) ≡ true
    → is_some ((also_rows row ends names).give (label_key in_rows name)) ≡ true
rows_given row ends names false name is = absurd (true_false (sym is))
rows_given row ends names true name is = ap (λ (test : Bool). is_some (if test then Some (pos (length ends)) else names.give (rows_of name))) is

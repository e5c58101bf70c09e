-- What is passed after numbers, texts and switches.
use Rattle.std.proofs.Common.{◌≡◌, Bool, true, List, Result, Ok, Err, refl, sym, ap, subst, ◌∙◌}
use Rattle.std.specs.Global.{Box}
use Rattle.std.specs.Prelude.{option_map, IfOk, OnOk}
use Rattle.rz_expr.specs.Term.{term_of}
use Rattle.rz_types_fields.specs.declared.field.Case.{Case}
use Rattle.rz_types_fields.specs.declared.field.Field.{Field}
use Rattle.rz_types_fields.specs.declared.field.Field.TheFolds.{fold-roll-Field}
use Rattle.rz_types_fields.specs.declared.field.Field.TheOpen.{Field-F}
use Rattle.rz_types_fields.specs.declared.field.Field.TheVariants as fields_of
use Rattle.rz_types_fields.specs.declared.field.Field.TheVariants.{rolls-Num, rolls-Points, rolls-Switch, rolls-Text}
use Rattle.rz_types_fields.specs.declared.field.NumField.{NumField}
use Rattle.rz_types_fields.specs.declared.field.PointField.{PointField}
use Rattle.rz_types_fields.specs.declared.field.TextField.{TextField}
use Rattle.rz_types_fields.specs.declared.hints.CaseHints.{CaseHints}
use Rattle.rz_types_fields.specs.Field.{array_step, case_step, field_step, plain_cases, plain_field, plain_number, plain_points, plain_text, Number, PlainBody, PlainCase, PlainField, Points, Switch, Text}
use Rattle.rz_types_fields.specs.Passed.{behind, between, told_by}
use Rattle.rz_types.specs.Notes.{passed, passed_at, AreSame}
use Rattle.rz_types.specs.Readable.{are_cases_read, is_read}
use Rattle.rz_types.proofs.Noted.{cases_at, same_passed}
use Rattle.rz_types.specs.declared.passed.PassedNotes.{PassedNotes}

num_is : (field : Field) (number : NumField) → field ≡ fields_of.Num number → plain_field field ≡ Number (plain_number number)
num_is field number is = ap plain_field is ∙ ap plain_field (sym (rolls-Num number)) ∙ fold-roll-Field PlainField PlainField PlainCase field_step array_step case_step (Field-F.Num number)

text_is : (field : Field) (text : TextField) → field ≡ fields_of.Text text → plain_field field ≡ Text (plain_text text)
text_is field text is = ap plain_field is ∙ ap plain_field (sym (rolls-Text text)) ∙ fold-roll-Field PlainField PlainField PlainCase field_step array_step case_step (Field-F.Text text)

points_is : (field : Field) (points : PointField) → field ≡ fields_of.Points points → plain_field field ≡ Points (plain_points points)
points_is field points is = ap plain_field is ∙ ap plain_field (sym (rolls-Points points)) ∙ fold-roll-Field PlainField PlainField PlainCase field_step array_step case_step (Field-F.Points points)

switch_is : (field : Field) (cases : List Case) (hints : Box CaseHints) → field ≡ fields_of.Switch cases hints → plain_field field ≡ Switch (plain_cases cases)
switch_is field cases hints is = ap plain_field is ∙ ap plain_field (sym (rolls-Switch cases hints)) ∙ fold-roll-Field PlainField PlainField PlainCase field_step array_step case_step (Field-F.Switch cases hints)

module _ {E : Type 0} (field : Field) (result : Result Bool E) (fields : PlainBody) (old new : PassedNotes) where
  abbrev Behind : PlainField → Type 0
  Behind plain = IfOk result (λ read. read ≡ true → passed new ≡ behind plain (passed_at fields old))

  pub number_behind : (number : NumField) → field ≡ fields_of.Num number
      → IfOk result (λ read. read ≡ true → passed new ≡ between (told_by (option_map term_of number.fixed) (passed_at fields old))) → Behind (plain_field field)
  number_behind number is told = subst Behind (sym (num_is field number is)) told

  pub points_read : (outermost : Bool) (rest : PlainBody) (points : PointField) → field ≡ fields_of.Points points
      → IfOk result (λ read. (outermost : Bool) → read ≡ is_read outermost rest (passed_at fields old) (Points (plain_points points)))
      → IfOk result (λ read. read ≡ is_read outermost rest (passed_at fields old) (plain_field field))
  points_read outermost rest points is read = by result read
    where
      by : (r : Result Bool E) → IfOk r (λ read. (outermost : Bool) → read ≡ is_read outermost rest (passed_at fields old) (Points (plain_points points)))
          → IfOk r (λ read. read ≡ is_read outermost rest (passed_at fields old) (plain_field field))
      by (Ok read) so = so outermost ∙ ap (is_read outermost rest (passed_at fields old)) (sym (points_is field points is))
      by (Err stop) so = tt

  unchanged : (plain : PlainField) → OnOk result (AreSame old new) → passed old ≡ behind plain (passed_at fields old) → Behind plain
  unchanged plain same is = by result same
    where
      by : (r : Result Bool E) → OnOk r (AreSame old new) → IfOk r (λ read. read ≡ true → passed new ≡ behind plain (passed_at fields old))
      by (Ok read) same = λ so. same_passed old new same ∙ is
      by (Err stop) same = tt

  pub text_behind : (text : TextField) → field ≡ fields_of.Text text → OnOk result (AreSame old new) → Behind (plain_field field)
  text_behind text is same = unchanged (plain_field field) same (ap (λ (plain : PlainField). behind plain (passed_at fields old)) (sym (text_is field text is)))

  pub switch_behind : (cases : List Case) (hints : Box CaseHints) → field ≡ fields_of.Switch cases hints → OnOk result (AreSame old new) → Behind (plain_field field)
  switch_behind cases hints is same = unchanged (plain_field field) same (ap (λ (plain : PlainField). behind plain (passed_at fields old)) (sym (switch_is field cases hints is)))

  -- what is near at a switch isn't in its cases
  pub switch_read : (outermost : Bool) (rest : PlainBody) (cases items : List Case) (hints : Box CaseHints) → field ≡ fields_of.Switch cases hints → items ≡ cases
      → IfOk result (λ read. read ≡ are_cases_read (passed old) (plain_cases items)) → IfOk result (λ read. read ≡ is_read outermost rest (passed_at fields old) (plain_field field))
  switch_read outermost rest cases items hints is same read = by result read
    where
      by : (r : Result Bool E) → IfOk r (λ read. read ≡ are_cases_read (passed old) (plain_cases items))
          → IfOk r (λ read. read ≡ is_read outermost rest (passed_at fields old) (plain_field field))
      by (Ok read) so =
          so ∙ ap (λ (cases : List Case). are_cases_read (passed old) (plain_cases cases)) same
          ∙ cases_at fields (passed old) (plain_cases cases)
          ∙ ap (is_read outermost rest (passed_at fields old)) (sym (switch_is field cases hints is))
      by (Err stop) so = tt

pub ok_same : {E : Type 0} (result : Result Bool E) (notes : PassedNotes) → OnOk result (AreSame notes notes)
ok_same (Ok read) notes = (refl, refl)
ok_same (Err stop) notes = tt

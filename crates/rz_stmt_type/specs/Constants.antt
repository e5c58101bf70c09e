-- A `type` statement with the values of its constants. They are computed from left to right, and the first that has no
-- value, or that is a symbol's and outside its range, is the fault of the statement. (MPW Rez.)
use Rattle.std.specs.Prelude.{ℕ, ℤ, pos, Bool, true, Option, Some, None, Ok}
use Rattle.std.specs.declared.result.Result.{Result}
use Rattle.rz_core.specs.Stop.{◌>>=◌}
use Rattle.rz_core.specs.declared.fault.Fault.{Fault}
use Rattle.rz_core.specs.declared.fault.Mark.{Mark}
use Rattle.rz_stmt_fields.specs.Form.{BodyForm, CaseForm, CasesForm, DeclareForm, FieldForm, MadeForm, NumberForm, Own, ScopeForm, WidthForm, Written}
use Rattle.rz_stmt_fields.specs.Form as form
use Rattle.rz_types_fields.specs.Value.{constant_value}
use Rattle.rz_types_fields.specs.Range.{fits_number}
use Rattle.rz_stmt_type.specs.Values.{values_of}
use Rattle.rz_expr.specs.Term.{Term}
use Rattle.rz_stmt_type.specs.declared.constants.Bounds.{Bounds}
use Rattle.rz_stmt_type.specs.declared.constants.Bounds.TheVariants.{Any, One, Two}
use Rattle.rz_stmt_type.specs.declared.constants.TypeStmt.{TypeStmt}
use Rattle.rz_stmt_type.specs.declared.constants.Made.{Made}
use Rattle.rz_stmt_type.specs.declared.constants.Made.TheVariants as ways
use Rattle.rz_types_fields.specs.Field.{case_and, field_and, no_cases, no_fields, plain_body, Align, Array, Fill, Label, Number, PlainBody, PlainCase, PlainCases, PlainField, PlainNumber, Points, Switch, Text}

-- fields, or what another type is
pub data PlainMade : Type 0 where
  Fields : (body : PlainBody) → PlainMade
  CopyOf : (kind : ℕ) (id : Option ℤ) → PlainMade

pub record Declare : Type 0 where
  pub kind : ℕ
  pub bounds : Bounds
  pub made : PlainMade

abbrev pub made_of : Made → PlainMade
made_of (ways.Fields body) = Fields (plain_body body)
made_of (ways.Copy kind id) = CopyOf kind.code id

abbrev pub declare_of : TypeStmt → Declare
declare_of stmt = record { kind = stmt.kind.code; bounds = stmt.bounds; made = made_of stmt.made }

-- Fields.

abbrev pub width_value : Mark → WidthForm → Result ℤ Fault
width_value mark (Own bits) = Ok bits
width_value mark (Written term) = constant_value mark term

-- a number of so many bits
abbrev pub number_of_width : Mark → NumberForm → ℤ → Result PlainNumber Fault
number_of_width mark number width =
    values_of (fits_number number.form width) mark (pos 0) number.symbols
    >>= (λ symbols. Ok (record { form = number.form; width = width; unsigned = number.unsigned; radix = number.radix; symbols = symbols; fixed = number.fixed; key = number.key }))

-- the fixed value of a key is computed, and not kept
abbrev pub key_value : Mark → Bool → Option Term → Result (Unit {0}) Fault
key_value mark true (Some term) = constant_value mark term >>= (λ value. Ok tt)
key_value mark key fixed = Ok tt

-- its width first, then its value, if it is a key, and then its symbols
abbrev pub number_value : Mark → NumberForm → Result PlainNumber Fault
number_value mark number = width_value mark number.width >>= (λ width. key_value mark number.key number.fixed >>= (λ done. number_of_width mark number width))

-- one unit, or as many as are written
abbrev pub count_value : Mark → Option Term → Result ℤ Fault
count_value mark None = Ok (pos 1)
count_value mark (Some term) = constant_value mark term

-- what is written, where it is
abbrev pub given_value : Mark → Option Term → Result (Option ℤ) Fault
given_value mark None = Ok None
given_value mark (Some term) = constant_value mark term >>= (λ value. Ok (Some value))

abbrev mutual
  pub field_value : Mark → FieldForm → Result PlainField Fault
  field_value mark (form.Number number) = number_value mark number >>= (λ value. Ok (Number value))
  field_value mark (form.Text text) = Ok (Text text)
  field_value mark (form.Points points) = Ok (Points points)
  field_value mark (form.Fill unit count) = count_value mark count >>= (λ value. Ok (Fill unit value))
  field_value mark (form.Align unit) = Ok (Align unit)
  field_value mark (form.Label name) = Ok (Label name)
  -- of an array the count of its rows first, then those of its row
  field_value mark (form.Array name count row) = given_value mark count >>= (λ rows. body_value mark row >>= (λ fields. Ok (Array name rows fields)))
  field_value mark (form.Switch cases) = cases_value mark cases >>= (λ made. Ok (Switch made))

  pub body_value : Mark → BodyForm → Result PlainBody Fault
  body_value mark form.no_fields = Ok no_fields
  body_value mark (form.field_and field fields) = field_value mark field >>= (λ one. body_value mark fields >>= (λ others. Ok (field_and one others)))

  pub cases_value : Mark → CasesForm → Result PlainCases Fault
  cases_value mark form.no_cases = Ok no_cases
  cases_value mark (form.case_and name row cases) = body_value mark row >>= (λ fields. cases_value mark cases >>= (λ others. Ok (case_and name fields others)))

abbrev pub case_value : Mark → CaseForm → Result PlainCase Fault
case_value mark one = body_value mark one.row >>= (λ fields. Ok (record { name = one.name; row = fields }))

-- The statement.

abbrev pub two_value : Mark → Term → Term → Result Bounds Fault
two_value mark first last = constant_value mark first >>= (λ from. constant_value mark last >>= (λ to. Ok (Two from to)))

abbrev pub scope_value : Mark → ScopeForm → Result Bounds Fault
scope_value mark form.Any = Ok Any
scope_value mark (form.One id) = constant_value mark id >>= (λ value. Ok (One value))
scope_value mark (form.Two first last) = two_value mark first last

abbrev pub made_value : Mark → MadeForm → Result PlainMade Fault
made_value mark (form.Fields body) = body_value mark body >>= (λ fields. Ok (Fields fields))
made_value mark (form.CopyOf kind id) = given_value mark id >>= (λ value. Ok (CopyOf kind value))

-- the ids first, then what the type is
abbrev pub declared : Mark → DeclareForm → Result Declare Fault
declared mark stmt =
    scope_value mark stmt.scope >>= (λ bounds. made_value mark stmt.made >>= (λ made. Ok (record { kind = stmt.kind; bounds = bounds; made = made })))

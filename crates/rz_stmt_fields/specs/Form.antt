-- A `type` statement as it is written, with expressions where constants stand. (MPW Rez.)
use Rattle.std.specs.Prelude.{ℕ, ℤ, box_value, Bool, List, [], ◌∷◌, map, Option, option_map}
use Rattle.std.specs.Global.{Box}
use Rattle.rz_core.specs.declared.resource.Word.{Word}
use Rattle.rz_expr.specs.Term.{term_of, Term}
use Rattle.rz_expr.specs.declared.expr.Expr.{Expr}
use Rattle.rz_stmt_fields.specs.declared.form.ArrayExpr.{ArrayExpr}
use Rattle.rz_stmt_fields.specs.declared.form.CaseExpr.{CaseExpr}
use Rattle.rz_stmt_fields.specs.declared.form.DeclareExpr.{DeclareExpr}
use Rattle.rz_stmt_fields.specs.declared.form.FieldExpr.{FieldExpr}
use Rattle.rz_stmt_fields.specs.declared.form.FieldExpr.TheFolds.{fold-ArrayExpr, fold-CaseExpr, fold-FieldExpr}
use Rattle.rz_stmt_fields.specs.declared.form.FieldExpr.TheOpen.{ArrayExpr-F, CaseExpr-F, FieldExpr-F}
use Rattle.rz_stmt_fields.specs.declared.form.MadeExpr.{MadeExpr}
use Rattle.rz_stmt_fields.specs.declared.form.MadeExpr.TheVariants as ways
use Rattle.rz_stmt_fields.specs.declared.form.Named.{Named}
use Rattle.rz_stmt_fields.specs.declared.form.NumberExpr.{NumberExpr}
use Rattle.rz_stmt_fields.specs.declared.form.ScopeExpr.{ScopeExpr}
use Rattle.rz_stmt_fields.specs.declared.form.ScopeExpr.TheVariants as scopes
use Rattle.rz_stmt_fields.specs.declared.form.Width.{Width}
use Rattle.rz_stmt_fields.specs.declared.form.Width.TheVariants as widths
use Rattle.rz_types_fields.specs.Field.{plain_points, plain_text, PlainPoints, PlainText}
use Rattle.rz_types_fields.specs.declared.field.NumForm.{NumForm}
use Rattle.rz_types_fields.specs.declared.field.Radix.{Radix}

-- a name, and the value that is written for it
pub record NamedTerm : Type 0 where
  pub name : Word
  pub value : Option Term

-- the width that a type has, or one that is written
pub data WidthForm : Type 0 where
  Own : (bits : ℤ) → WidthForm
  Written : (term : Term) → WidthForm

pub record NumberForm : Type 0 where
  pub form : NumForm
  pub width : WidthForm
  pub unsigned : Bool
  pub radix : Radix
  pub symbols : List NamedTerm
  pub fixed : Option Term
  pub key : Bool

mutual
  pub data FieldForm : Type 0 where
    Number : (number : NumberForm) → FieldForm
    Text : (text : PlainText) → FieldForm
    Points : (points : PlainPoints) → FieldForm
    Fill : (unit : ℕ) (count : Option Term) → FieldForm
    Align : (unit : ℕ) → FieldForm
    Label : (name : Word) → FieldForm
    Array : (name : Option Word) (count : Option Term) (row : BodyForm) → FieldForm
    Switch : (cases : CasesForm) → FieldForm

  -- the fields of a declaration, of a row of an array or of a case, in order
  pub data BodyForm : Type 0 where
    no_fields : BodyForm
    field_and : (field : FieldForm) (others : BodyForm) → BodyForm

  -- the cases of a switch, in order
  pub data CasesForm : Type 0 where
    no_cases : CasesForm
    case_and : (name : Word) (row : BodyForm) (others : CasesForm) → CasesForm

pub data ScopeForm : Type 0 where
  Any : ScopeForm
  One : (id : Term) → ScopeForm
  Two : (first last : Term) → ScopeForm

-- fields, or what another type is
pub data MadeForm : Type 0 where
  Fields : (body : BodyForm) → MadeForm
  CopyOf : (kind : ℕ) (id : Option Term) → MadeForm

pub record DeclareForm : Type 0 where
  pub kind : ℕ
  pub scope : ScopeForm
  pub made : MadeForm

-- What the code holds.

abbrev pub named_of : Named → NamedTerm
named_of named = record { name = named.name; value = option_map term_of named.value }

abbrev pub boxed_term : Box Expr → Term
boxed_term expr = term_of (box_value expr)

abbrev pub width_form : Width → WidthForm
width_form (widths.Own bits) = Own bits
width_form (widths.Written expr) = Written (boxed_term expr)

abbrev pub number_form : NumberExpr → NumberForm
number_form number = record {
  form = number.form;
  width = width_form number.width;
  unsigned = number.unsigned;
  radix = number.radix;
  symbols = map named_of number.symbols;
  fixed = option_map boxed_term number.fixed;
  key = number.key;
}

abbrev pub body_of : List FieldForm → BodyForm
body_of [] = no_fields
body_of (field ∷ fields) = field_and field (body_of fields)

-- a case by itself
pub record CaseForm : Type 0 where
  pub name : Word
  pub row : BodyForm

abbrev pub cases_of : List CaseForm → CasesForm
cases_of [] = no_cases
cases_of (one ∷ cases) = case_and one.name one.row (cases_of cases)

abbrev pub array_step : ArrayExpr-F FieldForm FieldForm CaseForm → FieldForm
array_step array = Array array.name (option_map term_of array.count) (body_of array.row)

abbrev pub case_step : CaseExpr-F FieldForm FieldForm CaseForm → CaseForm
case_step one = record { name = one.name; row = body_of one.row }

abbrev pub field_step : FieldExpr-F FieldForm FieldForm CaseForm → FieldForm
field_step (FieldExpr-F.Number number) = Number (number_form number)
field_step (FieldExpr-F.Text text) = Text (plain_text (box_value text))
field_step (FieldExpr-F.Points points) = Points (plain_points points)
field_step (FieldExpr-F.Fill unit count) = Fill unit (option_map term_of count)
field_step (FieldExpr-F.Align unit) = Align unit
field_step (FieldExpr-F.Label name) = Label name
field_step (FieldExpr-F.Array array) = box_value array
field_step (FieldExpr-F.Switch cases) = Switch (cases_of cases)

abbrev pub field_form : FieldExpr → FieldForm
field_form = fold-FieldExpr FieldForm FieldForm CaseForm field_step array_step case_step

abbrev pub array_form : ArrayExpr → FieldForm
array_form = fold-ArrayExpr FieldForm FieldForm CaseForm field_step array_step case_step

abbrev pub case_form : CaseExpr → CaseForm
case_form = fold-CaseExpr FieldForm FieldForm CaseForm field_step array_step case_step

abbrev pub body_form : List FieldExpr → BodyForm
body_form fields = body_of (map field_form fields)

abbrev pub cases_form : List CaseExpr → CasesForm
cases_form cases = cases_of (map case_form cases)

abbrev pub scope_form : ScopeExpr → ScopeForm
scope_form scopes.Any = Any
scope_form (scopes.One id) = One (term_of id)
scope_form (scopes.Two first last) = Two (term_of first) (term_of last)

abbrev pub made_form : MadeExpr → MadeForm
made_form (ways.Fields body) = Fields (body_form body)
made_form (ways.Copy kind id) = CopyOf kind.code (option_map term_of id)

abbrev pub declare_form : DeclareExpr → DeclareForm
declare_form stmt = record { kind = stmt.kind.code; scope = scope_form stmt.scope; made = made_form stmt.made }

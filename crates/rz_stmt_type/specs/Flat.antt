-- Fields of type declarations with no fields of their own, texts among them, as they are written. (MPW Rez.)
use Rattle.std.specs.Prelude.{◌≡◌, Bool, true, false, List, [], ◌∷◌, Option, Some, None}
use Rattle.rz_stmt_brackets.specs.Bracket.{begins, IsBracketed}
use Rattle.rz_stmt_brackets.specs.Pieces.{Parted}
use Rattle.rz_stmt_brackets.specs.declared.bracket.Bracket.TheVariants.{Square}
use Rattle.rz_stmt_data.specs.Texts as texts
use Rattle.rz_expr.specs.Term.{Term}
use Rattle.rz_types_fields.specs.Field.{PlainText}
use Rattle.rz_types_fields.specs.Text.{PlainPart}
use Rattle.rz_types_fields.specs.declared.field.TextForm.{TextForm}
use Rattle.rz_types_fields.specs.declared.place.TextPlace.TheVariants as places
use Rattle.rz_stmt_fields.specs.FieldForm.{IsFieldFront}
use Rattle.rz_stmt_fields.specs.FieldFront.{IsFront}
use Rattle.rz_stmt_fields.specs.FieldValue.{is_equals, IsSizeExpression}
use Rattle.rz_stmt_fields.specs.FieldWord.{hex_of, text_form, FieldFront}
use Rattle.rz_stmt_fields.specs.Form.{FieldForm, Text}
use Rattle.rz_lex.specs.declared.token.Token.{Token}

-- Texts.

-- nothing, or `=` and a text
abbrev pub IsFixed : List Token → Option (List PlainPart) → Type 0
IsFixed [] fixed = fixed ≡ None
IsFixed (token ∷ tokens) fixed = (parts : List PlainPart) × (is_equals token.shape ≡ true) × texts.IsText places.Fixed tokens parts × (fixed ≡ Some parts)

-- with a size in brackets
abbrev pub IsSized : Bool → TextForm → List Token → PlainText → Type 0
IsSized hex form tokens text =
    (parted : Parted) × (size : Term) × (fixed : Option (List PlainPart)) × IsBracketed Square tokens parted × IsSizeExpression parted.front size
    × IsFixed parted.behind fixed × (text ≡ record { form = form; hex = hex; size = Some size; fixed = fixed })

-- without a size
abbrev pub IsUnsized : Bool → TextForm → List Token → PlainText → Type 0
IsUnsized hex form tokens text = (fixed : Option (List PlainPart)) × IsFixed tokens fixed × (text ≡ record { form = form; hex = hex; size = None; fixed = fixed })

abbrev pub IsTextBy : Bool → Bool → TextForm → List Token → PlainText → Type 0
IsTextBy true hex form tokens text = IsSized hex form tokens text
IsTextBy false hex form tokens text = IsUnsized hex form tokens text

abbrev pub IsText : Bool → TextForm → List Token → PlainText → Type 0
IsText hex form tokens text = IsTextBy (begins Square tokens) hex form tokens text

-- before a text stands `hex`, or nothing
abbrev pub IsTextField : TextForm → FieldFront → FieldForm → Type 0
IsTextField form front field =
    (hex : Bool) × (text : PlainText) × (hex_of front.unsigned front.radix ≡ Some hex) × IsText hex form front.tail text × (field ≡ Text text)

-- Fields.

-- a text, or another field with no fields of its own
abbrev pub IsFlatBy : Option TextForm → FieldFront → FieldForm → Type 0
IsFlatBy (Some form) front field = IsTextField form front field
IsFlatBy None front field = IsFieldFront front field

abbrev pub IsFlatFront : FieldFront → FieldForm → Type 0
IsFlatFront front field = IsFlatBy (text_form front.word) front field

-- the tokens are such a field: what stands before the word that says what it is, that word, and what stands after it
abbrev pub IsFlat : List Token → FieldForm → Type 0
IsFlat tokens field = (front : FieldFront) × IsFront tokens front × IsFlatFront front field

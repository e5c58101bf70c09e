-- Numbers of type declarations as they are written. (MPW Rez.)
use Rattle.std.specs.Prelude.{◌≡◌, ℤ, Bool, true, false, List, [], ◌∷◌, map, Option, Some, None, option_map}
use Rattle.rz_expr.specs.Term.{Term}
use Rattle.rz_lex.specs.declared.token.Token.{Token}
use Rattle.rz_stmt_brackets.specs.Bracket.{IsBracketed}
use Rattle.rz_stmt_brackets.specs.Pieces.{AreCut, Parted}
use Rattle.rz_stmt_brackets.specs.declared.bracket.Bracket.TheVariants.{Square}
use Rattle.rz_stmt_brackets.specs.declared.pieces.Divider.TheVariants.{Comma}
use Rattle.rz_stmt_fields.specs.Each.{AreEach}
use Rattle.rz_expr.specs.Constant.{IsConstant}
use Rattle.rz_stmt_fields.specs.FieldValue.{is_equals, IsFixedValue}
use Rattle.rz_stmt_fields.specs.FieldWord.{FieldFront}
use Rattle.rz_stmt_fields.specs.Form.{boxed_term, named_of, NamedTerm, NumberForm, Own, WidthForm, Written}
use Rattle.rz_stmt_fields.specs.Symbols.{IsSymbol}
use Rattle.rz_stmt_fields.specs.declared.number_field.Tail.{Tail}
use Rattle.rz_types_fields.specs.Range.{own_width}
use Rattle.rz_types_fields.specs.declared.field.NumForm.{NumForm}
use Rattle.rz_types_fields.specs.declared.field.Radix.{Radix}
use Rattle.rz_types_fields.specs.declared.field.Radix.TheVariants.{Plain}

-- What stands after the type: symbols, or the fixed value.

pub record NumberTail : Type 0 where
  pub symbols : List NamedTerm
  pub fixed : Option Term

abbrev pub tail_of : Tail → NumberTail
tail_of tail = record { symbols = map named_of tail.symbols; fixed = option_map boxed_term tail.fixed }

-- after `=` a fixed value
abbrev pub IsFixed : NumForm → List Token → NumberTail → Type 0
IsFixed form tokens tail = (term : Term) × IsFixedValue form tokens term × (tail ≡ record { symbols = []; fixed = Some term })

-- symbols with commas between them
abbrev pub AreNamed : NumForm → List Token → NumberTail → Type 0
AreNamed form tokens tail =
    (pieces : List (List Token)) × (symbols : List NamedTerm) × AreCut Comma tokens pieces × AreEach (IsSymbol form) pieces symbols
    × (tail ≡ record { symbols = symbols; fixed = None })

abbrev pub IsTailBy : Bool → NumForm → List Token → List Token → NumberTail → Type 0
IsTailBy true form tokens behind tail = IsFixed form behind tail
IsTailBy false form tokens behind tail = AreNamed form tokens tail

-- nothing, `=` and a fixed value, or symbols
abbrev pub IsTail : NumForm → List Token → NumberTail → Type 0
IsTail form [] tail = tail ≡ record { symbols = []; fixed = None }
IsTail form (token ∷ tokens) tail = IsTailBy (is_equals token.shape) form (token ∷ tokens) tokens tail

-- The number.

abbrev pub shown : Option Radix → Radix
shown (Some radix) = radix
shown None = Plain

-- the number of these parts, no key
abbrev pub numbered : NumForm → WidthForm → FieldFront → NumberTail → NumberForm
numbered form width front tail =
    record { form = form; width = width; unsigned = front.unsigned; radix = shown front.radix; symbols = tail.symbols; fixed = tail.fixed; key = false }

-- a number whose type says its width
abbrev pub IsOfWidth : NumForm → ℤ → FieldFront → NumberForm → Type 0
IsOfWidth form width front number = (tail : NumberTail) × IsTail form front.tail tail × (number ≡ numbered form (Own width) front tail)

-- a number whose width stands in brackets
abbrev pub IsBits : NumForm → FieldFront → NumberForm → Type 0
IsBits form front number =
    (parted : Parted) × (width : Term) × (tail : NumberTail) × IsBracketed Square front.tail parted × IsConstant parted.front width
    × IsTail form parted.behind tail × (number ≡ numbered form (Written width) front tail)

abbrev pub IsNumberBy : Option ℤ → NumForm → FieldFront → NumberForm → Type 0
IsNumberBy (Some width) form front number = IsOfWidth form width front number
IsNumberBy None form front number = IsBits form front number

-- a number of this type
abbrev pub IsNumber : NumForm → FieldFront → NumberForm → Type 0
IsNumber form front number = IsNumberBy (own_width form) form front number

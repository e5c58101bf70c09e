-- Numbers of declarations are well shaped.
use Rattle.std.proofs.Common.{◌≡◌, ℕ, ℤ, ◌&&◌, Bool, true, false, if◌then◌else◌, List, [], ◌∷◌, Option, Some, None, refl, sym, ap, subst, ◌∙◌}
use Rattle.std.proofs.lemmas.Option.{same_Some}
use Rattle.rz_core.specs.declared.resource.Word.{Word}
use Rattle.rz_expr.specs.Term.{Term}
use Rattle.rz_words.specs.Words.{is_name, role_of}
use Rattle.rz_lex.specs.Lexeme.{is_lexed, is_lexed_word, AreLexed}
use Rattle.rz_lex.specs.declared.token.Shape.{Shape}
use Rattle.rz_lex.specs.declared.token.Shape.TheVariants as shapes
use Rattle.rz_lex.specs.declared.token.Token.{Token}
use Rattle.rz_stmt_brackets.specs.declared.bracket.Bracket.TheVariants.{Square}
use Rattle.rz_stmt_brackets.specs.declared.pieces.Divider.TheVariants.{Comma}
use Rattle.rz_stmt_fields.specs.Each.{AreEach}
use Rattle.rz_stmt_fields.specs.FieldValue.{is_equals, one_byte, IsFixedExpression, IsFixedValue, IsValueBy}
use Rattle.rz_stmt_fields.specs.FieldWord.{FieldFront}
use Rattle.rz_stmt_fields.specs.Form.{NamedTerm, NumberForm, Own, WidthForm, Written}
use Rattle.rz_stmt_fields.specs.Key.{as_key, is_key_value}
use Rattle.rz_stmt_fields.specs.NumberField.{IsNumber, IsNumberBy, IsTail, IsTailBy, NumberTail}
use Rattle.rz_stmt_fields.specs.Symbols.{name_in, IsSymbol}
use Rattle.rz_stmt_fields.proofs.Pieces.{after_lexed, cut_lexed, AreAllLexed}
use Rattle.rz_types_fields.specs.Range.{own_width}
use Rattle.rz_types_fields.specs.Shape.{is_symbol_name, may_be_key}
use Rattle.rz_types_fields.specs.Value.{is_fixed_expression}
use Rattle.rz_types_fields.specs.declared.field.NumForm.{NumForm}

value_by : (found : Option ℕ) (tokens : List Token) (term : Term) → IsValueBy IsFixedExpression found tokens term → is_fixed_expression term ≡ true
value_by (Some byte) tokens term is = ap is_fixed_expression is
value_by None tokens term is = is.1

value_field : (form : NumForm) (tokens : List Token) (term : Term) → IsFixedValue form tokens term → is_fixed_expression term ≡ true
value_field form tokens term is = value_by (one_byte form tokens) tokens term is

-- Names of symbols.

name_shaped : (bytes : List ℕ) → is_lexed_word bytes ≡ true → is_name (role_of bytes) ≡ true → is_symbol_name bytes ≡ true
name_shaped bytes lexed name = λ i. lexed i && name i

pub name_of : (shape : Shape) (word : Word) → is_lexed shape ≡ true → name_in shape ≡ Some word → is_symbol_name word.bytes ≡ true
name_of (shapes.Word own) word lexed is = by (is_name (role_of own.bytes)) refl is
  where
    by : (b : Bool) → is_name (role_of own.bytes) ≡ b → (if b then Some own else None) ≡ Some word → is_symbol_name word.bytes ≡ true
    by true name some = subst (λ (w : Word). is_symbol_name w.bytes ≡ true) (same_Some own word some) (name_shaped own.bytes lexed name)
    by false name none = cc
name_of (shapes.Number number) word lexed is = cc
name_of (shapes.Literal bytes) word lexed is = cc
name_of (shapes.Text bytes) word lexed is = cc
name_of (shapes.Sign sign) word lexed is = cc

abbrev pub AreNamesShaped : List NamedTerm → Type 0
AreNamesShaped [] = Unit {0}
AreNamesShaped (symbol ∷ symbols) = (is_symbol_name symbol.name.bytes ≡ true) × AreNamesShaped symbols

symbol_name : (form : NumForm) (tokens : List Token) (symbol : NamedTerm) → IsSymbol form tokens symbol → AreLexed tokens → is_symbol_name symbol.name.bytes ≡ true
symbol_name form [] symbol is are = absurd is
symbol_name form (token ∷ tokens) symbol is are = name_of token.shape symbol.name are.0 is.0

each_name : (form : NumForm) (pieces : List (List Token)) (symbols : List NamedTerm) → AreEach (IsSymbol form) pieces symbols → AreAllLexed pieces → AreNamesShaped symbols
each_name form [] symbols is are = subst AreNamesShaped (sym is) tt
each_name form (piece ∷ pieces) symbols is are =
    subst AreNamesShaped (sym is.4) (symbol_name form piece is.0 is.2 are.0, each_name form pieces is.1 is.3 are.1)

-- What stands after the type.

abbrev pub IsFixedShaped : List NamedTerm → Option Term → Type 0
IsFixedShaped symbols None = Unit {0}
IsFixedShaped symbols (Some term) = (is_fixed_expression term ≡ true) × (symbols ≡ [])

pub record IsTailShaped (tail : NumberTail) : Type 0 where
  pub names : AreNamesShaped tail.symbols
  pub fixed : IsFixedShaped tail.symbols tail.fixed

tail_by : (equals : Bool) (form : NumForm) (tokens behind : List Token) (tail : NumberTail) → IsTailBy equals form tokens behind tail → AreLexed tokens → IsTailShaped tail
tail_by true form tokens behind tail is are =
    subst IsTailShaped (sym is.2) (record { names = tt; fixed = (value_field form behind is.0 is.1, refl) })
tail_by false form tokens behind tail is are =
    subst IsTailShaped (sym is.4) (record { names = each_name form is.0 is.1 is.3 (cut_lexed Comma tokens is.0 is.2 are); fixed = tt })

tail_shaped : (form : NumForm) (tokens : List Token) (tail : NumberTail) → IsTail form tokens tail → AreLexed tokens → IsTailShaped tail
tail_shaped form [] tail is are = subst IsTailShaped (sym is) (record { names = tt; fixed = tt })
tail_shaped form (token ∷ tokens) tail is are = tail_by (is_equals token.shape) form (token ∷ tokens) tokens tail is are

-- Numbers as they are written.

-- a width of its own, or one that is written where the type has none
abbrev pub IsWidthOf : NumForm → WidthForm → Type 0
IsWidthOf form (Own bits) = own_width form ≡ Some bits
IsWidthOf form (Written term) = own_width form ≡ None

pub record IsNumberFormed (number : NumberForm) : Type 0 where
  pub width : IsWidthOf number.form number.width
  pub names : AreNamesShaped number.symbols
  pub fixed : IsFixedShaped number.symbols number.fixed

number_by : (width : Option ℤ) (form : NumForm) (front : FieldFront) (number : NumberForm) → own_width form ≡ width → IsNumberBy width form front number
    → AreLexed front.tail → IsNumberFormed number
number_by (Some width) form front number own is are =
    let tail = tail_shaped form front.tail is.0 is.1 are in
    subst IsNumberFormed (sym is.2) (record { width = own; names = tail.names; fixed = tail.fixed })
number_by None form front number own is are =
    let tail = tail_shaped form is.0.behind is.2 is.5 (after_lexed Square front.tail is.0 is.3 are) in
    subst IsNumberFormed (sym is.6) (record { width = own; names = tail.names; fixed = tail.fixed })

-- a key has a type that may be one and a constant as its value, and stands directly in a case
abbrev pub IsKeyFormedBy : Bool → Bool → NumForm → Option Term → Type 0
IsKeyFormedBy false in_case form fixed = Unit {0}
IsKeyFormedBy true in_case form fixed = (in_case ≡ true) × (may_be_key form ≡ true) × (is_key_value fixed ≡ true)

abbrev pub IsKeyFormed : Bool → NumberForm → Type 0
IsKeyFormed in_case number = IsKeyFormedBy number.key in_case number.form number.fixed

number_no_key : (width : Option ℤ) (form : NumForm) (front : FieldFront) (number : NumberForm) → IsNumberBy width form front number → (number.form ≡ form) × (number.key ≡ false)
number_no_key (Some width) form front number is = (ap (λ (n : NumberForm). n.form) is.2, ap (λ (n : NumberForm). n.key) is.2)
number_no_key None form front number is = (ap (λ (n : NumberForm). n.form) is.6, ap (λ (n : NumberForm). n.key) is.6)

-- any other number
pub no_key_formed : (form : NumForm) (front : FieldFront) (number : NumberForm) (in_case : Bool) → IsNumber form front number → IsKeyFormed in_case number
no_key_formed form front number in_case is =
    subst (λ (key : Bool). IsKeyFormedBy key in_case number.form number.fixed) (sym (number_no_key (own_width form) form front number is).1) tt

pub key_formed : (form : NumForm) (front : FieldFront) (number : NumberForm) → may_be_key form ≡ true → IsNumber form front number → is_key_value number.fixed ≡ true
    → IsKeyFormed true (as_key number)
key_formed form front number may is value = (refl, ap may_be_key (number_no_key (own_width form) form front number is).0 ∙ may, value)

pub number_formed : (form : NumForm) (front : FieldFront) (number : NumberForm) → IsNumber form front number → AreLexed front.tail → IsNumberFormed number
number_formed form front number is are = number_by (own_width form) form front number refl is are

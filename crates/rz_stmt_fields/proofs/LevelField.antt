-- After the tokens of a field with no fields of its own as many brackets are open as before them.
use Rattle.std.proofs.Common.{◌≡◌, ℕ, ℤ, Bool, true, false, List, [], ◌∷◌, length, Option, Some, None, refl, sym, subst}
use Rattle.std.specs.List.{AllByRecursion}
use Rattle.std.proofs.lemmas.List.{nil_from_length}
use Rattle.rz_core.specs.declared.resource.Word.{Word}
use Rattle.rz_expr.specs.Constant.{IsConstant}
use Rattle.rz_expr.specs.Keyword.{keyword_in}
use Rattle.rz_expr.specs.Term.{Term}
use Rattle.rz_words.specs.declared.keyword.Keyword.{Keyword}
use Rattle.rz_lex.specs.declared.token.Shape.{Shape}
use Rattle.rz_lex.specs.declared.token.Token.{Token}
use Rattle.rz_stmt_brackets.specs.Pieces.{AreCut}
use Rattle.rz_stmt_brackets.specs.declared.bracket.Bracket.TheVariants.{Curly, Square}
use Rattle.rz_stmt_brackets.specs.declared.pieces.Divider.TheVariants.{Comma}
use Rattle.rz_stmt_fields.specs.Each.{AreEach}
use Rattle.rz_stmt_fields.specs.FieldForm.{align_of, AreNumbers, IsFieldFront, IsFieldOf, IsFill, IsFillOf, IsPoints}
use Rattle.rz_stmt_fields.specs.FieldFront.{AreModifiers, IsFront}
use Rattle.rz_stmt_fields.specs.FieldValue.{byte_in, is_equals, one_byte, IsFixedExpression, IsFixedValue, IsSymbolValue, IsValueBy}
use Rattle.rz_stmt_fields.specs.FieldWord.{align_unit, field_word_in, modifier_in, unit_in, FieldFront}
use Rattle.rz_stmt_fields.specs.Form.{FieldForm, NamedTerm, NumberForm}
use Rattle.rz_stmt_fields.specs.Key.{IsKey, IsKeyOf}
use Rattle.rz_stmt_fields.specs.NumberField.{IsNumberBy, IsTail, IsTailBy, NumberTail}
use Rattle.rz_stmt_fields.specs.Symbols.{name_in, IsGiven, IsSymbol}
use Rattle.rz_stmt_fields.specs.declared.field_word.FieldWord.{FieldWord}
use Rattle.rz_stmt_fields.specs.declared.field_word.FieldWord.TheVariants as words
use Rattle.rz_stmt_fields.specs.declared.field_word.Modifier.{Modifier}
use Rattle.rz_stmt_fields.proofs.Level.{level_bracketed, level_cut, level_derives, level_join, level_more, level_nil, plain_by, IsLevel, IsPlain}
use Rattle.rz_types_fields.specs.Field.{PlainPoints}
use Rattle.rz_types_fields.specs.Range.{own_width}
use Rattle.rz_types_fields.specs.declared.field.NumForm.{NumForm}
use Rattle.rz_types_fields.specs.declared.field.NumForm.TheVariants.{Char}

-- Words and signs.

pub keyword_plain : (word : Keyword) (shape : Shape) → keyword_in shape ≡ Some word → IsPlain shape
keyword_plain word = plain_by (λ s. keyword_in s ≡ Some word) ((λ h. cc), (λ h. cc), (λ h. cc), (λ h. cc), (λ h. cc), (λ h. cc))

modifier_plain : (modifier : Modifier) (shape : Shape) → modifier_in shape ≡ Some modifier → IsPlain shape
modifier_plain modifier = plain_by (λ s. modifier_in s ≡ Some modifier) ((λ h. cc), (λ h. cc), (λ h. cc), (λ h. cc), (λ h. cc), (λ h. cc))

word_plain : (word : FieldWord) (shape : Shape) → field_word_in shape ≡ Some word → IsPlain shape
word_plain word = plain_by (λ s. field_word_in s ≡ Some word) ((λ h. cc), (λ h. cc), (λ h. cc), (λ h. cc), (λ h. cc), (λ h. cc))

unit_plain : (unit : ℕ) (shape : Shape) → unit_in shape ≡ Some unit → IsPlain shape
unit_plain unit = plain_by (λ s. unit_in s ≡ Some unit) ((λ h. cc), (λ h. cc), (λ h. cc), (λ h. cc), (λ h. cc), (λ h. cc))

align_plain : (unit : ℕ) (shape : Shape) → align_unit (unit_in shape) ≡ Some unit → IsPlain shape
align_plain unit = plain_by (λ s. align_unit (unit_in s) ≡ Some unit) ((λ h. cc), (λ h. cc), (λ h. cc), (λ h. cc), (λ h. cc), (λ h. cc))

pub name_plain : (name : Word) (shape : Shape) → name_in shape ≡ Some name → IsPlain shape
name_plain name = plain_by (λ s. name_in s ≡ Some name) ((λ h. cc), (λ h. cc), (λ h. cc), (λ h. cc), (λ h. cc), (λ h. cc))

byte_plain : (byte : ℕ) (shape : Shape) → byte_in shape ≡ Some byte → IsPlain shape
byte_plain byte = plain_by (λ s. byte_in s ≡ Some byte) ((λ h. cc), (λ h. cc), (λ h. cc), (λ h. cc), (λ h. cc), (λ h. cc))

pub equals_plain : (shape : Shape) → is_equals shape ≡ true → IsPlain shape
equals_plain = plain_by (λ s. is_equals s ≡ true) ((λ h. cc), (λ h. cc), (λ h. cc), (λ h. cc), (λ h. cc), (λ h. cc))

-- Parts of fields.

empty_level : (tokens : List Token) → length tokens ≡ 0 → IsLevel tokens
empty_level tokens is = subst IsLevel (sym (nil_from_length tokens is)) level_nil

pub comma_cut : (tokens : List Token) (pieces : List (List Token)) → AreCut Comma tokens pieces → AllByRecursion IsLevel pieces → IsLevel tokens
comma_cut = level_cut Comma ((λ h. cc), (λ h. cc), (λ h. cc), (λ h. cc), (λ h. cc), (λ h. cc))

each_level : {X : Type 0} (Is : List Token → X → Type 0) → ((piece : List Token) (one : X) → Is piece one → IsLevel piece)
    → (pieces : List (List Token)) (all : List X) → AreEach Is pieces all → AllByRecursion IsLevel pieces
each_level Is level [] all are = tt
each_level Is level (piece ∷ pieces) all are = (level piece are.0 are.2, each_level Is level pieces are.1 are.3)

-- Values.

one_level : (form : NumForm) (tokens : List Token) (byte : ℕ) → one_byte form tokens ≡ Some byte → IsLevel tokens
one_level Char (token ∷ []) byte is = level_more token [] (byte_plain byte token.shape is) level_nil
one_level form tokens byte is = absurd cc

value_level : (Is : List Token → Term → Type 0) (found : Option ℕ) (tokens : List Token) (term : Term) → ((byte : ℕ) → found ≡ Some byte → IsLevel tokens)
    → (Is tokens term → IsLevel tokens) → IsValueBy Is found tokens term → IsLevel tokens
value_level Is (Some byte) tokens term one other is = one byte refl
value_level Is None tokens term one other is = other is

fixed_level : (form : NumForm) (tokens : List Token) (term : Term) → IsFixedValue form tokens term → IsLevel tokens
fixed_level form tokens term = value_level IsFixedExpression (one_byte form tokens) tokens term (one_level form tokens) (λ is. level_derives is.0)

symbol_value_level : (form : NumForm) (tokens : List Token) (term : Term) → IsSymbolValue form tokens term → IsLevel tokens
symbol_value_level form tokens term = value_level IsConstant (one_byte form tokens) tokens term (one_level form tokens) (λ is. level_derives is.0)

given_level : (form : NumForm) (tokens : List Token) (value : Option Term) → IsGiven form tokens value → IsLevel tokens
given_level form [] value is = level_nil
given_level form (token ∷ tokens) value is = level_more token tokens (equals_plain token.shape is.0) (symbol_value_level form tokens is.1 is.2)

symbol_level : (form : NumForm) (tokens : List Token) (symbol : NamedTerm) → IsSymbol form tokens symbol → IsLevel tokens
symbol_level form [] symbol is = absurd is
symbol_level form (token ∷ tokens) symbol is = level_more token tokens (name_plain symbol.name token.shape is.0) (given_level form tokens symbol.value is.1)

-- Numbers.

tail_by : (equals : Bool) (form : NumForm) (token : Token) (tokens : List Token) (tail : NumberTail) → is_equals token.shape ≡ equals
    → IsTailBy equals form (token ∷ tokens) tokens tail → IsLevel (token ∷ tokens)
tail_by true form token tokens tail here is = level_more token tokens (equals_plain token.shape here) (fixed_level form tokens is.0 is.1)
tail_by false form token tokens tail here is = comma_cut (token ∷ tokens) is.0 is.2 (each_level (IsSymbol form) (symbol_level form) is.0 is.1 is.3)

number_tail : (form : NumForm) (tokens : List Token) (tail : NumberTail) → IsTail form tokens tail → IsLevel tokens
number_tail form [] tail is = level_nil
number_tail form (token ∷ tokens) tail is = tail_by (is_equals token.shape) form token tokens tail refl is

number_by : (width : Option ℤ) (form : NumForm) (front : FieldFront) (number : NumberForm) → IsNumberBy width form front number → IsLevel front.tail
number_by (Some width) form front number is = number_tail form front.tail is.0 is.1
number_by None form front number is = level_bracketed Square front.tail is.0 is.3 (level_derives is.4.0) (number_tail form is.0.behind is.2 is.5)

-- Points and rectangles.

numbers_level : (rect : Bool) (tokens : List Token) (terms : List Term) → AreNumbers rect tokens terms → IsLevel tokens
numbers_level rect tokens terms is = comma_cut tokens is.0 is.1 (each_level IsFixedExpression (λ piece term one. level_derives one.0) is.0 terms is.3)

points_level : (rect : Bool) (tokens : List Token) (points : PlainPoints) → IsPoints rect tokens points → IsLevel tokens
points_level rect [] points is = level_nil
points_level rect (token ∷ tokens) points is =
    level_more token tokens (equals_plain token.shape is.2)
    (level_bracketed Curly tokens is.0 is.3 (numbers_level rect is.0.front is.1 is.5) (empty_level is.0.behind is.4))

-- Filling.

fill_of : (unit : ℕ) (tokens : List Token) (field : FieldForm) → IsFillOf unit tokens field → IsLevel tokens
fill_of unit [] field is = level_nil
fill_of unit (token ∷ tokens) field is =
    let count = is.1 in
    level_bracketed Square (token ∷ tokens) count.0 count.1 (level_derives count.3.0) (empty_level count.0.behind count.2)

fill_level : (tokens : List Token) (field : FieldForm) → IsFill tokens field → IsLevel tokens
fill_level [] field is = absurd is
fill_level (token ∷ tokens) field is = level_more token tokens (unit_plain is.0 token.shape is.1) (fill_of is.0 tokens field is.2)

align_level : (tokens : List Token) (unit : ℕ) → align_of tokens ≡ Some unit → IsLevel tokens
align_level [] unit is = level_nil
align_level (token ∷ []) unit is = level_more token [] (align_plain unit token.shape is) level_nil
align_level (token ∷ other ∷ tokens) unit is = absurd cc

-- Fields.

modifiers_level : (tokens : List Token) (modifiers : List Modifier) → AreModifiers tokens modifiers → IsLevel tokens
modifiers_level [] [] are = level_nil
modifiers_level [] (modifier ∷ modifiers) are = absurd are
modifiers_level (token ∷ tokens) [] are = absurd are
modifiers_level (token ∷ tokens) (modifier ∷ modifiers) are = level_more token tokens (modifier_plain modifier token.shape are.0) (modifiers_level tokens modifiers are.1)

pub front_level : (tokens : List Token) (front : FieldFront) → IsFront tokens front → IsLevel front.tail → IsLevel tokens
front_level tokens front is tail =
    subst IsLevel (sym is.are)
    (level_join is.words (is.last ∷ front.tail) (modifiers_level is.words is.modifiers is.are_modifiers)
    (level_more is.last front.tail (word_plain front.word is.last.shape is.word) tail))

field_of : (word : FieldWord) (front : FieldFront) (field : FieldForm) → IsFieldOf word front field → IsLevel front.tail
field_of (words.Number form) front field is = number_by (own_width form) form front is.0 is.1
field_of (words.Text form) front field is = absurd is
field_of (words.Points rect) front field is = points_level rect front.tail is.0 is.2
field_of words.Fill front field is = fill_level front.tail field is.1
field_of words.Align front field is = align_level front.tail is.0 is.2

pub field_level : (front : FieldFront) (field : FieldForm) → IsFieldFront front field → IsLevel front.tail
field_level front field is = field_of front.word front field is

key_of : (word : FieldWord) (front : FieldFront) (field : FieldForm) → IsKeyOf word front field → IsLevel front.tail
key_of (words.Number form) front field is = number_by (own_width form) form front is.1.0 is.1.1
key_of word front field is = absurd is

pub key_level : (tokens : List Token) (field : FieldForm) → IsKey tokens field → IsLevel tokens
key_level tokens field is = front_level tokens is.0 is.1 (key_of is.0.word is.0 field is.2)

-- The words of fields. Case doesn't matter. (MPW Rez.)
use Rattle.std.specs.Prelude.{ℕ, ◌==◌, Bool, true, false, if◌then◌else◌, List, [], ◌∷◌, Option, Some, None, option_and_then, option_map}
use Rattle.rz_expr.specs.Keyword.{keyword_in}
use Rattle.rz_words.specs.declared.keyword.Keyword.{Keyword}
use Rattle.rz_words.specs.declared.keyword.Keyword.TheVariants as keywords
use Rattle.rz_lex.specs.declared.token.Shape.{Shape}
use Rattle.rz_lex.specs.declared.token.Token.{Token}
use Rattle.rz_stmt_fields.specs.declared.field_word.FieldWord.{FieldWord}
use Rattle.rz_stmt_fields.specs.declared.field_word.FieldWord.TheVariants.{Align, Fill, Number, Points, Text}
use Rattle.rz_stmt_fields.specs.declared.field_word.Modifier.{Modifier}
use Rattle.rz_stmt_fields.specs.declared.field_word.Modifier.TheVariants.{Shown, Unsigned}
use Rattle.rz_types_fields.specs.declared.field.NumForm.TheVariants as forms
use Rattle.rz_types_fields.specs.declared.field.Radix.{Radix}
use Rattle.rz_types_fields.specs.declared.field.Radix.TheVariants as radixes
use Rattle.rz_types_fields.specs.declared.field.TextForm.{TextForm}
use Rattle.rz_types_fields.specs.declared.field.TextForm.TheVariants as texts

-- the word that says what a field is
abbrev pub field_word : Keyword → Option FieldWord
field_word keywords.Bitstring = Some (Number forms.Bits)
field_word keywords.Byte = Some (Number forms.Byte)
field_word keywords.Integer = Some (Number forms.Integer)
field_word keywords.Longint = Some (Number forms.Longint)
field_word keywords.Boolean = Some (Number forms.Boolean)
field_word keywords.Char = Some (Number forms.Char)
field_word keywords.String = Some (Text texts.Open)
field_word keywords.Pstring = Some (Text texts.Pascal)
field_word keywords.Wstring = Some (Text texts.WordLong)
field_word keywords.Cstring = Some (Text texts.Zero)
field_word keywords.Point = Some (Points false)
field_word keywords.Rect = Some (Points true)
field_word keywords.Fill = Some Fill
field_word keywords.Align = Some Align
field_word keyword = None

abbrev pub field_word_in : Shape → Option FieldWord
field_word_in shape = option_and_then field_word (keyword_in shape)

-- the type of a text
abbrev pub text_form : FieldWord → Option TextForm
text_form (Text form) = Some form
text_form word = None

-- a word before the type of a number
abbrev pub modifier_word : Keyword → Option Modifier
modifier_word keywords.Unsigned = Some Unsigned
modifier_word keywords.Hex = Some (Shown radixes.Hex)
modifier_word keywords.Decimal = Some (Shown radixes.Decimal)
modifier_word keywords.Octal = Some (Shown radixes.Octal)
modifier_word keywords.Binary = Some (Shown radixes.Binary)
modifier_word keywords.Literal = Some (Shown radixes.Literal)
modifier_word keyword = None

abbrev pub modifier_in : Shape → Option Modifier
modifier_in shape = option_and_then modifier_word (keyword_in shape)

-- what stands before the word that says what a field is, that word, and what stands after it
pub record FieldFront : Type 0 where
  pub unsigned : Bool
  pub radix : Option Radix
  pub word : FieldWord
  pub tail : List Token

-- one radix at most
abbrev pub unless_shown : Option Radix → Option FieldFront → Option FieldFront
unless_shown None front = front
unless_shown (Some radix) front = None

abbrev pub by_modifier : Option Modifier → Bool → Option Radix → (Bool → Option Radix → Option FieldFront) → Option FieldFront → Option FieldFront
by_modifier (Some Unsigned) unsigned radix more here = if unsigned then None else more true radix
by_modifier (Some (Shown shown)) unsigned radix more here = unless_shown radix (more unsigned (Some shown))
by_modifier None unsigned radix more here = here

-- the front of a field, in which `unsigned` and a radix stand once each at most, in either order
abbrev pub front_in : Bool → Option Radix → List Token → Option FieldFront
front_in unsigned radix [] = None
front_in unsigned radix (token ∷ tokens) =
    by_modifier (modifier_in token.shape) unsigned radix (λ signs shown. front_in signs shown tokens)
    (option_map (λ word. record { unsigned = unsigned; radix = radix; word = word; tail = tokens }) (field_word_in token.shape))

-- whether `hex` alone stands before a word; no other word may
abbrev pub hex_of : Bool → Option Radix → Option Bool
hex_of true radix = None
hex_of false None = Some false
hex_of false (Some radixes.Hex) = Some true
hex_of false (Some radix) = None

-- units in bits
abbrev pub unit_word : Keyword → Option ℕ
unit_word keywords.Bit = Some 1
unit_word keywords.Nibble = Some 4
unit_word keywords.Byte = Some 8
unit_word keywords.Word = Some 16
unit_word keywords.Long = Some 32
unit_word keyword = None

abbrev pub unit_in : Shape → Option ℕ
unit_in shape = option_and_then unit_word (keyword_in shape)

-- each unit but the bit
abbrev pub align_unit : Option ℕ → Option ℕ
align_unit None = None
align_unit (Some bits) = if bits == 1 then None else Some bits

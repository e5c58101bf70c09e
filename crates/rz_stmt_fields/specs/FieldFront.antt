-- What stands before the word that says what a field is, in the words of the language. (MPW Rez.)
use Rattle.std.specs.Prelude.{◌≡◌, Bool, true, false, List, [], ◌∷◌, ◌++◌, Option, Some, None}
use Rattle.rz_lex.specs.declared.token.Token.{Token}
use Rattle.rz_stmt_fields.specs.FieldWord.{field_word_in, modifier_in, FieldFront}
use Rattle.rz_stmt_fields.specs.declared.field_word.Modifier.{Modifier}
use Rattle.rz_stmt_fields.specs.declared.field_word.Modifier.TheVariants.{Shown, Unsigned}
use Rattle.rz_types_fields.specs.declared.field.Radix.{Radix}

-- the tokens are these words
abbrev pub AreModifiers : List Token → List Modifier → Type 0
AreModifiers [] [] = Unit {0}
AreModifiers (token ∷ tokens) (modifier ∷ modifiers) = (modifier_in token.shape ≡ Some modifier) × AreModifiers tokens modifiers
AreModifiers tokens modifiers = ⊥

-- `unsigned` and a radix, once each at most, in either order
pub data Say : List Modifier → Bool → Option Radix → Type 0 where
  nothing : Say [] false None
  unsigned : Say (Unsigned ∷ []) true None
  shown : (radix : Radix) → Say (Shown radix ∷ []) false (Some radix)
  unsigned_shown : (radix : Radix) → Say (Unsigned ∷ Shown radix ∷ []) true (Some radix)
  shown_unsigned : (radix : Radix) → Say (Shown radix ∷ Unsigned ∷ []) true (Some radix)

-- the tokens are such words, the word that says what the field is, and what stands after it
pub record IsFront (tokens : List Token) (front : FieldFront) : Type 0 where
  pub words : List Token
  pub modifiers : List Modifier
  pub last : Token
  pub are : tokens ≡ words ++ last ∷ front.tail
  pub are_modifiers : AreModifiers words modifiers
  pub say : Say modifiers front.unsigned front.radix
  pub no_modifier : modifier_in last.shape ≡ None
  pub word : field_word_in last.shape ≡ Some front.word

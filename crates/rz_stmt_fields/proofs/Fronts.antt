-- The front of a field is its words, once each at most.
use Rattle.std.proofs.Common.{◌≡◌, Bool, true, false, List, [], ◌∷◌, ◌++◌, Option, Some, None, refl, ap, subst, ◌∙◌}
use Rattle.std.specs.Prelude.{◌↔◌, option_map}
use Rattle.rz_lex.specs.declared.token.Token.{Token}
use Rattle.rz_stmt_fields.specs.FieldFront.{nothing, shown, shown_unsigned, unsigned, unsigned_shown, AreModifiers, IsFront, Say}
use Rattle.rz_stmt_fields.specs.FieldWord.{by_modifier, field_word_in, front_in, modifier_in, FieldFront}
use Rattle.rz_stmt_fields.specs.declared.field_word.FieldWord.{FieldWord}
use Rattle.rz_stmt_fields.specs.declared.field_word.Modifier.{Modifier}
use Rattle.rz_stmt_fields.specs.declared.field_word.Modifier.TheVariants.{Shown, Unsigned}
use Rattle.rz_types_fields.specs.declared.field.Radix.{Radix}

-- words that may stand after some, and what is said by all of them
data Adds : Bool → Option Radix → List Modifier → Bool → Option Radix → Type 0 where
  none : {signs : Bool} {radix : Option Radix} → Adds signs radix [] signs radix
  one_unsigned : {signs : Bool} {radix last : Option Radix} {more : List Modifier} → Adds true radix more signs last → Adds false radix (Unsigned ∷ more) signs last
  one_shown : {before signs : Bool} {last : Option Radix} {more : List Modifier} (radix : Radix) → Adds before (Some radix) more signs last
      → Adds before None (Shown radix ∷ more) signs last

behind_unsigned : (more : List Modifier) (signs : Bool) (last : Option Radix) → Adds true None more signs last → Say (Unsigned ∷ more) signs last
behind_unsigned more signs last none = unsigned
behind_unsigned more signs last (one_shown radix none) = unsigned_shown radix

behind_shown : (more : List Modifier) (signs : Bool) (last : Option Radix) (radix : Radix) → Adds false (Some radix) more signs last → Say (Shown radix ∷ more) signs last
behind_shown more signs last radix none = shown radix
behind_shown more signs last radix (one_unsigned none) = shown_unsigned radix

to_say : (modifiers : List Modifier) (signs : Bool) (last : Option Radix) → Adds false None modifiers signs last → Say modifiers signs last
to_say modifiers signs last none = nothing
to_say modifiers signs last (one_unsigned more) = behind_unsigned _ signs last more
to_say modifiers signs last (one_shown radix more) = behind_shown _ signs last radix more

to_adds : (modifiers : List Modifier) (signs : Bool) (last : Option Radix) → Say modifiers signs last → Adds false None modifiers signs last
to_adds modifiers signs last nothing = none
to_adds modifiers signs last unsigned = one_unsigned none
to_adds modifiers signs last (shown radix) = one_shown radix none
to_adds modifiers signs last (unsigned_shown radix) = one_unsigned (one_shown radix none)
to_adds modifiers signs last (shown_unsigned radix) = one_shown radix (one_unsigned none)

-- the front after some words
record Onward (signs : Bool) (radix : Option Radix) (tokens : List Token) (front : FieldFront) : Type 0 where
  words : List Token
  modifiers : List Modifier
  last : Token
  are : tokens ≡ words ++ last ∷ front.tail
  are_modifiers : AreModifiers words modifiers
  adds : Adds signs radix modifiers front.unsigned front.radix
  no_modifier : modifier_in last.shape ≡ None
  word : field_word_in last.shape ≡ Some front.word

here : (signs : Bool) (radix : Option Radix) (token : Token) (tokens : List Token) (front : FieldFront) → modifier_in token.shape ≡ None
    → (word : Option FieldWord) → field_word_in token.shape ≡ word
    → option_map (λ w. record { unsigned = signs; radix = radix; word = w; tail = tokens }) word ≡ Some front → Onward signs radix (token ∷ tokens) front
here signs radix token tokens front no_modifier None is made = cc
here signs radix token tokens front no_modifier (Some word) is made =
    let same : record { unsigned = signs; radix = radix; word = word; tail = tokens } ≡ front = cc in
    subst (Onward signs radix (token ∷ tokens)) same
    (record { words = []; modifiers = []; last = token; are = refl; are_modifiers = tt; adds = none; no_modifier = no_modifier; word = is })

behind_word : (signs next : Bool) (radix after : Option Radix) (modifier : Modifier) (token : Token) (tokens : List Token) (front : FieldFront)
    → modifier_in token.shape ≡ Some modifier
    → ((more : List Modifier) → Adds next after more front.unsigned front.radix → Adds signs radix (modifier ∷ more) front.unsigned front.radix)
    → Onward next after tokens front → Onward signs radix (token ∷ tokens) front
behind_word signs next radix after modifier token tokens front is adds it = record {
  words = token ∷ it.words;
  modifiers = modifier ∷ it.modifiers;
  last = it.last;
  are = ap (λ (ts : List Token). token ∷ ts) it.are;
  are_modifiers = (is, it.are_modifiers);
  adds = adds it.modifiers it.adds;
  no_modifier = it.no_modifier;
  word = it.word;
}

by_word : (signs : Bool) (radix : Option Radix) (token : Token) (tokens : List Token) (front : FieldFront)
    → ((next : Bool) (after : Option Radix) → front_in next after tokens ≡ Some front → Onward next after tokens front)
    → (modifier : Option Modifier) → modifier_in token.shape ≡ modifier
    → by_modifier modifier signs radix (λ next after. front_in next after tokens)
    (option_map (λ word. record { unsigned = signs; radix = radix; word = word; tail = tokens }) (field_word_in token.shape)) ≡ Some front
    → Onward signs radix (token ∷ tokens) front
by_word signs radix token tokens front rest None is made = here signs radix token tokens front is (field_word_in token.shape) refl made
by_word true radix token tokens front rest (Some Unsigned) is made = cc
by_word false radix token tokens front rest (Some Unsigned) is made =
    behind_word false true radix radix Unsigned token tokens front is (λ more adds. one_unsigned adds) (rest true radix made)
by_word signs None token tokens front rest (Some (Shown radix)) is made =
    behind_word signs signs None (Some radix) (Shown radix) token tokens front is (λ more adds. one_shown radix adds) (rest signs (Some radix) made)
by_word signs (Some other) token tokens front rest (Some (Shown radix)) is made = cc

onward : (tokens : List Token) (front : FieldFront) (signs : Bool) (radix : Option Radix) → front_in signs radix tokens ≡ Some front → Onward signs radix tokens front
onward [] front signs radix made = cc
onward (token ∷ tokens) front signs radix made =
    by_word signs radix token tokens front (onward tokens front) (modifier_in token.shape) refl made

-- And back.

module _ (last : Token) (tail : List Token) (word : FieldWord) (no_modifier : modifier_in last.shape ≡ None) (is : field_word_in last.shape ≡ Some word) where
  back : (words : List Token) (modifiers : List Modifier) (before signs : Bool) (radix said : Option Radix) → AreModifiers words modifiers → Adds before radix modifiers signs said
      → front_in before radix (words ++ last ∷ tail) ≡ Some (record { unsigned = signs; radix = said; word = word; tail = tail })
  back [] [] before signs radix said are none =
      (λ i. by_modifier (no_modifier i) before radix (λ next after. front_in next after tail)
      (option_map (λ w. record { unsigned = before; radix = radix; word = w; tail = tail }) (is i)))
  back (token ∷ words) (Unsigned ∷ more) before signs radix said are (one_unsigned adds) =
      ap (λ m. by_modifier m false radix (λ next after. front_in next after (words ++ last ∷ tail))
      (option_map (λ w. record { unsigned = false; radix = radix; word = w; tail = words ++ last ∷ tail }) (field_word_in token.shape))) are.0
      ∙ back words more true signs radix said are.1 adds
  back (token ∷ words) (Shown own ∷ more) before signs radix said are (one_shown same adds) =
      ap (λ m. by_modifier m before None (λ next after. front_in next after (words ++ last ∷ tail))
      (option_map (λ w. record { unsigned = before; radix = None; word = w; tail = words ++ last ∷ tail }) (field_word_in token.shape))) are.0
      ∙ back words more before signs (Some own) said are.1 adds
  back [] (modifier ∷ more) before signs radix said are adds = absurd are
  back (token ∷ words) [] before signs radix said are adds = absurd are

pub fronts : (tokens : List Token) (front : FieldFront) → (front_in false None tokens ≡ Some front) ↔ IsFront tokens front
fronts tokens front = (
  λ made. from (onward tokens front false None made),
  λ it. ap (front_in false None) it.are
      ∙ back it.last front.tail front.word it.no_modifier it.word it.words it.modifiers false front.unsigned None front.radix it.are_modifiers
      (to_adds it.modifiers front.unsigned front.radix it.say),
)
  where
    from : Onward false None tokens front → IsFront tokens front
    from it = record {
      words = it.words;
      modifiers = it.modifiers;
      last = it.last;
      are = it.are;
      are_modifiers = it.are_modifiers;
      say = to_say it.modifiers front.unsigned front.radix it.adds;
      no_modifier = it.no_modifier;
      word = it.word;
    }

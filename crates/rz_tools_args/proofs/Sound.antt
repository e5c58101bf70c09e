-- What each table of words keeps, and what follows of it: an option stands alone, or a value stands after it.
use Rattle.std.proofs.Common.{◌≡◌, inl, inr, ℕ, true, false, List, [], ◌∷◌, Option, Some, None, refl, sym, ap, ◌∙◌}
use Rattle.std.specs.Prelude.{◌&&◌, ◌||◌, leb, not, Bool, is_some, if◌then◌else◌}
use Rattle.std.specs.List.{list_all, list_any}
use Rattle.std.specs.Str.{bytes_eq}
use Rattle.std.proofs.lemmas.Bool.{and_parts, not-true, or_cases}
use Rattle.rz_core.proofs.Tests.{none_some}
use Rattle.rz_tools_args.specs.Command.{is_flag, is_place}
use Rattle.rz_tools_args.specs.Syntax.{command_named, commands, name_in, named, syntax_of, Syntax}
use Rattle.rz_tools_args.specs.declared.flag.Flag.{Flag}
use Rattle.rz_tools_args.specs.declared.flag.Switch.{Switch}
use Rattle.rz_tools_args.specs.declared.name.CommandName.{CommandName}
use Rattle.rz_tools_args.specs.declared.name.CommandName.TheVariants as names
use Rattle.rz_tools_args.specs.declared.syntax.Places.{Places}
use Rattle.rz_tools_args.specs.declared.syntax.Places.TheVariants as places
use Rattle.rz_tools_args.proofs.Found.{same_word}

-- a word outside options, or an option without a value
abbrev pub is_alone : Syntax → List ℕ → Bool
is_alone syntax word = is_place word || is_some (named syntax.switches word)

abbrev is_this : Flag → Option Flag → Bool
is_this flag None = false
is_this flag (Some other) = is_flag flag other

-- some word of the table stands for this option
abbrev pub is_spelled : Syntax → Flag → Bool
is_spelled syntax flag = list_any (λ entry. is_this flag (named syntax.flags entry.0)) syntax.flags

-- some words may stand outside options
abbrev pub can_be : Places → Bool
can_be (places.AtLeast count) = true
can_be (places.Exactly count) = true
can_be (places.Count most) = leb 1 most

-- Each option begins as no word outside options does, none has a value and has none, each that must be there has a word, and
-- what must stand outside options can stand there.
abbrev pub is_sound : Syntax → Bool
is_sound syntax =
    list_all (λ entry. not (is_alone syntax entry.0)) syntax.flags
    && (list_all (λ entry. not (is_place entry.0)) syntax.switches && (list_all (is_spelled syntax) syntax.needs && can_be syntax.places))

-- the commands

pub each_sound : (command : CommandName) → is_sound (syntax_of command) ≡ true
each_sound names.Rez = refl
each_sound names.DeRez = refl
each_sound names.Bridge = refl
each_sound names.Det = refl
each_sound names.List = refl
each_sound names.Strings = refl
each_sound names.Restring = refl
each_sound names.Sample = refl
each_sound names.Help = refl
each_sound names.Version = refl

pub each_named : (command : CommandName) → command_named (syntax_of command).name ≡ Some command
each_named names.Rez = refl
each_named names.DeRez = refl
each_named names.Bridge = refl
each_named names.Det = refl
each_named names.List = refl
each_named names.Strings = refl
each_named names.Restring = refl
each_named names.Sample = refl
each_named names.Help = refl
each_named names.Version = refl

-- Tables of words.

-- what a test says of each word of a table it says of a word that the table has
if_word : {X : Type 0} (test : List ℕ → Bool) (word spelled : List ℕ) (first : X) (others : Option X) (one : X) → test spelled ≡ true
    → (others ≡ Some one → test word ≡ true) → (if bytes_eq word spelled then Some first else others) ≡ Some one → test word ≡ true
if_word test word spelled first others one holds next is = by (bytes_eq word spelled) refl is
  where
    by : (same : Bool) → bytes_eq word spelled ≡ same → (if same then Some first else others) ≡ Some one → test word ≡ true
    by true same is = ap test (same_word word spelled same) ∙ holds
    by false same is = next is

all_named : {X : Type 0} (test : List ℕ → Bool) (table : List (List ℕ × X)) (word : List ℕ) (one : X) → list_all (λ entry. test entry.0) table ≡ true
    → named table word ≡ Some one → test word ≡ true
all_named test [] word one all is = absurd (none_some one is)
all_named test ((spelled, first) ∷ others) word one all is =
    let parts = and_parts (test spelled) (list_all (λ entry. test entry.0) others) all in
    if_word test word spelled first (named others word) one parts.0 (all_named test others word one parts.1) is

-- the word that names a command is its name
name_back : (listed : List CommandName) (word : List ℕ) (command : CommandName) → name_in listed word ≡ Some command → word ≡ (syntax_of command).name
name_back [] word command is = absurd (none_some command is)
name_back (one ∷ others) word command is = by (bytes_eq word (syntax_of one).name) refl (name_back others word command) is
  where
    by : (same : Bool) → bytes_eq word (syntax_of one).name ≡ same → (name_in others word ≡ Some command → word ≡ (syntax_of command).name)
        → (if same then Some one else name_in others word) ≡ Some command → word ≡ (syntax_of command).name
    by true same next is = same_word word (syntax_of one).name same ∙ ap (λ (c : CommandName). (syntax_of c).name) (it is)
      where
        it : ◌≡◌ {A = Option CommandName} (Some one) (Some command) → one ≡ command
        it is = cc is
    by false same next is = next is

pub named_back : (word : List ℕ) (command : CommandName) → command_named word ≡ Some command → word ≡ (syntax_of command).name
named_back = name_back commands

-- two commands of one name are one
pub same_command : (command other : CommandName) → (syntax_of command).name ≡ (syntax_of other).name → command ≡ other
same_command command other is = it (sym (each_named command) ∙ ap command_named is ∙ each_named other)
  where
    it : ◌≡◌ {A = Option CommandName} (Some command) (Some other) → command ≡ other
    it is = cc is

-- what an option that must be there is spelled as
pub record Spelled (syntax : Syntax) (flag : Flag) : Type 0 where
  pub word : List ℕ
  pub other : Flag
  pub is : named syntax.flags word ≡ Some other
  pub same : is_flag flag other ≡ true

module _ (syntax : Syntax) (sound : is_sound syntax ≡ true) where
  -- the tests in their parts
  parts : (list_all (λ entry. not (is_alone syntax entry.0)) syntax.flags ≡ true) × (list_all (λ entry. not (is_place entry.0)) syntax.switches ≡ true)
      × (list_all (is_spelled syntax) syntax.needs ≡ true) × (can_be syntax.places ≡ true)
  parts =
      let first = and_parts _ _ sound in
      let second = and_parts _ _ first.1 in
      let third = and_parts _ _ second.1 in
      (first.0, second.0, third.0, third.1)

  pub flag_apart : (word : List ℕ) (flag : Flag) → named syntax.flags word ≡ Some flag → is_alone syntax word ≡ false
  flag_apart word flag is = not-true (is_alone syntax word) (all_named (λ w. not (is_alone syntax w)) syntax.flags word flag parts.0 is)

  pub switch_no_place : (word : List ℕ) (switch : Switch) → named syntax.switches word ≡ Some switch → is_place word ≡ false
  switch_no_place word switch is = not-true (is_place word) (all_named (λ w. not (is_place w)) syntax.switches word switch parts.1 is)

  pub needs_spelled : list_all (is_spelled syntax) syntax.needs ≡ true
  needs_spelled = parts.2

  pub places_can_be : can_be syntax.places ≡ true
  places_can_be = parts.3

  -- an option that is spelled is so by a word
  here : (flag : Flag) (word : List ℕ) (found : Option Flag) → named syntax.flags word ≡ found → is_this flag found ≡ true → Spelled syntax flag
  here flag word None eq is = cc
  here flag word (Some other) eq is = record { word = word; other = other; is = eq; same = is }

  word_in : (flag : Flag) (entries : List (List ℕ × Flag)) → list_any (λ entry. is_this flag (named syntax.flags entry.0)) entries ≡ true → Spelled syntax flag
  word_in flag [] is = cc
  word_in flag ((spelled, one) ∷ entries) is = elim (or_cases _ _ is) [
    | inl first ↦ here flag spelled (named syntax.flags spelled) refl first
    | inr behind ↦ word_in flag entries behind
  ]

  pub word_of : (flag : Flag) → is_spelled syntax flag ≡ true → Spelled syntax flag
  word_of flag is = word_in flag syntax.flags is

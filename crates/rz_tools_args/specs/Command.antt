-- The commands. A word is its bytes in UTF-8.
use Rattle.std.specs.Prelude.{◌≡◌, ◌≢◌, ◌≤◌, ℕ, suc, ◌==◌, not, Bool, true, if◌then◌else◌, List, [], ◌∷◌, ◌++◌, length, take, codes, Option, Some, None}
use Rattle.std.specs.List.{AllByRecursion}
use Rattle.std.specs.Str.{bytes_eq}
use Rattle.rz_core.specs.Decimal.{decimal_of}
use Rattle.rz_core.specs.declared.resource.OsType.{OsType}
use Rattle.rz_bridge_files.specs.declared.form.Form as form
use Rattle.rz_bridge_files.specs.declared.form.Form.TheVariants as forms
use Rattle.rz_pre.specs.declared.program.Def.{Def}
use Rattle.rz_tools_args.specs.Definition.{Defines, Undefines}
use Rattle.rz_tools_args.specs.Kind.{IsKind}
use Rattle.rz_tools_args.specs.Syntax.{named, sort_of, syntax_of, Syntax}
use Rattle.rz_tools_args.specs.declared.flag.Flag.{Flag}
use Rattle.rz_tools_args.specs.declared.flag.Flag.TheVariants as flags
use Rattle.rz_tools_args.specs.declared.flag.Sort.{Sort}
use Rattle.rz_tools_args.specs.declared.flag.Sort.TheVariants as sorts
use Rattle.rz_tools_args.specs.declared.flag.Switch.{Switch}
use Rattle.rz_tools_args.specs.declared.name.CommandName.{CommandName}
use Rattle.rz_tools_args.specs.declared.syntax.Places.{Places}
use Rattle.rz_tools_args.specs.declared.syntax.Places.TheVariants as places

-- Items.

-- a word that may stand outside options: one that doesn't begin with `-`
abbrev pub is_place : List ℕ → Bool
is_place [] = true
is_place (b ∷ bs) = not (b == 45)

-- what an option says: a name, a definition, a type or creator, or a form
pub data Value : Type 0 where
  Name : (name : List ℕ) → Value
  Define : (def : Def) → Value
  Kind : (kind : OsType) → Value
  Form : (form : form.Form) → Value

-- a word that stands outside options, an option and what it says, an option without a value
pub data Item : Type 0 where
  Place : (word : List ℕ) → Item
  Valued : (flag : Flag) (value : Value) → Item
  On : (switch : Switch) → Item

-- the forms by their names
abbrev pub form_named : List ℕ → Option form.Form
form_named word =
    if bytes_eq word (codes "raw") then Some forms.Raw
    else if bytes_eq word (codes "double") then Some forms.AppleDouble
    else if bytes_eq word (codes "single") then Some forms.AppleSingle
    else if bytes_eq word (codes "macbin") then Some forms.MacBinary
    else if bytes_eq word (codes "hqx") then Some forms.BinHex
    else None

-- a word says this as a value of this sort
abbrev pub IsValue : Sort → List ℕ → Value → Type 0
IsValue sorts.Name word value = value ≡ Name word
IsValue sorts.Definition word value = (def : Def) × (value ≡ Define def) × Defines word def
IsValue sorts.Undefinition word value = (def : Def) × (value ≡ Define def) × Undefines word def
IsValue sorts.Kind word value = (kind : OsType) × (value ≡ Kind kind) × IsKind word kind
IsValue sorts.Form word value = (one : form.Form) × (value ≡ Form one) × (form_named word ≡ Some one)

-- these words are this item of a command that takes so much
pub data IsItem (syntax : Syntax) (words : List (List ℕ)) (item : Item) : Type 0 where
  place_item : (word : List ℕ) → words ≡ word ∷ [] → is_place word ≡ true → item ≡ Place word → IsItem syntax words item
  switch_item : (word : List ℕ) (switch : Switch) → words ≡ word ∷ [] → named syntax.switches word ≡ Some switch → item ≡ On switch
      → IsItem syntax words item
  value_item : (word spelled : List ℕ) (flag : Flag) (value : Value) → words ≡ word ∷ spelled ∷ [] → named syntax.flags word ≡ Some flag
      → IsValue (sort_of flag) spelled value → item ≡ Valued flag value → IsItem syntax words item

-- the words are these items, one after the other
abbrev pub AreItems : Syntax → List (List ℕ) → List Item → Type 0
AreItems syntax words [] = words ≡ []
AreItems syntax words (item ∷ items) =
    (front behind : List (List ℕ)) × (words ≡ front ++ behind) × IsItem syntax front item × AreItems syntax behind items

-- What items say, each in the order of the words.

-- the words outside options
abbrev pub places_of : List Item → List (List ℕ)
places_of [] = []
places_of (Place word ∷ items) = word ∷ places_of items
places_of (Valued flag value ∷ items) = places_of items
places_of (On switch ∷ items) = places_of items

abbrev flag_number : Flag → ℕ
flag_number flags.Output = 0
flag_number flags.Path = 1
flag_number flags.Search = 2
flag_number flags.Define = 3
flag_number flags.Undefine = 4
flag_number flags.Only = 5
flag_number flags.Skip = 6
flag_number flags.Kind = 7
flag_number flags.Creator = 8
flag_number flags.Into = 9
flag_number flags.From = 10
flag_number flags.Templates = 11

abbrev pub is_flag : Flag → Flag → Bool
is_flag one other = flag_number one == flag_number other

-- the values of an option
abbrev pub values_of : Flag → List Item → List Value
values_of flag [] = []
values_of flag (Place word ∷ items) = values_of flag items
values_of flag (Valued other value ∷ items) = if is_flag flag other then value ∷ values_of flag items else values_of flag items
values_of flag (On switch ∷ items) = values_of flag items

-- Commands.

-- these words may stand outside options: at least so many files, exactly so many, or a number from 1 to the most, in decimal
-- without a sign or a leading zero
abbrev pub ArePlaces : Places → List (List ℕ) → Type 0
ArePlaces (places.AtLeast fewest) words = fewest ≤ length words
ArePlaces (places.Exactly count) words = length words ≡ count
ArePlaces (places.Count most) words = (number : ℕ) × (words ≡ decimal_of number ∷ []) × (1 ≤ number) × (number ≤ most)

-- what words ask for: a command and its items
pub record Asked : Type 0 where
  pub name : CommandName
  pub items : List Item

-- The words are this command: its name, and items that it takes, among them what must stand outside options and the options
-- that must be there.
pub record IsCommand (words : List (List ℕ)) (asked : Asked) : Type 0 where
  pub rest : List (List ℕ)
  pub is : words ≡ (syntax_of asked.name).name ∷ rest
  pub are : AreItems (syntax_of asked.name) rest asked.items
  pub places : ArePlaces (syntax_of asked.name).places (places_of asked.items)
  pub needs : AllByRecursion (λ flag. values_of flag asked.items ≢ []) (syntax_of asked.name).needs

-- Words that are none.

-- some command begins with these words
pub record Begins (front : List (List ℕ)) : Type 0 where
  pub more : List (List ℕ)
  pub asked : Asked
  pub is : IsCommand (front ++ more) asked

-- the words are no command, and this position, from 1, is one past their longest front that begins one
pub record IsMisplaced (words : List (List ℕ)) (position : ℕ) : Type 0 where
  pub none : (asked : Asked) → IsCommand words asked → ⊥
  pub front : ℕ
  pub next : position ≡ suc front
  pub within : front ≤ length words
  pub begins : Begins (take front words)
  pub longest : position ≤ length words → Begins (take position words) → ⊥

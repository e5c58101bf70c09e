-- What the code holds of commands, by the words' bytes.
use Rattle.std.specs.Prelude.{◌≡◌, ◌≤◌, ◌<◌, ◌&&◌, leb, ℕ, suc, Bool, false, List, [], ◌∷◌, ◌++◌, take, length, map}
use Rattle.std.specs.List.{list_all, list_any}
use Rattle.std.specs.Borrow.{Bor}
use Rattle.rz_core.specs.Decimal.{decimal_of}
use Rattle.rz_tools_args.specs.Command as command
use Rattle.rz_tools_args.specs.Command.{is_flag, places_of, AreItems, IsItem}
use Rattle.rz_tools_args.specs.Syntax as table
use Rattle.rz_tools_args.specs.declared.command.Command.{Command}
use Rattle.rz_tools_args.specs.declared.flag.Flag.{Flag}
use Rattle.rz_tools_args.specs.declared.item.Item.{Item}
use Rattle.rz_tools_args.specs.declared.item.Item.TheVariants as items
use Rattle.rz_tools_args.specs.declared.item.Value.{Value}
use Rattle.rz_tools_args.specs.declared.item.Value.TheVariants as values
use Rattle.rz_tools_args.specs.declared.read.UsageFault.{UsageFault}
use Rattle.rz_tools_args.specs.declared.syntax.Places.{Places}
use Rattle.rz_tools_args.specs.declared.syntax.Places.TheVariants as places
use Rattle.rz_tools_args.specs.declared.syntax.Syntax.{Syntax}

-- The table.

-- a table of words
abbrev pub words_of : {X : Type 0} → List (Bor (List ℕ) × X) → List (List ℕ × X)
words_of words = map (λ one. (one.0.now, one.1)) words

abbrev pub syntax : Syntax → table.Syntax
syntax held = record {
  name = held.name.now;
  flags = words_of held.flags.now;
  switches = words_of held.switches.now;
  places = held.places;
  needs = held.needs.now;
  usage = held.usage.now;
}

-- Items.

abbrev pub value : Value → command.Value
value (values.Name name) = command.Name name.now
value (values.Define def) = command.Define def
value (values.Kind kind) = command.Kind kind
value (values.Form form) = command.Form form

abbrev pub item : Item → command.Item
item (items.Place word) = command.Place word.now
item (items.Valued flag held) = command.Valued flag (value held)
item (items.On switch) = command.On switch

abbrev pub items_of : Command → List command.Item
items_of held = map item held.items

abbrev pub asked : Command → command.Asked
asked held = record { name = held.name; items = items_of held }

-- how many words an item is
abbrev pub size_of : command.Item → ℕ
size_of (command.Place word) = 1
size_of (command.Valued flag said) = 2
size_of (command.On switch) = 1

-- Reading.

-- a word is a number from 1 to this one, in decimal without a sign or a leading zero
abbrev pub IsCount : ℕ → List ℕ → Type 0
IsCount most word = (number : ℕ) × (word ≡ decimal_of number) × (1 ≤ number) × (number ≤ most)

-- after so many words outside options one more may stand, and be this
abbrev pub MayStand : Places → ℕ → List ℕ → Type 0
MayStand (places.AtLeast fewest) count word = Unit {0}
MayStand (places.Exactly most) count word = count < most
MayStand (places.Count most) count word = (count ≡ 0) × IsCount most word

-- after so many words outside options this item may stand
abbrev pub MayFollow : Places → ℕ → command.Item → Type 0
MayFollow places count (command.Place word) = MayStand places count word
MayFollow places count (command.Valued flag said) = Unit {0}
MayFollow places count (command.On switch) = Unit {0}

-- these words may stand outside options, and more after them if they are too few
abbrev pub MayBegin : Places → List (List ℕ) → Type 0
MayBegin (places.AtLeast fewest) words = Unit {0}
MayBegin (places.Exactly most) words = length words ≤ most
MayBegin (places.Count most) [] = Unit {0}
MayBegin (places.Count most) (word ∷ words) = (words ≡ []) × IsCount most word

-- how many words stand outside options at least
abbrev pub fewest : Places → ℕ
fewest (places.AtLeast count) = count
fewest (places.Exactly count) = count
fewest (places.Count most) = 1

-- an item is this option
abbrev pub says : Flag → command.Item → Bool
says flag (command.Place word) = false
says flag (command.Valued other said) = is_flag flag other
says flag (command.On switch) = false

-- all that must be there is among the items, of which so many stand outside options
abbrev pub is_whole : table.Syntax → ℕ → List command.Item → Bool
is_whole syntax count items = leb (fewest syntax.places) count && list_all (λ flag. list_any (says flag) items) syntax.needs

-- the first words are this item
abbrev pub BeginsWith : table.Syntax → List (List ℕ) → command.Item → Type 0
BeginsWith syntax words one = (front behind : List (List ℕ)) × (words ≡ front ++ behind) × IsItem syntax front one

-- No item of the command stands at the front of these words, and this many of them is the longest front that begins items.
-- Those items stand in options.
pub record IsStuck (syntax : table.Syntax) (words : List (List ℕ)) (fitting : ℕ) : Type 0 where
  pub none : (one : command.Item) → BeginsWith syntax words one → ⊥
  pub within : fitting ≤ length words
  pub more : List (List ℕ)
  pub others : List command.Item
  pub goes_on : AreItems syntax (take fitting words ++ more) others
  pub no_place : places_of others ≡ []
  pub longest : suc fitting ≤ length words → (after : List (List ℕ)) (one : command.Item) → BeginsWith syntax (take (suc fitting) words ++ after) one → ⊥

abbrev pub position_of : UsageFault → ℕ
position_of fault = fault.position

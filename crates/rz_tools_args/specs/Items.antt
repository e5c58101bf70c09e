-- What the items of a command ask for, each in the order of the words.
use Rattle.std.specs.Prelude.{◌==◌, ◌||◌, ℕ, Bool, false, List, [], ◌∷◌, Option, Some, None}
use Rattle.rz_core.specs.declared.resource.OsType.{OsType}
use Rattle.rz_bridge_files.specs.declared.form.Form as form
use Rattle.rz_pre.specs.declared.program.Def.{Def}
use Rattle.rz_tools_args.specs.Command.{values_of, Define, Form, Item, Kind, Name, On, Place, Value, Valued}
use Rattle.rz_tools_args.specs.declared.flag.Flag.{Flag}
use Rattle.rz_tools_args.specs.declared.flag.Switch.{Switch}
use Rattle.rz_tools_args.specs.declared.flag.Switch.TheVariants as switches

-- Values of one kind.

abbrev pub names_in : List Value → List (List ℕ)
names_in [] = []
names_in (Name name ∷ values) = name ∷ names_in values
names_in (Define def ∷ values) = names_in values
names_in (Kind kind ∷ values) = names_in values
names_in (Form one ∷ values) = names_in values

abbrev pub kinds_in : List Value → List OsType
kinds_in [] = []
kinds_in (Name name ∷ values) = kinds_in values
kinds_in (Define def ∷ values) = kinds_in values
kinds_in (Kind kind ∷ values) = kind ∷ kinds_in values
kinds_in (Form one ∷ values) = kinds_in values

abbrev pub forms_in : List Value → List form.Form
forms_in [] = []
forms_in (Name name ∷ values) = forms_in values
forms_in (Define def ∷ values) = forms_in values
forms_in (Kind kind ∷ values) = forms_in values
forms_in (Form one ∷ values) = one ∷ forms_in values

-- What items say.

-- the last of several, if there are any
abbrev pub last : {X : Type 0} → List X → Option X
last [] = None
last (x ∷ []) = Some x
last (x ∷ y ∷ xs) = last (y ∷ xs)

abbrev pub names_of : Flag → List Item → List (List ℕ)
names_of flag items = names_in (values_of flag items)

abbrev pub kinds_of : Flag → List Item → List OsType
kinds_of flag items = kinds_in (values_of flag items)

abbrev pub forms_of : Flag → List Item → List form.Form
forms_of flag items = forms_in (values_of flag items)

-- the definitions of all options
abbrev pub defs_of : List Item → List Def
defs_of [] = []
defs_of (Valued flag (Define def) ∷ items) = def ∷ defs_of items
defs_of (Valued flag (Name name) ∷ items) = defs_of items
defs_of (Valued flag (Kind kind) ∷ items) = defs_of items
defs_of (Valued flag (Form one) ∷ items) = defs_of items
defs_of (Place word ∷ items) = defs_of items
defs_of (On switch ∷ items) = defs_of items

abbrev switch_number : Switch → ℕ
switch_number switches.Redeclare = 0
switch_number switches.Append = 1
switch_number switches.Over = 2
switch_number switches.ReadOnly = 3

-- an option without a value stands among the items
abbrev pub has : Switch → List Item → Bool
has switch [] = false
has switch (Place word ∷ items) = has switch items
has switch (Valued flag value ∷ items) = has switch items
has switch (On other ∷ items) = (switch_number switch == switch_number other) || has switch items

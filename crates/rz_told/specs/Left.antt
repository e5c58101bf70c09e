-- What is still to be given of the broken rules of a fork.
use Rattle.std.specs.Prelude.{◌≡◌, ℕ, ◌+◌, ◌*◌, ◌≤◌, ◌<◌, Bool, true, if◌then◌else◌, List, [], ◌∷◌, ◌++◌, length, take, drop, IfSome}
use Rattle.std.specs.List.{flat_map, AllByRecursion}
use Rattle.std.specs.declared.option.Option.{Option}
use Rattle.std.specs.declared.option.Option.TheVariants.{Some, None}
use Rattle.rz_core.specs.Lists.{with_front}
use Rattle.rz_fork.specs.declared.fault.ForkFault.{ForkFault}
use Rattle.rz_fork.specs.declared.layout.Outline.{Outline}
use Rattle.rz_fork.specs.declared.layout.TypeEntry.{TypeEntry}
use Rattle.rz_fork.specs.declared.layout.Reference.{Reference}
use Rattle.rz_fork.specs.Layout.{entries, references}
use Rattle.rz_fork.specs.Admit.{HasArea, HasTypes, IsSayable}
use Rattle.rz_fork.specs.Rules.{data_outside, name_outside, list_rule, type_rule, id_rule, count_of}
use Rattle.rz_fork.specs.Rules as rules
use Rattle.rz_fork.specs.Code.{AreMarked}
use Rattle.rz_fork.specs.Breaks.{listed, all_in, whole_faults}
use Rattle.rz_told.specs.declared.heads.Heads.{Heads}
use Rattle.rz_told.specs.declared.lists.Cursor.{Cursor}
use Rattle.rz_told.specs.declared.lists.Pass.{Pass}
use Rattle.rz_told.specs.declared.lists.Pass.TheVariants.{Lists, Data, Names, Codes, Ids}

-- what a rule finds at a reference of a type; it sees those before it
abbrev pub in_type : Pass → List ℕ → Outline → List Reference → Reference → Option ForkFault
in_type Lists bytes o before r = None
in_type Data bytes o before r = data_outside bytes o r
in_type Names bytes o before r = name_outside bytes o r
in_type Codes bytes o before r = None
in_type Ids bytes o before r = id_rule before r

-- what a rule finds at a type and its references; it sees the types before it
abbrev pub on_type : Pass → List ℕ → Outline → List TypeEntry → TypeEntry → List ForkFault
on_type Lists bytes o before t = listed (list_rule o before t)
on_type Data bytes o before t = whole_faults rules.Data bytes o before t
on_type Names bytes o before t = whole_faults rules.Name bytes o before t
on_type Codes bytes o before t = listed (type_rule before t)
on_type Ids bytes o before t = whole_faults rules.Id bytes o before t

-- what a rule finds in all types
abbrev pub in_types : Pass → List ℕ → Outline → List ForkFault
in_types pass bytes o = with_front (on_type pass bytes o) [] (entries bytes o)

-- the rules after a rule; that on data is tested where the data area lies in the fork
abbrev pub behind : Bool → Pass → List Pass
behind area Lists = if area then Data ∷ Names ∷ Codes ∷ Ids ∷ [] else Names ∷ Codes ∷ Ids ∷ []
behind area Data = Names ∷ Codes ∷ Ids ∷ []
behind area Names = Codes ∷ Ids ∷ []
behind area Codes = Ids ∷ []
behind area Ids = []

-- what the rules on types and references find
abbrev pub lists_of : List ℕ → Option Outline → Bool → List ForkFault
lists_of bytes None area = []
lists_of bytes (Some o) area = in_types Lists bytes o ++ flat_map (λ pass. in_types pass bytes o) (behind area Lists)

-- what a rule still finds in a type, from a reference on
abbrev pub references_left : Pass → List ℕ → Outline → TypeEntry → ℕ → List ForkFault
references_left pass bytes o t next = all_in (in_type pass bytes o) (take next (references bytes t)) (drop next (references bytes t))

-- what it still finds in the types from here on
abbrev pub types_left : Pass → List ℕ → Outline → ℕ → List ForkFault
types_left pass bytes o begun = with_front (on_type pass bytes o) (take begun (entries bytes o)) (drop begun (entries bytes o))

-- what it still finds
abbrev pub left_here : Pass → List ℕ → Outline → Cursor → List ForkFault
left_here pass bytes o at = references_left pass bytes o at.entry at.next ++ types_left pass bytes o at.begun

-- what it and those after it still find
abbrev pub left_in : Bool → Pass → List ℕ → Outline → Cursor → List ForkFault
left_in area pass bytes o at = left_here pass bytes o at ++ flat_map (λ later. in_types later bytes o) (behind area pass)

abbrev pub left_of : List ℕ → Option Outline → Bool → Pass → Cursor → List ForkFault
left_of bytes None area pass at = []
left_of bytes (Some o) area pass at = left_in area pass bytes o at

-- what is still to be given
abbrev pub left : List ℕ → Heads → ℕ → Pass → Cursor → List ForkFault
left bytes heads begun pass at = flat_map listed (drop begun heads.faults) ++ left_of bytes heads.outline heads.area pass at

-- a test has come so far
pub record IsAt (bytes : List ℕ) (o : Outline) (at : Cursor) : Type 0 where
  pub list : at.next < at.entry.count → at.entry.list + 12 * at.entry.count ≤ length bytes
  pub begun : at.begun ≤ o.count
  pub so_far : at.so_far ≡ count_of (take at.begun (entries bytes o))
  pub few : at.so_far ≤ 65536 * at.begun

-- where the rule on ids is tested, the ids of the references so far of a type are marked, while there are more
abbrev pub Marked : Pass → List ℕ → List Bool → TypeEntry → ℕ → Type 0
Marked pass bytes marks t next = pass ≡ Ids → next < t.count → AreMarked marks (take next (references bytes t))

-- what is still to be given can be
pub record CanGive (bytes : List ℕ) (heads : Heads) (k : ℕ) (pass : Pass) (cursor : Cursor) (marks : List Bool) : Type 0 where
  pub begun : k ≤ 6
  pub sayable : AllByRecursion (λ fault. IfSome fault IsSayable) heads.faults
  pub types : IfSome heads.outline (HasTypes bytes)
  pub area : IfSome heads.outline (λ o. heads.area ≡ true → HasArea bytes o.header)
  pub tested : pass ≡ Data → heads.area ≡ true
  pub at : IfSome heads.outline (λ o. IsAt bytes o cursor)
  pub marked : Marked pass bytes marks cursor.entry cursor.next

-- Every broken rule of a fork: one table of rules, and where each is tested.
use Rattle.std.specs.Prelude.{ℕ, ◌==◌, Bool, true, false, if◌then◌else◌, List, [], ◌∷◌, length}
use Rattle.std.specs.List.{flat_map}
use Rattle.std.specs.declared.option.Option.{Option}
use Rattle.std.specs.declared.option.Option.TheVariants.{Some, None}
use Rattle.rz_core.specs.Lists.{with_front}
use Rattle.rz_fork.specs.declared.fault.ForkFault.{ForkFault}
use Rattle.rz_fork.specs.declared.layout.Outline.{Outline}
use Rattle.rz_fork.specs.declared.layout.TypeEntry.{TypeEntry}
use Rattle.rz_fork.specs.Layout.{header_of, types_of, the_outline, entries, references}
use Rattle.rz_fork.specs.Rules.{short_header, data_area_outside, map_outside, short_map, type_list_outside, types_outside, list_rule, type_rule, reference_rule, Tested, Data, Name, Id}

-- the rules; what they test stands in Rules
pub data Rule : Type 0 where
  ShortHeader : Rule
  DataArea : Rule
  MapArea : Rule
  ShortMap : Rule
  TypeList : Rule
  Types : Rule
  Lists : Rule
  DataOf : Rule
  NamesOf : Rule
  Codes : Rule
  Ids : Rule

-- in their order
abbrev pub rules : List Rule
rules =
    ShortHeader ∷ DataArea ∷ MapArea ∷ ShortMap ∷ TypeList ∷ Types ∷ Lists ∷ DataOf ∷ NamesOf ∷ Codes ∷ Ids ∷ []

-- a rule is tested where these hold
abbrev pub behind : Rule → List Rule
behind ShortHeader = []
behind DataArea = ShortHeader ∷ []
behind MapArea = ShortHeader ∷ []
behind ShortMap = ShortHeader ∷ []
behind TypeList = ShortHeader ∷ MapArea ∷ ShortMap ∷ []
behind Types = ShortHeader ∷ MapArea ∷ ShortMap ∷ TypeList ∷ []
behind Lists = ShortHeader ∷ MapArea ∷ ShortMap ∷ TypeList ∷ Types ∷ []
behind DataOf = ShortHeader ∷ MapArea ∷ ShortMap ∷ TypeList ∷ Types ∷ DataArea ∷ []
behind NamesOf = ShortHeader ∷ MapArea ∷ ShortMap ∷ TypeList ∷ Types ∷ []
behind Codes = ShortHeader ∷ MapArea ∷ ShortMap ∷ TypeList ∷ Types ∷ []
behind Ids = ShortHeader ∷ MapArea ∷ ShortMap ∷ TypeList ∷ Types ∷ []

-- one fault, or none
abbrev pub listed : {F : Type 0} → Option F → List F
listed None = []
listed (Some fault) = fault ∷ []

-- all faults that a rule finds in a list
abbrev pub all_in : {A F : Type 0} → (List A → A → Option F) → List A → List A → List F
all_in rule front xs = with_front (λ before x. listed (rule before x)) front xs

-- a rule is not broken
abbrev pub holds : {F : Type 0} → Option F → Bool
holds None = true
holds (Some fault) = false

-- the references of a type that break a rule
abbrev pub type_faults : Tested → List ℕ → Outline → TypeEntry → List ForkFault
type_faults tested bytes o t = all_in (reference_rule tested bytes o) [] (references bytes t)

-- the same of a type whose list is in the map, and up to which the references don't pass their bound; none in another
abbrev pub whole_faults : Tested → List ℕ → Outline → List TypeEntry → TypeEntry → List ForkFault
whole_faults tested bytes o before t = if holds (list_rule o before t) then type_faults tested bytes o t else []

abbrev pub reference_faults : Tested → List ℕ → Outline → List ForkFault
reference_faults tested bytes o = with_front (whole_faults tested bytes o) [] (entries bytes o)

-- the faults of a rule, in map order
unfoldable pub faults : List ℕ → Rule → List ForkFault
faults bytes ShortHeader = listed (short_header bytes)
faults bytes DataArea = listed (data_area_outside bytes (header_of bytes))
faults bytes MapArea = listed (map_outside bytes (header_of bytes))
faults bytes ShortMap = listed (short_map (header_of bytes))
faults bytes TypeList = listed (type_list_outside (header_of bytes) (types_of bytes (header_of bytes)))
faults bytes Types = listed (types_outside (the_outline bytes))
faults bytes Lists = all_in (list_rule (the_outline bytes)) [] (entries bytes (the_outline bytes))
faults bytes DataOf = reference_faults Data bytes (the_outline bytes)
faults bytes NamesOf = reference_faults Name bytes (the_outline bytes)
faults bytes Codes = all_in type_rule [] (entries bytes (the_outline bytes))
faults bytes Ids = reference_faults Id bytes (the_outline bytes)

-- what is tested, where these hold
abbrev pub where_hold : {F : Type 0} → (Rule → List F) → List Rule → List F → List F
where_hold faults [] tested = tested
where_hold faults (rule ∷ rules) tested = if length (faults rule) == 0 then where_hold faults rules tested else []

-- every broken rule, by rule and within a rule in map order; no bytes break none
abbrev pub breaks : List ℕ → List ForkFault
breaks bytes =
    if length bytes == 0 then [] else flat_map (λ rule. where_hold (faults bytes) (behind rule) (faults bytes rule)) rules

-- the head of a list
abbrev pub first : {F : Type 0} → List F → Option F
first [] = None
first (x ∷ xs) = Some x

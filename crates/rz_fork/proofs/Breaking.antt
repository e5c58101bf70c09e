-- The first of all broken rules is the first of those that are tested one after the other.
use Rattle.std.proofs.Common.{◌≡◌, ℕ, ◌<◌, ◌==◌, Bool, true, false, if◌then◌else◌, List, [], ◌∷◌, ◌++◌, length, Some, None, refl, sym, ap, ◌∙◌, arith}
use Rattle.std.proofs.lemmas.Bool.{ne_eqb}
use Rattle.std.specs.List.{flat_map, AllByRecursion}
use Rattle.std.specs.declared.option.Option.{Option}
use Rattle.rz_core.specs.Lists.{with_front, first_in, first_of, or_else}
use Rattle.rz_core.proofs.Lists.{or_else_none}
use Rattle.rz_fork.specs.declared.fault.ForkFault.{ForkFault}
use Rattle.rz_fork.specs.declared.layout.Outline.{Outline}
use Rattle.rz_fork.specs.declared.layout.TypeEntry.{TypeEntry}
use Rattle.rz_fork.specs.Layout.{header_of, types_of, the_outline, entries, references}
use Rattle.rz_fork.specs.Admit.{inadmissible}
use Rattle.rz_fork.specs.Rules.{short_header, data_area_outside, map_outside, short_map, type_list_outside, types_outside, list_rule, type_rule, reference_rule, Tested, Data, Name, Id}
use Rattle.rz_fork.specs.Code.{map_broken, map_fault, lists_broken, in_type, in_types, first_broken, first_tested}
use Rattle.rz_fork.specs.Breaks.{Rule, ShortHeader, DataArea, MapArea, ShortMap, TypeList, Types, Lists, DataOf, NamesOf, Codes, Ids, listed, all_in, holds, type_faults, whole_faults, reference_faults, faults, where_hold, behind, rules, breaks, first}

first_append : {F : Type 0} (xs ys : List F) → first (xs ++ ys) ≡ or_else (first xs) (first ys)
first_append [] ys = refl
first_append (x ∷ xs) ys = refl

first_listed : {F : Type 0} (fault : Option F) → first (listed fault) ≡ fault
first_listed None = refl
first_listed (Some fault) = refl

first_all : {A F : Type 0} (rule : List A → A → Option F) (front xs : List A) → first (all_in rule front xs) ≡ first_in rule front xs
first_all rule front [] = refl
first_all rule front (x ∷ xs) =
    first_append (listed (rule front x)) (all_in rule (front ++ x ∷ []) xs)
    ∙ (λ i. or_else (first_listed (rule front x) i) (first_all rule (front ++ x ∷ []) xs i))

-- where every list is in the map, all types are looked at
first_types : (tested : Tested) (bytes : List ℕ) (o : Outline) (front ts : List TypeEntry) → first_in (list_rule o) front ts ≡ None
    → first (with_front (whole_faults tested bytes o) front ts) ≡ first_in (λ (before : List TypeEntry) (t : TypeEntry). in_type tested bytes o t) front ts
unfolding in_type
first_types tested bytes o front [] none = refl
first_types tested bytes o front (t ∷ ts) none =
    let parts = or_else_none (list_rule o front t) (first_in (list_rule o) (front ++ t ∷ []) ts) none in
    first_append (whole_faults tested bytes o front t) (with_front (whole_faults tested bytes o) (front ++ t ∷ []) ts)
    ∙ (λ i. or_else (first (if holds (parts.0 i) then type_faults tested bytes o t else [])) (first_types tested bytes o (front ++ t ∷ []) ts parts.1 i))
    ∙ ap (λ (f : Option ForkFault). or_else f (first_in (λ (before : List TypeEntry) (u : TypeEntry). in_type tested bytes o u) (front ++ t ∷ []) ts)) (first_all (reference_rule tested bytes o) [] (references bytes t))

-- what stands after a fault doesn't matter
same_rest : {F : Type 0} (o a b : Option F) → (o ≡ None → a ≡ b) → or_else o a ≡ or_else o b
same_rest None a b h = h refl
same_rest (Some x) a b h = refl

empty : {F : Type 0} (xs : List F) → first xs ≡ None → xs ≡ []
empty [] none = refl
empty (x ∷ xs) none = absurd cc

-- where the rules hold that a rule stands on, it is tested
open_at : {F : Type 0} (of : Rule → List F) (on : List Rule) (tested : List F) → AllByRecursion (λ rule. of rule ≡ []) on → where_hold of on tested ≡ tested
open_at of [] tested hold = refl
open_at of (rule ∷ on) tested hold = ap (λ (l : List _). if length l == 0 then where_hold of on tested else []) hold.0 ∙ open_at of on tested hold.1

-- one rule of the table, before those after it
step : {F : Type 0} (of : Rule → List F) (on : List Rule) (rule : Rule) (later : List F) (is rest : Option F) → AllByRecursion (λ r. of r ≡ []) on → first (of rule) ≡ is
    → (of rule ≡ [] → first later ≡ rest) → first (where_hold of on (of rule) ++ later) ≡ or_else is rest
step of on rule later is rest hold same behind_it =
    first_append (where_hold of on (of rule)) later
    ∙ ap (λ (l : List _). or_else (first l) (first later)) (open_at of on (of rule) hold)
    ∙ same_rest (first (of rule)) (first later) rest (λ none. behind_it (empty (of rule) none))
    ∙ ap (λ o. or_else o rest) same

or_assoc : {F : Type 0} (a b c : Option F) → or_else (or_else a b) c ≡ or_else a (or_else b c)
or_assoc None b c = refl
or_assoc (Some x) b c = refl

-- the rules that admission tests, one after the other
in_a_row : {F : Type 0} (a b c d e f g : Option F) → or_else (first_of (a ∷ b ∷ c ∷ d ∷ e ∷ f ∷ [])) g ≡ or_else a (or_else b (or_else c (or_else d (or_else e (or_else f g)))))
in_a_row None None None None None None g = refl
in_a_row (Some x) b c d e f g = refl
in_a_row None (Some x) c d e f g = refl
in_a_row None None (Some x) d e f g = refl
in_a_row None None None (Some x) e f g = refl
in_a_row None None None None (Some x) f g = refl
in_a_row None None None None None (Some x) g = refl

module _ (bytes : List ℕ) where
  abbrev o : Outline
  o = the_outline bytes

  abbrev of : Rule → List ForkFault
  of rule = faults bytes rule

  one : (of ShortHeader ≡ listed (short_header bytes)) × (of DataArea ≡ listed (data_area_outside bytes (header_of bytes))) × (of MapArea ≡ listed (map_outside bytes (header_of bytes)))
      × (of ShortMap ≡ listed (short_map (header_of bytes))) × (of TypeList ≡ listed (type_list_outside (header_of bytes) (types_of bytes (header_of bytes)))) × (of Types ≡ listed (types_outside o))
  unfolding faults
  one = (refl, refl, refl, refl, refl, refl)

  lists_first : first (of Lists) ≡ first_in (list_rule o) [] (entries bytes o)
  unfolding faults
  lists_first = first_all (list_rule o) [] (entries bytes o)

  codes_first : first (of Codes) ≡ first_in type_rule [] (entries bytes o)
  unfolding faults
  codes_first = first_all type_rule [] (entries bytes o)

  references_first : (tested : Tested) → of Lists ≡ [] → first (reference_faults tested bytes o) ≡ in_types tested bytes o (entries bytes o)
  references_first tested none = first_types tested bytes o [] (entries bytes o) (sym lists_first ∙ ap first none)

  data_first : of Lists ≡ [] → first (of DataOf) ≡ in_types Data bytes o (entries bytes o)
  unfolding faults
  data_first none = references_first Data none

  names_first : of Lists ≡ [] → first (of NamesOf) ≡ in_types Name bytes o (entries bytes o)
  unfolding faults
  names_first none = references_first Name none

  ids_first : of Lists ≡ [] → first (of Ids) ≡ in_types Id bytes o (entries bytes o)
  unfolding faults
  ids_first none = references_first Id none

  table_first : first (flat_map (λ rule. where_hold of (behind rule) (of rule)) rules) ≡ first_broken bytes (header_of bytes) (types_of bytes (header_of bytes)) o
  unfolding map_broken lists_broken
  table_first =
      step of (behind ShortHeader) ShortHeader _ _ _ tt (ap first one.0 ∙ first_listed _) (λ e1.
      step of (behind DataArea) DataArea _ _ _ (e1, tt) (ap first one.1 ∙ first_listed _) (λ e2.
      step of (behind MapArea) MapArea _ _ _ (e1, tt) (ap first one.2 ∙ first_listed _) (λ e3.
      step of (behind ShortMap) ShortMap _ _ _ (e1, tt) (ap first one.3 ∙ first_listed _) (λ e4.
      step of (behind TypeList) TypeList _ _ _ (e1, (e3, (e4, tt))) (ap first one.4 ∙ first_listed _) (λ e5.
      step of (behind Types) Types _ _ _ (e1, (e3, (e4, (e5, tt)))) (ap first one.5 ∙ first_listed _) (λ e6.
      step of (behind Lists) Lists _ _ _ (e1, (e3, (e4, (e5, (e6, tt))))) lists_first (λ e7.
      step of (behind DataOf) DataOf _ _ _ (e1, (e3, (e4, (e5, (e6, (e2, tt)))))) (data_first e7) (λ e8.
      step of (behind NamesOf) NamesOf _ _ _ (e1, (e3, (e4, (e5, (e6, tt))))) (names_first e7) (λ e9.
      step of (behind Codes) Codes _ _ _ (e1, (e3, (e4, (e5, (e6, tt))))) codes_first (λ e10.
      step of (behind Ids) Ids _ _ _ (e1, (e3, (e4, (e5, (e6, tt))))) (ids_first e7) (λ e11. refl)))))))))))
      ∙ sym (in_a_row (short_header bytes) (data_area_outside bytes (header_of bytes)) (map_outside bytes (header_of bytes)) (short_map (header_of bytes)) (type_list_outside (header_of bytes) (types_of bytes (header_of bytes))) (types_outside o) (lists_broken bytes o))

-- it is the first of those that are tested one after the other
pub tested_is : (bytes : List ℕ) → inadmissible bytes ≡ first_tested bytes
unfolding inadmissible
tested_is bytes = by_cases (length bytes == 0)
  where
    by_cases : (b : Bool) → first (if b then [] else flat_map (λ rule. where_hold (faults bytes) (behind rule) (faults bytes rule)) rules)
        ≡ (if b then None else first_broken bytes (header_of bytes) (types_of bytes (header_of bytes)) (the_outline bytes))
    by_cases true = refl
    by_cases false = table_first bytes

pub breaks_begin : (bytes : List ℕ) → first (breaks bytes) ≡ inadmissible bytes
unfolding inadmissible
breaks_begin bytes = refl

-- no bytes break none
pub none_broken : (bytes : List ℕ) → length bytes ≡ 0 → inadmissible bytes ≡ None
none_broken bytes empty =
    let there : (length bytes == 0) ≡ true = ap (λ (n : ℕ). n == 0) empty in
    tested_is bytes ∙ (λ i. if there i then None else first_broken bytes (header_of bytes) (types_of bytes (header_of bytes)) (the_outline bytes))

-- where the header and the map break none, it is the first on types and references
pub lists_tested : (bytes : List ℕ) (o : Outline) → 0 < length bytes → map_fault bytes ≡ None → o ≡ the_outline bytes → inadmissible bytes ≡ lists_broken bytes o
lists_tested bytes o some none is =
    let there : (length bytes == 0) ≡ false = ne_eqb (length bytes) 0 (λ empty. omega (arith, some, empty)) in
    tested_is bytes ∙ (λ i. if there i then None else or_else (none i) (lists_broken bytes (sym is i)))

-- one on the header or the map comes first
pub map_tested : (bytes : List ℕ) (fault : ForkFault) → 0 < length bytes → map_fault bytes ≡ Some fault → inadmissible bytes ≡ Some fault
map_tested bytes fault some is =
    let there : (length bytes == 0) ≡ false = ne_eqb (length bytes) 0 (λ empty. omega (arith, some, empty)) in
    tested_is bytes ∙ (λ i. if there i then None else or_else (is i) (lists_broken bytes (the_outline bytes)))

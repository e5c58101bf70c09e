-- What rules that hold give.
use Rattle.std.proofs.Common.{◌≡◌, ℕ, ◌+◌, ◌*◌, ◌≤◌, Option, List, [], ◌∷◌, slice_get, Some, None, arith}
use Rattle.std.proofs.lemmas.Bool.Decides.{nat_tests}
use Rattle.rz_core.specs.Lists.{first_of, first_in}
use Rattle.rz_core.proofs.Lists.{or_else_none, first_in_none}
use Rattle.rz_fork.specs.declared.fault.ForkFault.{ForkFault}
use Rattle.rz_fork.specs.declared.layout.Outline.{Outline}
use Rattle.rz_fork.specs.declared.layout.TypeEntry.{TypeEntry}
use Rattle.rz_fork.specs.declared.layout.Reference.{Reference}
use Rattle.rz_fork.specs.Layout.{entries, references}
use Rattle.rz_fork.specs.Rules.{references_outside, count_of, list_rule, data_outside, name_outside, type_rule, reference_rule, Data, Name, Id}
use Rattle.rz_fork.specs.Code.{in_type, in_types, lists_broken, IsAdmitted, HasResources}

-- a reference list that keeps its rule lies in the map
pub list_within : (o : Outline) (so_far : ℕ) (t : TypeEntry) → references_outside o so_far t ≡ None → t.list + 12 * t.count ≤ o.header.map_at + o.header.map_length
unfolding references_outside
list_within o so_far t holds = grind (arith, nat_tests)

-- each reference list lies in the map
pub lists_within : (o : Outline) (ts : List TypeEntry) (k : ℕ) (t : TypeEntry) → first_in (list_rule o) [] ts ≡ None → slice_get ts k ≡ Some t
    → t.list + 12 * t.count ≤ o.header.map_at + o.header.map_length
lists_within o ts k t holds is =
    let rule = first_in_none (list_rule o) [] ts k t holds is in list_within o (count_of rule.0) t rule.1

-- a rule that holds of a type's references holds of each
pub data_within : (bytes : List ℕ) (o : Outline) (t : TypeEntry) (j : ℕ) (r : Reference) → in_type Data bytes o t ≡ None → slice_get (references bytes t) j ≡ Some r → data_outside bytes o r ≡ None
unfolding in_type
data_within bytes o t j r holds is = (first_in_none (reference_rule Data bytes o) [] (references bytes t) j r holds is).1

pub name_within : (bytes : List ℕ) (o : Outline) (t : TypeEntry) (j : ℕ) (r : Reference) → in_type Name bytes o t ≡ None → slice_get (references bytes t) j ≡ Some r → name_outside bytes o r ≡ None
unfolding in_type
name_within bytes o t j r holds is = (first_in_none (reference_rule Name bytes o) [] (references bytes t) j r holds is).1

-- the rules on types and references hold
pub record HoldLists (bytes : List ℕ) (o : Outline) : Type 0 where
  pub lists : first_in (list_rule o) [] (entries bytes o) ≡ None
  pub areas : in_types Data bytes o (entries bytes o) ≡ None
  pub name_lists : in_types Name bytes o (entries bytes o) ≡ None
  pub codes : first_in type_rule [] (entries bytes o) ≡ None
  pub ids : in_types Id bytes o (entries bytes o) ≡ None

five_hold : (a b c d e : Option ForkFault) → first_of (a ∷ b ∷ c ∷ d ∷ e ∷ []) ≡ None → (a ≡ None) × (b ≡ None) × (c ≡ None) × (d ≡ None) × (e ≡ None)
five_hold a b c d e holds =
    let one = or_else_none a (first_of (b ∷ c ∷ d ∷ e ∷ [])) holds in
    let two = or_else_none b (first_of (c ∷ d ∷ e ∷ [])) one.1 in
    let three = or_else_none c (first_of (d ∷ e ∷ [])) two.1 in
    let four = or_else_none d (first_of (e ∷ [])) three.1 in
    let five = or_else_none e None four.1 in (one.0, two.0, three.0, four.0, five.0)

pub lists_hold : (bytes : List ℕ) (o : Outline) → lists_broken bytes o ≡ None → HoldLists bytes o
unfolding lists_broken
lists_hold bytes o holds =
    let ts = entries bytes o in
    let all = five_hold (first_in (list_rule o) [] ts) (in_types Data bytes o ts) (in_types Name bytes o ts) (first_in type_rule [] ts) (in_types Id bytes o ts) holds in
    record { lists = all.0; areas = all.1; name_lists = all.2; codes = all.3; ids = all.4 }

-- what holds of all types holds of each
pub has_resources : (bytes : List ℕ) (o : Outline) (k : ℕ) (t : TypeEntry) → IsAdmitted bytes o → slice_get (entries bytes o) k ≡ Some t → HasResources bytes o t
has_resources bytes o k t admitted is =
    let all = lists_hold bytes o admitted.lists in
    let list = lists_within o (entries bytes o) k t all.lists is in
    record {
      types = admitted.types;
      area = admitted.area;
      list = omega (arith, list, admitted.types.map);
      areas = (first_in_none (λ (before : List TypeEntry) (t : TypeEntry). in_type Data bytes o t) [] (entries bytes o) k t all.areas is).1;
      name_lists = (first_in_none (λ (before : List TypeEntry) (t : TypeEntry). in_type Name bytes o t) [] (entries bytes o) k t all.name_lists is).1;
    }

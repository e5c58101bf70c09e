-- The resource that a pick by id or name finds is all that is included.
use Rattle.std.proofs.Common.{◌≡◌, ◌<◌, ℕ, ℤ, Bool, true, false, if◌then◌else◌, List, [], ◌∷◌, length, map, Option, Some, None, sym, ap, subst, ◌∙◌, append-nil}
use Rattle.std.specs.List.{flat_map}
use Rattle.rz_core.specs.Lists.{or_else, unless_fault}
use Rattle.rz_core.specs.Resources.{put, put_all, KeysDiffer}
use Rattle.rz_core.specs.declared.resource.OsType.{OsType}
use Rattle.rz_core.specs.declared.resource.Resource.{Resource}
use Rattle.rz_set.specs.After.{after_include, after_put, as_list, forbidden, replaced, under, HasShortName}
use Rattle.rz_set.specs.Choice.{chosen, found_name, has_name, included, missing, missing_choice, picked, the_choice}
use Rattle.rz_set.specs.ResSet.{found, has_key, AreNamed}
use Rattle.rz_set.specs.declared.pick.Choice.{Choice}
use Rattle.rz_set.specs.declared.pick.Choice.TheVariants as choices
use Rattle.rz_set.specs.declared.pick.Head.{Head}
use Rattle.rz_set.specs.declared.pick.Pick.{Pick}
use Rattle.rz_set.specs.declared.pick.Pick.TheVariants.{All, Id, Range, Name}
use Rattle.rz_set.proofs.Alone.{one_kept}
use Rattle.rz_set.proofs.Choices.{there_id, there_name}
use Rattle.rz_set.proofs.Includes.{named_under}
use Rattle.rz_set.proofs.Named.{first_alone}

-- Its name is short.

id_named : (kind : OsType) (id : ℤ) (list : List Resource) (one : Resource) → found kind id list ≡ Some one → AreNamed list → length one.name < 256
id_named kind id [] one is named = absurd cc
id_named kind id (x ∷ xs) one is named = by (id_named kind id xs one) (has_key kind id x) is
  where
    by : (found kind id xs ≡ Some one → AreNamed xs → length one.name < 256) → (b : Bool) → (if b then Some x else found kind id xs) ≡ Some one → length one.name < 256
    by later true is = let same : x ≡ one = cc in subst (λ (r : Resource). length r.name < 256) same named.0
    by later false is = later is named.1

name_named : (kind : OsType) (name : List ℕ) (list : List Resource) (one : Resource) → found_name kind name list ≡ Some one → AreNamed list → length one.name < 256
name_named kind name [] one is named = absurd cc
name_named kind name (x ∷ xs) one is named = by (name_named kind name xs one) (has_name kind name x) is
  where
    by : (found_name kind name xs ≡ Some one → AreNamed xs → length one.name < 256) → (b : Bool) → (if b then Some x else found_name kind name xs) ≡ Some one → length one.name < 256
    by later true is = let same : x ≡ one = cc in subst (λ (r : Resource). length r.name < 256) same named.0
    by later false is = later is named.1

picked_named : (kind : OsType) (pick : Pick) (list : List Resource) (one : Resource) → picked kind pick list ≡ Some one → AreNamed list → length one.name < 256
picked_named kind All list one is named = absurd cc
picked_named kind (Id id) list one is named = id_named kind id list one is named
picked_named kind (Range first last) list one is named = absurd cc
picked_named kind (Name name) list one is named = name_named kind name list one is named

pub lone_named : (choice : Choice) (list : List Resource) (head : Option Head) (one : Resource) → the_choice choice list ≡ Some one → AreNamed list → HasShortName head
    → length (under head one).name < 256
lone_named choices.All list head one is named given = absurd cc
lone_named (choices.Except kind) list head one is named given = absurd cc
lone_named (choices.Chosen kind pick) list head one is named given = named_under head one given (picked_named kind pick list one is named)

-- It is put alone.

lone_chosen : (kind : OsType) (pick : Pick) (list : List Resource) (one : Resource) → KeysDiffer [] list → picked kind pick list ≡ Some one
    → (missing kind pick list ≡ None) × (chosen kind pick list ≡ one ∷ [])
lone_chosen kind All list one differ is = absurd cc
lone_chosen kind (Id id) list one differ is = (there_id kind id list one is, one_kept kind id list differ ∙ ap as_list is)
lone_chosen kind (Range first last) list one differ is = absurd cc
lone_chosen kind (Name name) list one differ is = (there_name kind name list one is, first_alone kind name list differ ∙ ap as_list is)

lone_included : (choice : Choice) (list : List Resource) (one : Resource) → KeysDiffer [] list → the_choice choice list ≡ Some one
    → (missing_choice choice list ≡ None) × (included choice list ≡ one ∷ [])
lone_included choices.All list one differ is = absurd cc
lone_included (choices.Except kind) list one differ is = absurd cc
lone_included (choices.Chosen kind pick) list one differ is = lone_chosen kind pick list one differ is

pub lone_put : (choice : Choice) (source : List Resource) (head : Option Head) (over : Bool) (list : List Resource) (one : Resource) → KeysDiffer [] source
    → the_choice choice source ≡ Some one → after_put over (under head one) list ≡ after_include source choice head over list
lone_put choice source head over list one differ is =
    let lone = lone_included choice source one differ is in
    sym
    ((λ i. unless_fault (or_else (lone.0 i) (forbidden over (flat_map (replaced list) (map (under head) (lone.1 i))))) (put_all list (map (under head) (lone.1 i))))
    ∙ ap (λ (l : List Resource). unless_fault (forbidden over l) (put list (under head one))) (append-nil (replaced list (under head one))))

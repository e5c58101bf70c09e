use Rattle.std.proofs.Common.{◌≡◌, Bool, List, [], map, sym, ap, subst, ◌∙◌}
use Rattle.rz_core.specs.Resources.{put_all, KeysDiffer}
use Rattle.rz_core.specs.declared.resource.Resource.{Resource}
use Rattle.rz_set.specs.Change.{changed}
use Rattle.rz_set.specs.Fates.{all_left, fate_of}
use Rattle.rz_set.specs.ResSet.{values_of, AreNamed}
use Rattle.rz_set.specs.Wanted.{is_wanted}
use Rattle.rz_set.specs.declared.change.Fate.{Fate}
use Rattle.rz_set.specs.declared.pick.Head.{Head}
use Rattle.rz_set.proofs.Changes.{changed_left, differ_changed, named_changed}
use Rattle.rz_set.proofs.Fresh.{put_fresh}
use Rattle.rz_set.proofs.res_set.ResSet.change_all.Goals as goal

left_is : (test : Resource → Bool) (head : Head) (list held : List Resource) (fates : List Fate)
    → fates ≡ map (fate_of test head list) list → held ≡ list → all_left fates held ≡ changed test head list
left_is test head list held fates are is = (λ i. all_left (are i) (is i)) ∙ changed_left test head list

pub insert_left-requires-clause-named : goal.insert_left-requires-clause-named
insert_left-requires-clause-named c =
    let held : values_of c.replace-old.result.entries ≡ c.args.self.now = ap (λ m. values_of m.entries) c.replace-old.ensures.value ∙ c.self.view_is in
    subst AreNamed (sym (left_is (is_wanted c.args.wanted) c.args.head.now c.args.self.now (values_of c.replace-old.result.entries) c.in_ok-fates.fates.items c.in_ok-fates.ensures held))
    (named_changed (is_wanted c.args.wanted) c.args.head.now c.args.self.now c.requires.name (subst AreNamed c.self.view_is c.self.invariant.named))

pub returns-clause-ok : goal.returns-clause-ok
returns-clause-ok c =
    let held : values_of c.replace-old.result.entries ≡ c.args.self.now = ap (λ m. values_of m.entries) c.replace-old.ensures.value ∙ c.self.view_is in
    let empty : values_of c.replace-old.new.dest.entries ≡ values_of c.in_ok-room.room.entries = ap (λ m. values_of m.entries) c.replace-old.ensures.after in
    let left : all_left c.in_ok-fates.fates.items (values_of c.replace-old.result.entries) ≡ changed (is_wanted c.args.wanted) c.args.head.now c.args.self.now =
    left_is (is_wanted c.args.wanted) c.args.head.now c.args.self.now (values_of c.replace-old.result.entries) c.in_ok-fates.fates.items c.in_ok-fates.ensures held in
    c.insert_left.ensures.values
    ∙ (λ i. put_all ((empty ∙ ap values_of c.in_ok-room.ensures.empty) i) (left i))
    ∙ put_fresh (changed (is_wanted c.args.wanted) c.args.head.now c.args.self.now)
    (differ_changed (is_wanted c.args.wanted) c.args.head.now c.requires.apart c.args.self.now (subst (KeysDiffer []) c.self.view_is c.self.invariant.keys))

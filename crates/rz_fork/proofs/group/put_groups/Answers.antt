use Rattle.std.proofs.Common.{◌≡◌, ◌+◌, nat_eq, not, refl, List, [], ◌∷◌, ◌++◌, take, map, set, slice_get, Some, sym, ap, ◌∙◌, subst}
use Rattle.std.proofs.lemmas.Bool.{eqb-true}
use Rattle.std.proofs.lemmas.List.{take_more, map-append}
use Rattle.std.specs.List.{IsDistinct, list_any}
use Rattle.indexmap.specs.IndexSet.{insert_key}
use Rattle.rz_core.specs.declared.resource.Resource.{Resource}
use Rattle.rz_fork.specs.declared.group.Group.{Group}
use Rattle.rz_fork.specs.Image.{kinds_of}
use Rattle.rz_fork.specs.Groups.{AreGroups}
use Rattle.rz_fork.proofs.Grouping.{codes, AreReady, ready_new, ready_old, with_joined, kinds_more}
use Rattle.rz_fork.proofs.group.put_groups.Goals.{then-added+in_ok-push, else-added}
use Rattle.rz_fork.proofs.group.put_groups.Goals as goal

pub loop-resource-preserved : goal.loop-resource-preserved
loop-resource-preserved c =
    let i = c.loop-resource.resource-index in
    let xs = take i c.args.list.now in
    let r = c.resource-item.result in
    let before = c.loop-resource.invariant in
    let added = c.in_ok-place.ensures.added ∙ ap (λ ks. not (list_any (nat_eq r.kind.code) ks)) before.keys in
    let ready : AreReady xs r c.if-added.groups.items =
    elim c.if-added.branch [
      | then-added+in_ok-push w ↦ subst (AreReady xs r) (sym (ap (λ v. v.items) w.groups-is ∙ w.in_ok-push.ensures.items))
          (ready_new xs r c.loop-resource.groups.items before.groups _ (sym w.if-added.true ∙ added) refl (ap (λ l. map (λ b. b.now) l) w.new.ensures.items))
      | else-added w ↦ subst (AreReady xs r) (sym (ap (λ v. v.items) w.groups-is)) (ready_old xs r c.loop-resource.groups.items before.groups (sym w.if-added.false ∙ added))
    ] in
    let more : take (i + 1) c.args.list.now ≡ xs ++ r ∷ [] =
    take_more c.args.list.now i r c.loop-resource-test.true ∙ ap (λ (x : Resource). xs ++ x ∷ []) (sym c.resource-item.is) in
    let keys : c.insert_full.new.self.keys ≡ insert_key nat_eq (kinds_of xs) r.kind.code =
    c.in_ok-place.ensures.keys ∙ ap (λ ks. insert_key nat_eq ks r.kind.code) before.keys in
    let same = ready.kinds ∙ sym keys in
    let stored = c.in_ok-place.ensures.stored in
    let at : slice_get (codes c.if-added.groups.items) c.in_ok-place.place ≡ Some r.kind.code =
    ap (λ ks. slice_get ks c.in_ok-place.place) same ∙ stored.1 ∙ ap (λ k. Some k) (sym (eqb-true r.kind.code stored.0 stored.2)) in
    let members = ap (λ l. map (λ b. b.now) l) c.in_ok-push-2.ensures.items ∙ map-append (λ b. b.now) c.index_mut.result.now.members.items (_ ∷ []) in
    let group : Group = record { code = c.index_mut.result.now.code; members = c.push-in-loop-resource.new.self } in
    record {
      keys = keys ∙ sym (kinds_more xs r) ∙ ap kinds_of (sym more);
      groups =
          subst (λ (l : List Resource). AreGroups l (set c.if-added.groups.items c.in_ok-place.place group)) (sym more)
          (with_joined xs r c.if-added.groups.items c.in_ok-place.place c.index_mut.result.now group ready (subst (IsDistinct nat_eq) (sym same) c.in_ok-place.ensures.unique) at c.index_mut.ensures.value refl members);
    }

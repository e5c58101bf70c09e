use Rattle.std.proofs.Common.{ℕ, [], ◌∷◌, arith, subst, ap, sym, ◌∙◌, ◌++◌, ◌==◌, if◌then◌else◌, length}
use Rattle.std.specs.List.{AllByRecursion}
use Rattle.rz_core.proofs.Lists.{all_append}
use Rattle.rz_fork.specs.Image.{stored_name, reference, reference_to, AreNamed}
use Rattle.rz_fork.proofs.Order.{rest_step, front_step, with_front_step, length_rest, length_front, data_rest, data_front, written_on}
use Rattle.rz_fork.proofs.Written.{HasShortId}
use Rattle.rz_fork.proofs.parts.append_references.Goals as goal

pub append_reference-requires : goal.append_reference-requires
append_reference-requires c = omega (arith, data_rest _ _ c.resource-item.result c.loop-resource-test.true c.resource-item.is)

pub stored_name_length-names_end-requires : goal.stored_name_length-names_end-requires
stored_name_length-names_end-requires c = (subst AreNamed (rest_step _ _ c.resource-item.result c.loop-resource-test.true c.resource-item.is) c.loop-resource.invariant.named).0

pub loop-resource-preserved : goal.loop-resource-preserved
loop-resource-preserved c =
    let r = c.resource-item.result in
    let rest = data_rest _ _ r c.loop-resource-test.true c.resource-item.is in
    let front = data_front _ _ r c.loop-resource-test.true c.resource-item.is in
    let names_left = length_rest _ _ r c.loop-resource-test.true c.resource-item.is stored_name in
    let names_done = length_front _ _ r c.loop-resource-test.true c.resource-item.is stored_name in
    let named = subst AreNamed (rest_step _ _ r c.loop-resource-test.true c.resource-item.is) c.loop-resource.invariant.named in
    let step = with_front_step _ _ r c.loop-resource-test.true c.resource-item.is reference in
    let before = c.loop-resource.invariant in
    record {
      so_far = written_on _ _ _ _ _
          (c.in_ok-append_reference.ensures.reference ∙ (λ i. c.loop-resource.out ++ reference_to ((c.name_offset.ensures ∙ ap (λ (n : ℕ). if length r.now.name == 0 then 65535 else n) before.names_is) i) (before.data_is i) r.now))
          (ap (λ l. c.loop-resource.out ++ l) (sym step) ∙ before.so_far);
      data_is = omega (arith, front);
      data_bound = omega (arith, rest);
      names_is = omega (arith, names_done, c.stored_name_length-names_end.ensures);
      names_bound = omega (arith, names_left, c.stored_name_length-names_end.ensures);
      ids =
          subst (AllByRecursion HasShortId) (sym (front_step _ _ r c.loop-resource-test.true c.resource-item.is))
          (all_append HasShortId _ (r.now ∷ []) before.ids (c.append_reference.ensures.id, tt));
      named = named.1;
    }

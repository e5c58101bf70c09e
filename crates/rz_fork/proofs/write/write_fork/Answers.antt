use Rattle.std.proofs.Common.{◌≡◌, ◌<◌, ◌-◌, ◌++◌, length, replicate, Ok, Some, None, ap, sym, arith, ◌∙◌, subst}
use Rattle.std.specs.List.{AllByRecursion}
use Rattle.rz_core.specs.Lists.{unless_fault}
use Rattle.rz_fork.specs.Admit.{admitted}
use Rattle.rz_fork.specs.Groups.{shown}
use Rattle.rz_fork.specs.Image.{first_limit, grouped, image, AreNamed}
use Rattle.rz_fork.proofs.Law.{IsReadable, image_admitted}
use Rattle.rz_fork.proofs.Regroup.{order_of, limit_is, whole_is, codes_fit, all_grouped}
use Rattle.rz_fork.proofs.Written.{HasShortId}
use Rattle.rz_fork.proofs.write.write_fork.Goals as goal

pub first_limit-requires : goal.first_limit-requires
first_limit-requires c =
    let order = order_of _ _ _ c.as_slice.ensures c.in_ok-groups.ensures _ _ c.deref.ensures.value (ap shown c.deref-2.ensures.value ∙ c.in_ok-order.ensures) in
    subst AreNamed (sym order) (all_grouped (λ r. length r.name < 256) c.args.list.now c.requires.names)

pub returns-in-Some-clause-fork : goal.returns-in-Some-clause-fork
returns-in-Some-clause-fork c =
    let order = order_of _ _ _ c.as_slice.ensures c.in_ok-groups.ensures _ _ c.deref.ensures.value (ap shown c.deref-2.ensures.value ∙ c.in_ok-order.ensures) in
    let limit = limit_is _ _ _ c.as_slice.ensures c.in_ok-groups.ensures c.len.result _ (omega (arith, c.len.ensures)) order in
    let first : first_limit c.args.list.now ≡ Some c.in-Some.fault = sym (c.in-Some.ensures.first ∙ limit) in
    ap (λ f. unless_fault f (image c.args.list.now c.args.attributes c.args.reserved.now)) first

pub write_image-requires-clause-named : goal.write_image-requires-clause-named
write_image-requires-clause-named c =
    let order = order_of _ _ _ c.as_slice.ensures c.in_ok-groups.ensures _ _ c.deref.ensures.value (ap shown c.deref-4.ensures.value ∙ c.in_ok-order.ensures) in
    subst AreNamed (sym order) (all_grouped (λ r. length r.name < 256) c.args.list.now c.requires.names)

pub returns-clause-fork : goal.returns-clause-fork
returns-clause-fork c =
    let same = c.bits.ensures tt in
    let order = order_of _ _ _ c.as_slice.ensures c.in_ok-groups.ensures _ _ c.deref.ensures.value (ap shown c.deref-2.ensures.value ∙ c.in_ok-order.ensures) in
    let limit = limit_is _ _ _ c.as_slice.ensures c.in_ok-groups.ensures c.len.result _ (omega (arith, c.len.ensures)) order in
    let first : first_limit c.args.list.now ≡ None = sym (c.in_default.ensures.first ∙ limit) in
    let again = order_of _ _ _ c.as_slice.ensures c.in_ok-groups.ensures _ _ c.deref.ensures.value (ap shown c.deref-4.ensures.value ∙ c.in_ok-order.ensures) in
    let whole = whole_is _ _ _ c.as_slice.ensures c.in_ok-groups.ensures c.bits.result c.args.reserved.now _ _ c.deref-3.ensures.value again in
    ap (λ f. unless_fault f (image c.args.list.now c.args.attributes c.args.reserved.now)) first
    ∙ ap (λ attributes. Ok (image c.args.list.now attributes c.args.reserved.now)) (sym same) ∙ ap (λ b. Ok b) (sym (c.in_ok-write_image.ensures.image ∙ whole))

pub returns-clause-again : goal.returns-clause-again
returns-clause-again c =
    let list = c.args.list.now in
    let same = c.bits.ensures tt in
    let order = order_of _ _ _ c.as_slice.ensures c.in_ok-groups.ensures _ _ c.deref.ensures.value (ap shown c.deref-2.ensures.value ∙ c.in_ok-order.ensures) in
    let limit = limit_is _ _ _ c.as_slice.ensures c.in_ok-groups.ensures c.len.result _ (omega (arith, c.len.ensures)) order in
    let again = order_of _ _ _ c.as_slice.ensures c.in_ok-groups.ensures _ _ c.deref.ensures.value (ap shown c.deref-4.ensures.value ∙ c.in_ok-order.ensures) in
    let whole = whole_is _ _ _ c.as_slice.ensures c.in_ok-groups.ensures c.bits.result c.args.reserved.now _ _ c.deref-3.ensures.value again in
    let ranges = c.in_ok-write_image.ensures.ranges in
    let readable : IsReadable list c.bits.result c.args.reserved.now = record {
      keys = c.requires.keys;
      codes = codes_fit _ _ _ c.as_slice.ensures c.in_ok-groups.ensures _ c.deref-3.ensures.value ranges.codes;
      ids = subst (AllByRecursion HasShortId) again ranges.ids;
      limits = sym (c.in_default.ensures.first ∙ limit);
      attributes_fit = omega arith;
      room = c.requires.room;
    } in
    ap admitted (c.in_ok-write_image.ensures.image ∙ whole) ∙ image_admitted list c.bits.result c.args.reserved.now readable
    ∙ ap (λ attributes. Ok (record { list = grouped list; attributes = attributes; reserved = c.args.reserved.now ++ replicate (240 - length c.args.reserved.now) 0 })) same

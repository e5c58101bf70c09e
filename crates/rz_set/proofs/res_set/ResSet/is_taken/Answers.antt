use Rattle.std.proofs.Common.{rules, ◌≡◌, ◌==◌, ◌&&◌, Bool, true, false, Some, None, refl, sym, ap, subst, ◌∙◌, arith}
use Rattle.std.proofs.lemmas.Bool.Decides.{nat_tests}
use Rattle.std.proofs.lemmas.Int.{to_z-of_z}
use Rattle.std.specs.Int.{cast_unsigned, w16}
use Rattle.std.specs.List.{list_any}
use Rattle.rz_core.specs.Resources.{id_bits}
use Rattle.rz_set.specs.Fates.{IsForOne}
use Rattle.rz_set.specs.ResSet.{found}
use Rattle.rz_set.specs.Wanted.{is_wanted}
use Rattle.rz_set.proofs.Picks.{wanted_kind}
use Rattle.rz_set.proofs.Taken.{holds, taken_by_id, taken_by_none, taken_by_type}
use Rattle.rz_set.proofs.res_set.ResSet.is_taken.Goals as goal

pub returns-in-Some : goal.returns-in-Some
returns-in-Some c =
    let test = is_wanted c.args.wanted in
    let kinds : (c.args.head.now.kind.code == c.args.resource.now.kind.code) ≡ true = let same = c.if-head-resource.true in grind (arith, nat_tests, same) in
    let there : list_any test c.args.self.now ≡ true = subst (IsForOne test c.args.self.now) c.in-Some.is c.requires in
    let bits : c.cast_unsigned.result ≡ cast_unsigned w16 c.in-Some.id = cc (c.cast_unsigned.ensures, to_z-of_z w16 c.in-Some.id (search rules)) in
    let own : c.cast_unsigned-in-Some.result ≡ id_bits c.args.resource.now = cc (c.cast_unsigned-in-Some.ensures, to_z-of_z w16 c.args.resource.now.id (search rules)) in
    (λ i. bits i == own i)
    ∙ ap (λ (b : Bool). b && (cast_unsigned w16 c.in-Some.id == id_bits c.args.resource.now)) (sym kinds)
    ∙ sym (taken_by_id test c.args.head.now c.args.resource.now c.in-Some.id c.in-Some.is c.args.self.now there)

pub returns-in-Some-find : goal.returns-in-Some-find
returns-in-Some-find c =
    let test = is_wanted c.args.wanted in
    let kinds : (c.args.head.now.kind.code == c.args.resource.now.kind.code) ≡ true = let same = c.if-head-resource.true in grind (arith, nat_tests, same) in
    let one : found c.args.wanted.kind c.args.resource.now.id c.args.self.now ≡ Some c.in-Some-find.one.now = cc (c.in-Some-find.ensures, to_z-of_z w16 c.args.resource.now.id (search rules)) in
    c.holds.ensures c.in-Some-find.one.now refl (sym (to_z-of_z w16 c.in-Some-find.one.now.id (search rules)))
    ∙ ap (holds test) (sym one)
    ∙ ap (λ (b : Bool). b && holds test (found c.args.wanted.kind c.args.resource.now.id c.args.self.now)) (sym kinds)
    ∙ sym (taken_by_type test c.args.head.now c.args.resource.now c.in-None.is c.args.wanted.kind (wanted_kind c.args.wanted) c.args.self.now c.keys_differ.ensures)

pub returns-in-None-find : goal.returns-in-None-find
returns-in-None-find c =
    let test = is_wanted c.args.wanted in
    let kinds : (c.args.head.now.kind.code == c.args.resource.now.kind.code) ≡ true = let same = c.if-head-resource.true in grind (arith, nat_tests, same) in
    let none : found c.args.wanted.kind c.args.resource.now.id c.args.self.now ≡ None = cc (c.in-None-find.ensures, to_z-of_z w16 c.args.resource.now.id (search rules)) in
    ap (holds test) (sym none)
    ∙ ap (λ (b : Bool). b && holds test (found c.args.wanted.kind c.args.resource.now.id c.args.self.now)) (sym kinds)
    ∙ sym (taken_by_type test c.args.head.now c.args.resource.now c.in-None.is c.args.wanted.kind (wanted_kind c.args.wanted) c.args.self.now c.keys_differ.ensures)

pub returns-else-head-resource : goal.returns-else-head-resource
returns-else-head-resource c =
    let other : (c.args.head.now.kind.code == c.args.resource.now.kind.code) ≡ false = let other = c.if-head-resource.false in grind (arith, nat_tests, other) in
    other ∙ sym (taken_by_none (is_wanted c.args.wanted) c.args.head.now c.args.resource.now c.args.self.now other)

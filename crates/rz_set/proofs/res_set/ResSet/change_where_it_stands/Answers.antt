use Rattle.std.proofs.Common.{rules, ◌≡◌, List, Some, None, sym, ap, ◌∙◌}
use Rattle.std.proofs.lemmas.Int.{to_z-of_z}
use Rattle.std.specs.Int.{cast_unsigned, w16}
use Rattle.std.specs.Map.{lookup, set_value}
use Rattle.rz_core.specs.declared.resource.Resource.{Resource}
use Rattle.rz_set.specs.After.{under_head}
use Rattle.rz_set.specs.Change.{changed}
use Rattle.rz_set.specs.ResSet.{has_key, values_of}
use Rattle.rz_set.proofs.Puts.{key_eq}
use Rattle.rz_set.proofs.Stands.{none_stands, stands_keyed, stands_values}
use Rattle.rz_set.proofs.res_set.ResSet.change_where_it_stands.Goals as goal

pub returns-in_default : goal.returns-in_default
returns-in_default c =
    let entries = c.self.inside.map.entries in
    let bits : c.cast_unsigned.result ≡ cast_unsigned w16 c.args.id = c.cast_unsigned.ensures ∙ ap (cast_unsigned w16) (to_z-of_z w16 c.args.id c.ranges.id) in
    let none : lookup (key_eq (c.args.kind.code, c.cast_unsigned.result)) entries ≡ None = search rules in
    ap (λ m. values_of m.entries) c.get_mut.follows.holds-at-none
    ∙ none_stands c.args.kind c.args.id c.args.head c.requires.key entries entries c.self.invariant c.cast_unsigned.result bits none
    ∙ ap (λ (l : List Resource). changed (has_key c.args.kind c.args.id) c.args.head l) c.self.view_is

pub invariant_of-self-2 : goal.invariant_of-self-2
invariant_of-self-2 c =
    let entries = c.self.inside.map.entries in
    let after = (c.get_mut.follows.lender c.come_under.new.resource).entries in
    let bits : c.cast_unsigned.result ≡ cast_unsigned w16 c.args.id = c.cast_unsigned.ensures ∙ ap (cast_unsigned w16) (to_z-of_z w16 c.args.id c.ranges.id) in
    let there : lookup (key_eq (c.args.kind.code, c.cast_unsigned.result)) entries ≡ Some c.in-Some.one.now = sym c.in-Some.ensures.value in
    let written : after ≡ set_value (key_eq (c.args.kind.code, c.cast_unsigned.result)) entries (under_head c.args.head c.in-Some.one.now) =
    (c.get_mut.follows.holds c.come_under.new.resource).0 ∙ ap (set_value (key_eq (c.args.kind.code, c.cast_unsigned.result)) entries) c.come_under.ensures in
    stands_keyed c.args.kind c.args.id c.args.head c.requires.key entries after c.self.invariant c.cast_unsigned.result bits c.in-Some.one.now there written c.requires.name

pub returns : goal.returns
returns c =
    let entries = c.self.inside.map.entries in
    let after = (c.get_mut.follows.lender c.come_under.new.resource).entries in
    let bits : c.cast_unsigned.result ≡ cast_unsigned w16 c.args.id = c.cast_unsigned.ensures ∙ ap (cast_unsigned w16) (to_z-of_z w16 c.args.id c.ranges.id) in
    let there : lookup (key_eq (c.args.kind.code, c.cast_unsigned.result)) entries ≡ Some c.in-Some.one.now = sym c.in-Some.ensures.value in
    let written : after ≡ set_value (key_eq (c.args.kind.code, c.cast_unsigned.result)) entries (under_head c.args.head c.in-Some.one.now) =
    (c.get_mut.follows.holds c.come_under.new.resource).0 ∙ ap (set_value (key_eq (c.args.kind.code, c.cast_unsigned.result)) entries) c.come_under.ensures in
    stands_values c.args.kind c.args.id c.args.head c.requires.key entries after c.self.invariant c.cast_unsigned.result bits c.in-Some.one.now there written
    ∙ ap (λ (l : List Resource). changed (has_key c.args.kind c.args.id) c.args.head l) c.self.view_is

use Rattle.std.proofs.Common.{◌≡◌, ℕ, ap, ◌∙◌}
use Rattle.std.proofs.lemmas.Int.{to_z-of_z}
use Rattle.std.specs.Int.{cast_unsigned, w16}
use Rattle.std.specs.Map.{lookup}
use Rattle.rz_set.specs.ResSet.{found}
use Rattle.rz_set.proofs.Finds.{found_in_map}
use Rattle.rz_set.proofs.Puts.{key_eq}
use Rattle.rz_set.proofs.res_set.ResSet.find.Goals as goal

pub returns : goal.returns
returns c =
    let bits : c.cast_unsigned.result ≡ cast_unsigned w16 c.args.id = c.cast_unsigned.ensures ∙ ap (cast_unsigned w16) (to_z-of_z w16 c.args.id c.ranges.id) in
    c.get.ensures.value
    ∙ ap (λ (n : ℕ). lookup (key_eq (c.args.kind.code, n)) c.self.inside.map.entries) bits
    ∙ found_in_map c.args.kind c.args.id c.self.inside.map.entries c.self.invariant
    ∙ ap (found c.args.kind c.args.id) c.self.view_is

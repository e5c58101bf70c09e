use Rattle.std.proofs.Common.{◌≡◌, ℕ, ℤ, not, List, filter, sym, ap, subst, ◌∙◌}
use Rattle.std.proofs.lemmas.Int.{to_z-of_z}
use Rattle.std.specs.Int.{cast_unsigned, w16}
use Rattle.std.specs.Map.{remove_entry}
use Rattle.rz_core.specs.declared.resource.OsType.{OsType}
use Rattle.rz_core.specs.declared.resource.Resource.{Resource}
use Rattle.rz_set.specs.ResSet.{has_key, values_of, AreKeyed}
use Rattle.rz_set.proofs.Alone.{out_of_map}
use Rattle.rz_set.proofs.Kept.{are_keyed, values_kept}
use Rattle.rz_set.proofs.Puts.{key_eq}
use Rattle.rz_set.proofs.res_set.ResSet.take_one_out.Goals as goal

-- without the key the map has the entries of the others
entries_left : (kind : OsType) (id : ℤ) (bits : ℕ) (entries after : List ((ℕ × ℕ) × Resource)) → AreKeyed entries → bits ≡ cast_unsigned w16 id
    → after ≡ remove_entry (key_eq (kind.code, bits)) entries → after ≡ filter (λ e. not (has_key kind id e.1)) entries
entries_left kind id bits entries after keyed same is =
    is ∙ ap (λ (n : ℕ). remove_entry (key_eq (kind.code, n)) entries) same ∙ out_of_map kind id entries keyed

pub invariant_of-self : goal.invariant_of-self
invariant_of-self c =
    let bits : c.cast_unsigned.result ≡ cast_unsigned w16 c.args.id = c.cast_unsigned.ensures ∙ ap (cast_unsigned w16) (to_z-of_z w16 c.args.id c.ranges.id) in
    subst AreKeyed (sym (entries_left c.args.kind c.args.id c.cast_unsigned.result c.self.inside.map.entries _ c.self.invariant bits c.shift_remove.ensures.entries))
    (are_keyed (λ r. not (has_key c.args.kind c.args.id r)) c.self.inside.map.entries c.self.invariant)

pub returns : goal.returns
returns c =
    let bits : c.cast_unsigned.result ≡ cast_unsigned w16 c.args.id = c.cast_unsigned.ensures ∙ ap (cast_unsigned w16) (to_z-of_z w16 c.args.id c.ranges.id) in
    ap values_of (entries_left c.args.kind c.args.id c.cast_unsigned.result c.self.inside.map.entries _ c.self.invariant bits c.shift_remove.ensures.entries)
    ∙ values_kept (λ r. not (has_key c.args.kind c.args.id r)) c.self.inside.map.entries
    ∙ ap (λ (l : List Resource). filter (λ r. not (has_key c.args.kind c.args.id r)) l) c.self.view_is

use Rattle.std.proofs.Common.{◌≡◌, List, [], ◌∷◌, None, sym, subst, slice_index_or}
use Rattle.rz_types_fields.specs.declared.keys.CaseKey.{CaseKey}
use Rattle.rz_types.specs.Rules.{key_rule}
use Rattle.rz_types_check.specs.Keys.{AreAlike, HaveBits}
use Rattle.rz_types_check.proofs.KeysAlike.{alike_more, bits_more}
use Rattle.rz_types_check.proofs.keys.Keys.push.Goals as goal

-- keys that break no rule are one
alone : (own before : List CaseKey) (otherwise : CaseKey) → key_rule own before ≡ None → key_rule (slice_index_or own 0 otherwise ∷ []) before ≡ None
alone [] before otherwise none = absurd cc
alone (key ∷ []) before otherwise none = none
alone (key ∷ other ∷ rest) before otherwise none = absurd cc

pub invariant_of-self-in-Ok : goal.invariant_of-self-in-Ok
invariant_of-self-in-Ok c =
    let before = c.args.self.now.list.items in
    let none = alone c.args.own.now before _ c.requires in record {
      alike = subst AreAlike (sym c.in_ok-push.ensures.items) (alike_more _ before c.args.self.now.alike none);
      held = subst (HaveBits c.insert.new.self.keys) (sym c.in_ok-push.ensures.items)
          (bits_more _ _ before _ c.in-Ok.field-0 c.args.self.now.held none c.in-Ok.ensures.added c.in-Ok.ensures.keys);
    }

use Rattle.std.proofs.Common.{cond, Option, ℕ, Some, sym, ap, ◌∙◌}
use Rattle.std.specs.Option.{is_some}
use Rattle.rz_catalog.specs.Held.{key_eq}
use Rattle.rz_catalog.proofs.Firsts.{flip_key, goes_first, same_key, stays_first}
use Rattle.rz_catalog.proofs.held.note.Goals as goal

pub returns-in_ok-insert : goal.returns-in_ok-insert
returns-in_ok-insert c keys size are k =
    c.in_ok-insert.ensures.updates.0 k ∙ ap (λ (o : Option ℕ). cond (key_eq c.args.key k) (Some c.args.position) o) (are k)
    ∙ sym (goes_first key_eq same_key flip_key keys c.args.key k c.args.position size
    (sym (ap is_some (are c.args.key)) ∙ sym c.contains_key.ensures ∙ c.if-not-contains_key.true))

pub returns-else-not-contains_key : goal.returns-else-not-contains_key
returns-else-not-contains_key c keys size are k =
    are k ∙ sym (stays_first key_eq same_key flip_key keys c.args.key k (sym (ap is_some (are c.args.key)) ∙ sym c.contains_key.ensures ∙ c.if-not-contains_key.false))

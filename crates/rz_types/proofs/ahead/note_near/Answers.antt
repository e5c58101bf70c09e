use Rattle.std.proofs.Common.{sym, ap, ◌∙◌}
use Rattle.std.specs.Prelude.{option_map}
use Rattle.rz_types_fields.specs.Field.{plain_field}
use Rattle.rz_types.proofs.NearLabels.{near_named, near_other}
use Rattle.rz_types.proofs.Noted.{tells_where}
use Rattle.rz_types.proofs.ahead.note_near.Goals as goal

pub returns-in_ok-push-in-Some : goal.returns-in_ok-push-in-Some
returns-in_ok-push-in-Some c =
    near_named (plain_field c.args.field.now) c.in-Some.name.now c.args.near.now.items c.push.new.self.items _
    (sym c.label_of.ensures ∙ ap (option_map (λ name. name.now)) c.in-Some.is) c.in_ok-push-in-Some.ensures.items (λ key before. tells_where _ _ before)

pub returns-in-None : goal.returns-in-None
returns-in-None c =
    near_other (plain_field c.args.field.now) c.args.near.now.items (sym c.label_of.ensures ∙ ap (option_map (λ name. name.now)) c.in-None.is)

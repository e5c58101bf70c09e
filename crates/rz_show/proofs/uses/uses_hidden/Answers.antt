use Rattle.std.proofs.Common.{sym, ap, subst, ◌∙◌}
use Rattle.rz_types.proofs.Cased.{names_apart}
use Rattle.rz_types.specs.Cases.{AreNamesApart}
use Rattle.rz_types.specs.Field.{plain_body}
use Rattle.rz_types.specs.Template.{template_of}
use Rattle.rz_show.proofs.uses.uses_hidden.Goals as goal

pub row_uses-requires : goal.row_uses-requires
row_uses-requires c =
    subst AreNamesApart (sym (ap plain_body c.as_slice.ensures ∙ c.body.ensures.body))
    (names_apart (template_of c.args.template.now) (c.rules_hold_within.ensures (template_of c.args.template.now) c.body.ensures.kept))

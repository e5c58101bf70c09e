use Rattle.std.proofs.Common.{Bool, sym, ap, ◌∙◌}
use Rattle.std.specs.Prelude.{not}
use Rattle.rz_types.specs.Field.{plain_body}
use Rattle.rz_show.specs.Lines.{comma_if}
use Rattle.rz_show.proofs.Left.{more_is}
use Rattle.rz_show.proofs.open_list.OpenList.has_more.Goals as goal

pub returns : goal.returns
returns c = λ hidden.
    let list = c.args.self.now in
    more_is hidden (plain_body list.row.now) list.fields.now list.values.now list.rows.now c.requires.settled ∙ ap (λ (b : Bool). comma_if (not b)) (sym c.is_empty.ensures)

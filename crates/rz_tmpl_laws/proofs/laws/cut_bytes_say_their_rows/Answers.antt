use Rattle.std.proofs.Common.{arith}
use Rattle.rz_tmpl_laws.proofs.Few.{are_whole}
use Rattle.rz_tmpl_laws.proofs.laws.cut_bytes_say_their_rows.Goals as goal

pub returns : goal.returns
returns c = λ tmpl items small cut.
    let is = are_whole tmpl items cut in
    let few = is.few in (
      c.closed_templates_are_readable.ensures items is.kept is.ends,
      λ known row bytes. c.said_rows_are_plain.ensures known items row bytes is.kept is.ends (omega (arith, few, small)),
    )

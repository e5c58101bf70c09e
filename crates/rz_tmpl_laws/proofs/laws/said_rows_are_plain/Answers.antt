use Rattle.rz_tmpl.specs.Body.{tmpl_body}
use Rattle.rz_tmpl_laws.proofs.Whole.{said_is}
use Rattle.rz_tmpl_laws.proofs.laws.said_rows_are_plain.Goals as goal

pub returns : goal.returns
returns c = said_is (λ known items. c.spelled_bytes_are_few.ensures.plainly known (tmpl_body items))

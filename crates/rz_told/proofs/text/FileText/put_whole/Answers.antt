use Rattle.std.proofs.Common.{ap}
use Rattle.rz_fork.specs.Contents.{Fork}
use Rattle.rz_told.proofs.Parted.{contents_are}
use Rattle.rz_told.proofs.Putting.{puts_as}
use Rattle.rz_told.specs.Held.{text_of}
use Rattle.rz_told.specs.Text.{file_text}
use Rattle.rz_told.proofs.text.FileText.put_whole.Goals as goal

pub returns-in-Ok : goal.returns-in-Ok
returns-in-Ok g c =
    let t = c.args.self.now in
    puts_as g.O.Sink (text_of t)
    (ap (λ (fork : Fork). file_text t.form t.file fork.list) (contents_are t.file.res_fork c.as_slice.result.now c.as_slice.ensures c.in-Ok.fork c.in-Ok.ensures.ok))
    c.put_text.ensures

use Rattle.rz_told.proofs.Parted.{text_is}
use Rattle.rz_told.proofs.Putting.{puts_as, puts_end, puts_stop, puts_then}
use Rattle.rz_told.specs.Text.{file_text}
use Rattle.rz_told.proofs.text.FileText.put_text.Goals as goal

pub returns-in_err-put_facts : goal.returns-in_err-put_facts
returns-in_err-put_facts g c =
    let t = c.args.self.now in
    puts_as g.O.Sink (file_text t.form t.file c.args.fork.now.list) (text_is t.form t.file c.args.fork.now.list)
    (puts_end g.O.Sink c.from_residual.result c.from_residual.ensures.1 (puts_stop g.O.Sink _ (puts_stop g.O.Sink _ c.in_err-put_facts.ensures)))

pub returns-in_err-put_resources : goal.returns-in_err-put_resources
returns-in_err-put_resources g c =
    let t = c.args.self.now in
    puts_as g.O.Sink (file_text t.form t.file c.args.fork.now.list) (text_is t.form t.file c.args.fork.now.list)
    (puts_end g.O.Sink c.from_residual-in_err-put_resources.result c.from_residual-in_err-put_resources.ensures.1
    (puts_stop g.O.Sink _ (puts_then g.O.Sink _ c.in_ok-put_facts.ensures c.in_err-put_resources.ensures)))

pub returns : goal.returns
returns g c =
    let t = c.args.self.now in
    puts_as g.O.Sink (file_text t.form t.file c.args.fork.now.list) (text_is t.form t.file c.args.fork.now.list)
    (puts_then g.O.Sink _ (puts_then g.O.Sink _ c.in_ok-put_facts.ensures c.in_ok-put_resources.ensures) (rw c.count.ensures at c.put_line.ensures))

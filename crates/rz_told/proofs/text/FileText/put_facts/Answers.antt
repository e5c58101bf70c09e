use Rattle.rz_told.proofs.Parted.{facts_are}
use Rattle.rz_told.proofs.Putting.{puts_as, puts_end, puts_stop, puts_then}
use Rattle.rz_told.proofs.text.FileText.put_facts.Goals as goal

pub returns-in_err-put_bytes : goal.returns-in_err-put_bytes
returns-in_err-put_bytes g c =
    let t = c.args.self.now in
    puts_as g.O.Sink _ (facts_are t.form t.file)
    (puts_end g.O.Sink c.from_residual.result c.from_residual.ensures.1 (puts_stop g.O.Sink _ (puts_stop g.O.Sink _ (rw c.before_name.ensures at c.in_err-put_bytes.ensures))))

pub returns-in_err-put_name : goal.returns-in_err-put_name
returns-in_err-put_name g c =
    let t = c.args.self.now in
    puts_as g.O.Sink _ (facts_are t.form t.file)
    (puts_end g.O.Sink c.from_residual-in_err-put_name.result c.from_residual-in_err-put_name.ensures.1
    (puts_stop g.O.Sink _ (puts_then g.O.Sink _ (rw c.before_name.ensures at c.in_ok-put_bytes.ensures) c.in_err-put_name.ensures)))

pub returns : goal.returns
returns g c =
    let t = c.args.self.now in
    puts_as g.O.Sink _ (facts_are t.form t.file)
    (puts_then g.O.Sink _ (puts_then g.O.Sink _ (rw c.before_name.ensures at c.in_ok-put_bytes.ensures) c.in_ok-put_name.ensures) (rw c.after_name.ensures at c.put_line.ensures))

use Rattle.std.proofs.Common.{sym, ◌∙◌}
use Rattle.rz_fork.specs.View.{lent}
use Rattle.rz_told.proofs.Parted.{named_is, no_name, unnamed_is}
use Rattle.rz_told.proofs.Putting.{puts_as, puts_end, puts_stop, puts_then}
use Rattle.rz_told.proofs.resource.put_resource.Goals as goal

pub returns-then-is_empty : goal.returns-then-is_empty
returns-then-is_empty g c = puts_as g.O.Sink _ (unnamed_is (lent c.args.view.now) (no_name c.args.view.now.name.now (sym c.is_empty.ensures ∙ c.if-is_empty.true))) (rw c.unnamed.ensures at c.put_line.ensures)

pub returns-in_err-put_line : goal.returns-in_err-put_line
returns-in_err-put_line g c =
    puts_as g.O.Sink _ (named_is (lent c.args.view.now) (sym c.is_empty.ensures ∙ c.if-is_empty.false))
    (puts_end g.O.Sink c.from_residual.result c.from_residual.ensures.1 (puts_stop g.O.Sink _ (puts_stop g.O.Sink _ (rw c.before_name.ensures at c.in_err-put_line.ensures))))

pub returns-in_err-put_shown : goal.returns-in_err-put_shown
returns-in_err-put_shown g c =
    puts_as g.O.Sink _ (named_is (lent c.args.view.now) (sym c.is_empty.ensures ∙ c.if-is_empty.false))
    (puts_end g.O.Sink c.from_residual-in_err-put_shown.result c.from_residual-in_err-put_shown.ensures.1
    (puts_stop g.O.Sink _ (puts_then g.O.Sink _ (rw c.before_name.ensures at c.in_ok-put_line.ensures) c.in_err-put_shown.ensures)))

pub returns : goal.returns
returns g c =
    puts_as g.O.Sink _ (named_is (lent c.args.view.now) (sym c.is_empty.ensures ∙ c.if-is_empty.false))
    (puts_then g.O.Sink _ (puts_then g.O.Sink _ (rw c.before_name.ensures at c.in_ok-put_line.ensures) c.in_ok-put_shown.ensures) (rw c.after_name.ensures at c.put_line-3.ensures))

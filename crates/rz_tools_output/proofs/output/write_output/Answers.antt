use Rattle.std.proofs.Common.{◌≡◌, Ok, Err}
use Rattle.std.proofs.lemmas.Result.{err_from_is_err_and}
use Rattle.rz_tools_output.specs.Base.{attributes_asked, base_with}
use Rattle.rz_tools_output.specs.Output.{list_fork, target, IsFileOf}
use Rattle.rz_core.proofs.Stops.{gives_meets, then_meets, then_stops}
use Rattle.rz_tools_output.proofs.output.write_output.Goals as goal

pub returns-clause-output : goal.returns-clause-output
returns-clause-output c others =
    let asked = target c.args.into.now in
    let base = base_with c.args.base others in
    let list = c.args.list.now in
    let attributes = c.attributes_asked-attributes.ensures others in
    then_meets (λ fork. fork ≡ list_fork (attributes_asked asked.read_only base) base.fork.reserved list) (IsFileOf asked c.args.moment base) c.in_ok-fork.fork
    (gives_meets (list_fork c.attributes_asked-attributes.result c.as_slice.result.now list) (list_fork (attributes_asked asked.read_only base) base.fork.reserved list)
    (λ i. list_fork (attributes i) (c.as_slice.ensures i) list) (Ok c.in_ok-fork.fork) c.in_ok-fork.ensures.fork)
    c.write_file.result (c.write_file.ensures.output others)

pub returns-in_err-fork-clause-output : goal.returns-in_err-fork-clause-output
returns-in_err-fork-clause-output c others =
    let asked = target c.args.into.now in
    let base = base_with c.args.base others in
    let list = c.args.list.now in
    let stop = c.in_err-fork.field-0.0 in
    let attributes = c.attributes_asked-attributes.ensures others in
    let p = err_from_is_err_and c.from_residual.result c.from_residual.ensures.1 in
    rw (p.1, p.2) (then_stops (λ fork. fork ≡ list_fork (attributes_asked asked.read_only base) base.fork.reserved list) (IsFileOf asked c.args.moment base) stop
    (gives_meets (list_fork c.attributes_asked-attributes.result c.as_slice.result.now list) (list_fork (attributes_asked asked.read_only base) base.fork.reserved list)
    (λ i. list_fork (attributes i) (c.as_slice.ensures i) list) (Err stop) c.in_err-fork.ensures.fork))

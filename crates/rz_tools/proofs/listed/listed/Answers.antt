use Rattle.std.proofs.Common.{ℕ, List, [], sym, subst}
use Rattle.rz_core.specs.declared.resource.Resource.{Resource}
use Rattle.rz_fork.specs.View.{lent}
use Rattle.rz_types_table.specs.TypeTable.{table_of}
use Rattle.rz_tools.proofs.ListedAll.{begins, ends, goes_on, IsSoFar}
use Rattle.rz_tools.proofs.listed.listed.Goals as goal

pub loop-one-init : goal.loop-one-init
loop-one-init c =
    let types = table_of c.args.types.now in
    let list = c.args.fork.now.list in
    subst (λ (text : List ℕ). IsSoFar types c.args.moment list [] c.walk-walk.result text) (sym c.new-text.ensures)
    (subst (λ (rest : List Resource). IsSoFar types c.args.moment list [] rest []) (sym c.walk-walk.ensures) (begins types c.args.moment list []))

pub loop-one-preserved : goal.loop-one-preserved
loop-one-preserved c =
    let types = table_of c.args.types.now in
    goes_on types c.args.moment c.args.fork.now.list [] (lent c.in-Some.one) c.next.new.self c.loop-one.text c.append_one.new.text c.in_ok-append_one.ensures
    (subst (λ (rest : List Resource). IsSoFar types c.args.moment c.args.fork.now.list [] rest c.loop-one.text) (rw c.in-Some.is at c.next.ensures) c.loop-one.invariant)

pub returns : goal.returns
returns c =
    let types = table_of c.args.types.now in
    let all = c.every_catalogue.ensures types c.args.moment c.args.fork.now.list in (
      all.0,
      all.1,
      ends types c.args.moment c.args.fork.now.list [] c.loop-one.text
          (subst (λ (rest : List Resource). IsSoFar types c.args.moment c.args.fork.now.list [] rest c.loop-one.text) (rw c.in_default.is at c.next.ensures).0 c.loop-one.invariant) all.0 all.1,
    )

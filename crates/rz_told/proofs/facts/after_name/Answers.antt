use Rattle.rz_told.proofs.Sizes.{after_name_size, two_written}
use Rattle.rz_told.specs.Parts.{carried_rest, fork_fact}
use Rattle.rz_told.proofs.facts.after_name.Goals as goal

pub returns : goal.returns
returns c =
    let file = c.args.file.now in
    two_written c.new-line.result c.carried_rest.new.line c.fork_fact.new.line (carried_rest c.args.form file) (fork_fact file) c.new-line.ensures c.carried_rest.ensures c.fork_fact.ensures
    (after_name_size c.args.form file c.are_stored.ensures)

use Rattle.std.proofs.Common.{ap, ◌∙◌, sym}
use Rattle.rz_core.specs.Lists.{unless_fault}
use Rattle.rz_types_fields.specs.Field.{plain_body}
use Rattle.rz_types_check.specs.Walked.{met_of}
use Rattle.rz_types_check.proofs.Walks.{check_done, check_refused}
use Rattle.rz_types_check.proofs.walk.walk_whole.Goals as goal

pub returns-in-Err : goal.returns-in-Err
returns-in-Err c =
    check_refused (plain_body c.args.fields.now) c.args.walk.now
    c.requires.scope c.requires.names c.requires.position c.requires.unknown c.walk_body.new.walk c.in-Err.stop c.in-Err.ensures

pub returns-in-Some : goal.returns-in-Some
returns-in-Some c =
    check_done (plain_body c.args.fields.now) c.args.walk.now
    c.requires.scope c.requires.names c.requires.position c.requires.unknown (met_of c.walk_body.new.walk) c.in-Ok.ensures.0
    ∙ ap (λ unknown. unless_fault unknown (tt {0})) (sym c.take.ensures.value ∙ c.in-Some.is)

pub returns-in-None : goal.returns-in-None
returns-in-None c =
    check_done (plain_body c.args.fields.now) c.args.walk.now
    c.requires.scope c.requires.names c.requires.position c.requires.unknown (met_of c.walk_body.new.walk) c.in-Ok.ensures.0
    ∙ ap (λ unknown. unless_fault unknown (tt {0})) (sym c.take.ensures.value ∙ c.in-None.is)

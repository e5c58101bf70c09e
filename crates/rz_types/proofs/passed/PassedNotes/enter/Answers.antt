use Rattle.rz_types_fields.specs.Field.{plain_body}
use Rattle.rz_types.specs.declared.passed.PassedNotes.{PassedNotes}
use Rattle.rz_types.proofs.Noted.{front_passed}
use Rattle.rz_types.proofs.passed.PassedNotes.enter.Goals as goal

pub returns-clause-passed : goal.returns-clause-passed
returns-clause-passed c =
    let new : PassedNotes = record { met = c.note_front.new.notes; told = c.note_front-2.new.notes; alloc = c.args.self.now.alloc } in
    front_passed (plain_body c.args.row.now) c.args.self.now new c.in_ok-note_front.ensures c.in_ok-note_front-2.ensures

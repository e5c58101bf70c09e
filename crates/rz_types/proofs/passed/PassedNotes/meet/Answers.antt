use Rattle.std.proofs.Common.{refl}
use Rattle.rz_types_fields.specs.Field.{plain_field}
use Rattle.rz_types.specs.declared.passed.PassedNotes.{PassedNotes}
use Rattle.rz_types.proofs.Noted.{meets_grew, meets_passed}
use Rattle.rz_types.proofs.passed.PassedNotes.meet.Goals as goal

pub returns-clause-passed : goal.returns-clause-passed
returns-clause-passed c =
    let new : PassedNotes = record { met = c.meet_field.new.met; told = c.args.self.now.told; alloc = c.args.self.now.alloc } in
    meets_passed (plain_field c.args.field.now) c.args.self.now new c.in_ok-meet_field.ensures refl

pub returns-clause-grew : goal.returns-clause-grew
returns-clause-grew c =
    let new : PassedNotes = record { met = c.meet_field.new.met; told = c.args.self.now.told; alloc = c.args.self.now.alloc } in
    meets_grew (plain_field c.args.field.now) c.args.self.now new c.in_ok-meet_field.ensures refl

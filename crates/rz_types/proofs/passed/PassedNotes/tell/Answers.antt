use Rattle.std.proofs.Common.{refl, sym, ap, ◌∙◌}
use Rattle.rz_expr.specs.Environment.{count_key, place_key}
use Rattle.rz_expr.specs.NameKey.{key_of}
use Rattle.rz_types.specs.Notes.{also_told, passed}
use Rattle.rz_types.specs.declared.passed.PassedNotes.{PassedNotes}
use Rattle.rz_types.proofs.Noted.{tells_passed, tells_where}
use Rattle.rz_types.proofs.passed.PassedNotes.tell.Goals as goal

pub returns-in_ok-push-in-Place-clause-passed : goal.returns-in_ok-push-in-Place-clause-passed
returns-in_ok-push-in-Place-clause-passed c = λ _.
    let new : PassedNotes = record { met = c.args.self.now.met; told = c.push.new.self; alloc = c.args.self.now.alloc } in
    tells_passed (place_key c.in-Place.name.now.bytes) _ c.args.self.now new refl c.in_ok-push-in-Place.ensures.items (λ other before. tells_where _ _ before)
    ∙ ap (λ key. also_told (key_of key) (passed c.args.self.now)) (sym c.in-Place.is)

pub returns-in_ok-push-in-Count-clause-passed : goal.returns-in_ok-push-in-Count-clause-passed
returns-in_ok-push-in-Count-clause-passed c = λ _.
    let new : PassedNotes = record { met = c.args.self.now.met; told = c.push-in-Count.new.self; alloc = c.args.self.now.alloc } in
    tells_passed (count_key c.in-Count.name.now.bytes) _ c.args.self.now new refl c.in_ok-push-in-Count.ensures.items (λ other before. tells_where _ _ before)
    ∙ ap (λ key. also_told (key_of key) (passed c.args.self.now)) (sym c.in-Count.is)

use Rattle.std.proofs.Common.{ℕ, List, Some, sym, subst}
use Rattle.rz_folder.specs.MayRead.{IsOneOf, MayRead}
use Rattle.rz_folder.specs.Names.{missing_file, names_of, utf8_name}
use Rattle.rz_pre.specs.Program.{Enters, Opens}
use Rattle.rz_pre.specs.Reading.{state_of, together, with_state}
use Rattle.rz_core.proofs.Stops.{yields_so}
use Rattle.rz_pre.proofs.Going.{at_some, enters_from}
use Rattle.rz_folder.proofs.Found.{if_some}
use Rattle.rz_pre.proofs.unfolding.open_included.Goals as goal

pub open_file-requires-clause-may : goal.open_file-requires-clause-may
open_file-requires-clause-may g c = subst (λ (names : List (List ℕ)). MayRead g.F.Folder c.args.folder.now (IsOneOf names)) (sym c.in_ok-names.ensures) c.requires.may

pub returns-clause-opened : goal.returns-clause-opened
returns-clause-opened g c = if_some (g.F.Folder.files c.args.folder.now) _ (λ files told.
    yields_so (Opens files (names_of c.args.setting.paths.now (utf8_name c.args.name.now)) (missing_file (Some c.args.mark) c.args.name.now) (state_of c.args.reading.now))
    (Enters files c.args.setting.paths.now c.args.levels c.args.name.now c.args.mark (state_of c.args.reading.now))
    (λ answer. enters_from files c.args.setting.paths.now c.args.levels c.args.name.now c.args.mark (state_of c.args.reading.now) answer c.if-levels-eq0.false)
    (with_state together (state_of c.open_file.new.reading) c.open_file.result)
    (at_some _ files told _ (rw c.in_ok-names.ensures at c.open_file.ensures.opened)))

use Rattle.std.proofs.Common.{subst}
use Rattle.rz_core.specs.Stop.{Yields}
use Rattle.rz_pre.specs.Live.{live_in}
use Rattle.rz_pre.specs.Macros.{rows_of}
use Rattle.rz_pre.specs.Program.{NamesGo, State}
use Rattle.rz_pre.specs.Reading.{alone, state_of, with_state}
use Rattle.rz_pre.proofs.Going.{at_some, starts}
use Rattle.rz_pre.proofs.Lexing.{start_lexed}
use Rattle.rz_folder.proofs.Found.{if_some}
use Rattle.rz_pre.proofs.unfolding.read_all.Goals as goal

pub returns-clause-read : goal.returns-clause-read
returns-clause-read g c = if_some (g.F.Folder.files c.args.folder.now) _ (λ files told.
    subst (λ (s : State). Yields (with_state alone (state_of c.read_names.new.reading) c.read_names.result) (NamesGo c.args.setting.tool files c.args.setting.paths.now c.args.names.now s))
    (starts c.args.reading.now (live_in (rows_of c.define_all.new.macros)) c.args.defs.now c.requires.fresh c.in_ok-define_all.ensures)
    (at_some _ files told _ c.read_names.ensures.read))

pub returns-clause-lexed : goal.returns-clause-lexed
returns-clause-lexed g c = λ lexed. c.read_names.ensures.lexed (start_lexed c.args.defs.now (record { live = live_in (rows_of c.define_all.new.macros); tokens = c.args.reading.now.tokens; files = c.args.reading.now.files }) lexed
    (starts c.args.reading.now (live_in (rows_of c.define_all.new.macros)) c.args.defs.now c.requires.fresh c.in_ok-define_all.ensures))

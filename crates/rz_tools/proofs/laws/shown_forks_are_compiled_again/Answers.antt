use Rattle.std.proofs.Common.{[], refl}
use Rattle.rz_pre.specs.Program.{start}
use Rattle.rz_pre.specs.declared.condition.Tool.TheVariants as tools
use Rattle.rz_tools_text.specs.Chosen.{chosen}
use Rattle.rz_tools.proofs.CompiledAgain.{bare_known, compiles_alone}
use Rattle.rz_tools_text.proofs.Showings.{none_declared}
use Rattle.rz_tools.proofs.Reserved.{words_spared}
use Rattle.rz_tools.proofs.Views.{rez_free}
use Rattle.rz_tools.proofs.laws.shown_forks_are_compiled_again.Goals as goal

pub returns : goal.returns
returns c bytes file fork admits only skip short known none text shows words asked files moment name output is new bare sole held is_output =
    let list = chosen only skip fork.list in
    let live = (start asked.defs).live in
    let spares = words_spared live
    (c.live_names_are_free.ensures files tools.Rez [] asked.paths asked.defs (start asked.defs) (rez_free c.definitions_are_free.ensures words asked is) refl)
    c.keywords_are_spelled.ensures.keyword c.attribute_words_are_spelled.ensures.word in
    compiles_alone text list asked files moment name new bare
    (c.shown_forks_are_read_again.ensures bytes file fork admits only skip short (bare_known live moment) spares text (none_declared known (bare_known live moment) none refl list text shows))
    held output is_output words is sole

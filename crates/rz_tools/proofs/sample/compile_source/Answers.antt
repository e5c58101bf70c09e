use Rattle.std.proofs.Common.{ap, ◌∙◌}
use Rattle.rz_tools.specs.Sample.{rez_of}
use Rattle.rz_tools.proofs.SampleSteps.{compiles_so, never_fails, one_file, one_name}
use Rattle.rz_tools.proofs.sample.compile_source.Goals as goal

pub returns-clause-made : goal.returns-clause-made
returns-clause-made c =
    compiles_so c.args.moment _ _ _ _ (c.rez_words.ensures.asked ∙ ap rez_of (one_name _ _ _ c.new-files.ensures c.in_ok-push.ensures.ok))
    (one_file _ _ _ _ _ c.new-shelf.ensures.files (c.as_slice.ensures ∙ c.in_ok-source.ensures) c.in_ok-hold.ensures) c.compile.result c.compile.ensures.answered

pub returns-clause-bad : goal.returns-clause-bad
returns-clause-bad c = c.compile.ensures.bad

pub returns-clause-unread : goal.returns-clause-unread
returns-clause-unread c = never_fails c.compile.ensures.reads.cause

use Rattle.std.proofs.Common.{ap, ◌∙◌}
use Rattle.rz_tools.specs.Sample.{rez_of}
use Rattle.rz_tools.proofs.SampleSteps.{compiles_so, never_fails, two_files, two_names}
use Rattle.rz_tools.proofs.sample.compile_text.Goals as goal

pub returns-clause-made : goal.returns-clause-made
returns-clause-made c =
    compiles_so c.args.moment _ _ _ _
    (c.rez_words.ensures.asked ∙ ap rez_of (two_names _ _ _ _ _ c.new-files.ensures c.in_ok-push.ensures.ok c.in_ok-push-2.ensures.ok))
    (two_files _ _ _ _ _ _ _ _ _ c.new-shelf.ensures.files c.sample_types.ensures c.in_ok-hold.ensures c.as_slice.ensures c.in_ok-hold-2.ensures) c.compile.result c.compile.ensures.answered

pub returns-clause-bad : goal.returns-clause-bad
returns-clause-bad c = c.compile.ensures.bad

pub returns-clause-unread : goal.returns-clause-unread
returns-clause-unread c = never_fails c.compile.ensures.reads.cause

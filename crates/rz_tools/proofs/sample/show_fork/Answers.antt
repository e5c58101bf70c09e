use Rattle.std.proofs.Common.{ℕ, List, Ok, Err, subst, sym}
use Rattle.std.specs.String.{string_bytes}
use Rattle.rz_tools.specs.DeRez.{Shows}
use Rattle.rz_tools.specs.Held.{derez, making_with}
use Rattle.rz_tools.specs.Sample.{ShowsSample}
use Rattle.rz_tools.proofs.SampleSteps.{end_sayable, end_unread, ended_made, never_fails, same_end, shows_so, two_files}
use Rattle.rz_tools.proofs.sample.show_fork.Goals as goal

pub whole_text-requires : goal.whole_text-requires
whole_text-requires c = c.in_ok-shown.ensures.good.0

pub returns-clause-made : goal.returns-clause-made
returns-clause-made c =
    let made = c.in_ok-whole_text.field-0 in
    subst (λ (said : List ℕ). ShowsSample c.args.moment c.args.fork.now (Ok (record { bytes = made.bytes; said = said }))) (sym c.in_ok-whole_text.ensures.said)
    (shows_so c.args.moment _ _ _ _ c.in_ok-derez_words.ensures.asked
    (two_files _ _ _ _ _ _ _ _ _ c.new-shelf.ensures.files c.as_slice.ensures c.in_ok-hold.ensures c.sample_types.ensures c.in_ok-hold-2.ensures) (Ok (making_with made.bytes c.in_ok-shown.shown))
    (c.in_ok-shown.ensures.answered.0 made.bytes c.in_ok-whole_text.ensures.text))

pub returns-in_err-shown-clause-made : goal.returns-in_err-shown-clause-made
returns-in_err-shown-clause-made c =
    ended_made c.in_err-shown.field-0.0 (ShowsSample c.args.moment c.args.fork.now) c.from_residual-in_err-shown.result c.from_residual-in_err-shown.ensures.1
    (shows_so c.args.moment _ _ _ _ c.in_ok-derez_words.ensures.asked
    (two_files _ _ _ _ _ _ _ _ _ c.new-shelf.ensures.files c.as_slice.ensures c.in_ok-hold.ensures c.sample_types.ensures c.in_ok-hold-2.ensures) (Err c.in_err-shown.field-0.0)
    (same_end c.in_ok-derez_words.field-0.from (string_bytes c.in_ok-derez_words.field-0.file) (Shows c.args.moment (derez c.in_ok-derez_words.field-0)) c.hold-2.new.shelf.files
    c.in_err-shown.field-0.0 c.in_err-shown.ensures.answered))

pub returns-in_err-shown-clause-bad : goal.returns-in_err-shown-clause-bad
returns-in_err-shown-clause-bad c = end_sayable c.in_err-shown.field-0.0 c.from_residual-in_err-shown.result c.from_residual-in_err-shown.ensures.1 c.in_err-shown.ensures.bad

pub returns-in_err-shown-clause-unread : goal.returns-in_err-shown-clause-unread
returns-in_err-shown-clause-unread c =
    end_unread c.in_err-shown.field-0.0 c.from_residual-in_err-shown.result c.from_residual-in_err-shown.ensures.1 (never_fails c.in_err-shown.ensures.reads.cause)

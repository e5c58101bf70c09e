use Rattle.std.proofs.Common.{rules, subst}
use Rattle.rz_folder.proofs.Streams.{failed_with, kept_with, then_with}
use Rattle.rz_fork.specs.Contents.{Fork}
use Rattle.rz_tools_text.specs.Chosen.{chosen}
use Rattle.rz_tools_text.specs.Held.{known_of}
use Rattle.rz_tools_text.specs.Text.{ShowsEach}
use Rattle.rz_tools_text.proofs.Lists.{one_fork, text_failed, text_flushed}
use Rattle.rz_tools_text.proofs.text.ForkText.put.Goals as goal

pub returns-in-Done-clause-told : goal.returns-in-Done-clause-told
returns-in-Done-clause-told g c text is =
    let t = c.args.self.now in
    text_flushed text _ _ _ c.in_ok-put_each-in-Ok.field-0 _ c.in-Done.is
    (c.in_ok-put_each-in-Ok.ensures.told text
    (subst (λ (f : Fork). ShowsEach (known_of t.known) (chosen t.only t.skip f.list) text)
    (one_fork t.fork c.as_slice.result.now c.as_slice.ensures c.in-Ok.fork is.0 c.in-Ok.ensures.ok is.1) is.2))
    (search rules)

pub returns-in-Failed-clause-told : goal.returns-in-Failed-clause-told
returns-in-Failed-clause-told g c text is =
    let t = c.args.self.now in
    text_failed text _ _ c.in_ok-put_each-in-Ok.field-0 c.in-Failed.is
    (c.in_ok-put_each-in-Ok.ensures.told text
    (subst (λ (f : Fork). ShowsEach (known_of t.known) (chosen t.only t.skip f.list) text)
    (one_fork t.fork c.as_slice.result.now c.as_slice.ensures c.in-Ok.fork is.0 c.in-Ok.ensures.ok is.1) is.2))

pub returns-in-Done-clause-counted : goal.returns-in-Done-clause-counted
returns-in-Done-clause-counted g c =
    then_with _ _ _ c.flush.result (kept_with _ _ c.in_ok-put_each-in-Ok.field-0 c.in-Done.is c.in_ok-put_each-in-Ok.ensures.counted) c.flush.ensures.counted

pub returns-in-Failed-clause-counted : goal.returns-in-Failed-clause-counted
returns-in-Failed-clause-counted g c = failed_with _ _ c.in_ok-put_each-in-Ok.field-0 c.in-Failed.is c.in_ok-put_each-in-Ok.ensures.counted

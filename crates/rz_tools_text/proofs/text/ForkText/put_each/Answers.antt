use Rattle.std.proofs.Common.{List, refl, sym, ap, subst, ◌∙◌}
use Rattle.std.proofs.lemmas.Result.{err_from_is_err_and}
use Rattle.rz_core.specs.declared.resource.Resource.{Resource}
use Rattle.rz_folder.proofs.Streams.{failed_with, kept_with}
use Rattle.rz_folder.specs.Counts.{next}
use Rattle.rz_fork.specs.View.{lent}
use Rattle.rz_tools_text.specs.Chosen.{chosen}
use Rattle.rz_tools_text.specs.Held.{known_of}
use Rattle.rz_tools_text.specs.Text.{ShowsEach}
use Rattle.rz_tools_text.proofs.Lists.{each_begun, each_failed, each_next, each_refused}
use Rattle.rz_tools_text.proofs.text.ForkText.put_each.Goals as goal

pub loop-one-init : goal.loop-one-init
loop-one-init g c =
    let t = c.args.self.now in
    record {
      told = λ text shows. each_begun (known_of t.known) t.only t.skip text c.walk-walk.result
          (subst (λ (list : List Resource). ShowsEach (known_of t.known) (chosen t.only t.skip list) text) (sym c.walk-walk.ensures) shows) _;
      quiet = refl;
    }

pub loop-one-preserved : goal.loop-one-preserved
loop-one-preserved g c = record {
  told = λ text shows. each_next (known_of c.args.self.now.known) c.args.self.now.only c.args.self.now.skip text c.loop-one.walk c.next.new.self (lent c.in-Some.one) c.in-Some.ensures
      _ _ _ c.in_ok-put_chosen.field-0 c.in-Done.is (c.loop-one.invariant.told text shows) c.in_ok-put_chosen.ensures.told;
  quiet = kept_with _ _ c.in_ok-put_chosen.field-0 c.in-Done.is c.in_ok-put_chosen.ensures.counted ∙ c.loop-one.invariant.quiet;
}

pub returns-in-Failed-clause-told : goal.returns-in-Failed-clause-told
returns-in-Failed-clause-told g c text shows =
    each_failed (known_of c.args.self.now.known) c.args.self.now.only c.args.self.now.skip text c.loop-one.walk c.next.new.self (lent c.in-Some.one) c.in-Some.ensures
    _ _ _ c.in_ok-put_chosen.field-0 c.in-Failed.is (c.loop-one.invariant.told text shows) c.in_ok-put_chosen.ensures.told

pub returns-in_err-put_chosen-clause-told : goal.returns-in_err-put_chosen-clause-told
returns-in_err-put_chosen-clause-told g c text shows =
    let p = err_from_is_err_and c.from_residual.result c.from_residual.ensures.1 in
    rw p.1
    (each_refused (known_of c.args.self.now.known) c.args.self.now.only c.args.self.now.skip text c.loop-one.walk c.next.new.self (lent c.in-Some.one) c.in-Some.ensures
    _ _ _ c.in_err-put_chosen.field-0.0 (c.loop-one.invariant.told text shows) c.in_err-put_chosen.ensures.told)

pub returns-in-Failed-clause-counted : goal.returns-in-Failed-clause-counted
returns-in-Failed-clause-counted g c =
    failed_with _ _ c.in_ok-put_chosen.field-0 c.in-Failed.is c.in_ok-put_chosen.ensures.counted ∙ ap next c.loop-one.invariant.quiet

pub returns-in_err-put_chosen-clause-counted : goal.returns-in_err-put_chosen-clause-counted
returns-in_err-put_chosen-clause-counted g c =
    let p = err_from_is_err_and c.from_residual.result c.from_residual.ensures.1 in
    rw p.1 (c.in_err-put_chosen.ensures.counted ∙ c.loop-one.invariant.quiet)

use Rattle.std.proofs.Common.{◌+◌, ◌∙◌, List, drop, subst, arith, refl, Ok}
use Rattle.std.proofs.lemmas.List.{at_drop_all}
use Rattle.std.proofs.lemmas.Option.{slice_get_within}
use Rattle.std.proofs.lemmas.Result.{err_from_is_err_and}
use Rattle.rz_folder.proofs.Allowed.{may_read_of_after}
use Rattle.rz_folder.proofs.Reading.{reads_on}
use Rattle.rz_folder.specs.MayRead.{IsOneOf}
use Rattle.rz_pre.specs.Reached.{IsReached}
use Rattle.rz_pre.specs.Reading.{state_of}
use Rattle.rz_pre.proofs.Going.{at_some, left_in_named, on_named, NamesLead}
use Rattle.rz_pre.proofs.Reaching.{may_read_words}
use Rattle.rz_folder.proofs.Found.{drop_at, if_some}
use Rattle.rz_pre.proofs.unfolding.read_names.Goals as goal

pub read_named-requires-clause-may : goal.read_named-requires-clause-may
read_named-requires-clause-may g c =
    may_read_words g.F.Folder c.args.setting.paths.now c.loop-k.folder c.args.names.now c.loop-k.k c.at.result.now c.at.ensures
    (may_read_of_after g.F.Folder c.loop-k.invariant.reads (λ files. IsReached c.args.setting.paths.now files (IsOneOf c.args.names.now)) c.requires.may)

pub returns-in_err-read_named-clause-read : goal.returns-in_err-read_named-clause-read
returns-in_err-read_named-clause-read g c = if_some (g.F.Folder.files c.args.folder.now) _ (λ files told.
    let p = err_from_is_err_and c.from_residual.result c.from_residual.ensures.1 in
    rw (p.1, p.2) (left_in_named c.args.setting.tool files c.args.setting.paths.now c.args.names.now (drop (c.loop-k.k + 1) c.args.names.now)
    (state_of c.args.reading.now) (state_of c.loop-k.reading) c.at.result.now
    (subst (λ (rest : List _). NamesLead c.args.setting.tool files c.args.setting.paths.now c.args.names.now rest (state_of c.args.reading.now) (state_of c.loop-k.reading))
    (drop_at c.args.names.now c.loop-k.k c.at.result.now c.at.ensures) (c.loop-k.invariant.leads files told))
    c.in_err-read_named.field-0.0 _ (at_some _ files (c.loop-k.invariant.reads.unchanged ∙ told) _ c.in_err-read_named.ensures.read)))

pub loop-k-preserved : goal.loop-k-preserved
loop-k-preserved g c = record {
  leads = λ files told. on_named c.args.setting.tool files c.args.setting.paths.now c.args.names.now (drop (c.loop-k.k + 1) c.args.names.now)
      (state_of c.args.reading.now) (state_of c.loop-k.reading) c.at.result.now
      (subst (λ (rest : List _). NamesLead c.args.setting.tool files c.args.setting.paths.now c.args.names.now rest (state_of c.args.reading.now) (state_of c.loop-k.reading))
      (drop_at c.args.names.now c.loop-k.k c.at.result.now c.at.ensures) (c.loop-k.invariant.leads files told))
      _ (at_some _ files (c.loop-k.invariant.reads.unchanged ∙ told) _ c.in_ok-read_named.ensures.read);
  within = let lt = slice_get_within c.args.names.now c.loop-k.k c.at.result.now c.at.ensures in omega (arith, lt);
  reads = reads_on g.F.Folder _ _ _ _ _ ⊥ c.loop-k.invariant.reads c.in_ok-read_named.ensures.reads (λ never. absurd never);
  placed = c.in_ok-read_named.ensures.placed;
  lexed = λ before. c.in_ok-read_named.ensures.lexed (c.loop-k.invariant.lexed before);
  more = omega (arith, c.in_ok-read_named.ensures.more, c.loop-k.invariant.more);
}

pub returns-clause-read : goal.returns-clause-read
returns-clause-read g c = if_some (g.F.Folder.files c.args.folder.now) _ (λ files told.
    subst (λ (rest : List _). NamesLead c.args.setting.tool files c.args.setting.paths.now c.args.names.now rest (state_of c.args.reading.now) (state_of c.loop-k.reading))
    (at_drop_all (λ (rest : List _). rest) c.args.names.now c.loop-k.k (omega (arith, c.loop-k-test.false, c.len.ensures))) (c.loop-k.invariant.leads files told)
    (Ok (state_of c.loop-k.reading)) refl)

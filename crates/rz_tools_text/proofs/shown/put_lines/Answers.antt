use Rattle.std.proofs.Common.{ℕ, List, ◌∷◌, ◌∙◌, refl, sym, ap}
use Rattle.rz_folder.specs.Counts.{next}
use Rattle.rz_tools_text.proofs.Lists.{line_done, line_failed, lines_begun}
use Rattle.rz_tools_text.proofs.shown.put_lines.Goals as goal

pub lines-init : goal.lines-init
lines-init g c = record { put = lines_begun c.args.lines _; quiet = refl }

pub lines-preserved : goal.lines-preserved
lines-preserved g c = record {
  put = line_done c.args.lines c.as_slice.result.now c.lines.left c.next.new.self
      (c.in-Some.ensures ∙ ap (λ (l : List ℕ). l ∷ c.next.new.self) (sym c.as_slice.ensures)) _ _ _ c.lines.invariant.put c.in-Done.ensures.told;
  quiet = c.in-Done.ensures.counted ∙ c.lines.invariant.quiet;
}

pub returns-in-Failed-clause-told : goal.returns-in-Failed-clause-told
returns-in-Failed-clause-told g c =
    line_failed c.args.lines c.as_slice.result.now c.lines.left c.next.new.self
    (c.in-Some.ensures ∙ ap (λ (l : List ℕ). l ∷ c.next.new.self) (sym c.as_slice.ensures)) _ _ _ c.lines.invariant.put c.in-Failed.ensures.told

pub returns-in-Failed-clause-counted : goal.returns-in-Failed-clause-counted
returns-in-Failed-clause-counted g c = c.in-Failed.ensures.counted ∙ ap next c.lines.invariant.quiet
